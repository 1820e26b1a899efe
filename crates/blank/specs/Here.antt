-- What stands at a place: a blank, by its bytes, or the end of a line.
use Rattle.std.specs.Prelude.{◌≡◌, Bool, true, false, List, ℕ, ltb, Option, None, Some, Result, MatchResult}
use Rattle.rules.specs.Rule.{Test}
use Rattle.rules.specs.Parse.{pick, byte_at, code_at, opens}
use Rattle.jsx.specs.Refusal.{comment_never_closed}
use Rattle.jsx.specs.Byte.{is, end, bytes_of}
use Rattle.jsx.specs.Blank.{blank_char, line_terminator}
use Rattle.lex.specs.Answer.{Ans, Got, No, refused}
use Rattle.lex.specs.declared.refusal.Refusal.{Refusal}
use Rattle.lanes.specs.Lanes.{beyond}
use Rattle.character.specs.Width.{width_of}

-- A byte that is a blank by itself.
unfoldable pub blank_byte : Test
blank_byte b = pick (ltb b 0x80) (blank_char b) false

-- How many bytes the blank has that stands here, if one does.
unfoldable pub blank_width : List ℕ → ℕ → Option ℕ
blank_width s at = pick (blank_char (code_at s at)) (Some (width_of (byte_at s at))) None

-- Whether a `//` comment ends here.
unfoldable pub line_ends : List ℕ → ℕ → Bool
line_ends s at = pick (end (byte_at s at)) true (line_terminator (code_at s at))

-- A byte at which a scan of a `//` comment stops: one that ends a line, or one beyond ASCII.
abbrev pub line_stop : Test
line_stop b = pick (is "\n" b) true (pick (is "\r" b) true (beyond b))

-- What a skip of blanks answers that stopped at p: a comment that begins there is never closed.
abbrev pub stopped : List ℕ → ℕ → Ans
stopped s p = pick (opens s (bytes_of "/*") p) (No comment_never_closed p p 0 0) (Got p 0)

-- The one refusal of a comment, at its first byte.
abbrev pub NeverClosed : ℕ → Result ℕ Refusal → Type 0
NeverClosed at r = MatchResult r (λ p. Unit {0}) (λ e. refused e ≡ No comment_never_closed at at 0 0)
