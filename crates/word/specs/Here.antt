-- A part of a name at a place: its characters, one by one, by ASCII bytes, by common scripts and by the table.
use Rattle.std.specs.Prelude.{◌≡◌, Bool, true, false, List, ℕ, ltb, Option, Some, None, MatchOption}
use Rattle.rules.specs.Rule.{Test, Rule, stop, when_char, many, ◌⇒◌∣◌}
use Rattle.rules.specs.Parse.{pick, byte_at, code_at}
use Rattle.jsx.specs.Byte.{is, ◌or◌, character}
use Rattle.jsx.specs.Name.{in_word, opens_part, in_part, part as name_part}
use Rattle.lex.specs.Contract.{Past}
use Rattle.character.specs.Width.{width_of}
use Rattle.identifier.specs.Script.{common, gap}

-- A byte of ASCII in a part.
unfoldable pub name_byte : Test
name_byte = in_word or is "-"

-- What a part is behind its first character.
abbrev pub rest_of_part : Rule
rest_of_part = many (when_char in_part ⇒ character ∣ stop)

-- How many bytes the character has that stands here, if it is one of a part.
unfoldable pub part_width : List ℕ → ℕ → Option ℕ
part_width s at = pick (in_part (code_at s at)) (Some (width_of (byte_at s at))) None

-- The same of those that are of ASCII or of a common script.
unfoldable pub common_width : List ℕ → ℕ → Option ℕ
common_width s at =
    pick (ltb (byte_at s at) 0x80) (pick (name_byte (byte_at s at)) (Some 1) None)
    (pick (common (code_at s at)) (Some (width_of (byte_at s at))) None)

-- A byte of ASCII, or what stands between names.
unfoldable pub ends_part : List ℕ → ℕ → Bool
ends_part s at = pick (ltb (byte_at s at) 0x80) true (gap (code_at s at))

-- r is the end of the part that begins here; it is None just where none begins.
abbrev pub EndOfPart : Option ℕ → List ℕ → ℕ → Type 0
EndOfPart r s at =
    MatchOption r (opens_part (code_at s at) ≡ false)
    (λ e. (opens_part (code_at s at) ≡ true) × Past e s name_part at 1)
