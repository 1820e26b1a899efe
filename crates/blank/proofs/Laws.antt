-- Laws of blanks and comments, over plain variables.
use mathlib.Core.Path.{◌≡◌, refl, sym, ap, ◌∙◌}
use mathlib.Core.Bool.{Bool, true, false, not}
use mathlib.Core.List.{List, [], ◌∷◌}
use Prim.Native.Nat.{ℕ, suc, ◌+◌, ◌≤◌, ◌<◌}
use Prim.Native.Char.{code}
use native.Mathlib.Omega.{arith}
use lib.ListN.{length}
use lib.Dec.{leb, eqb}
use borrow.Author.Tests.{eqb-true, lt-ltb, leb-true, not-true}
use Rattle.rules.specs.Forest.{Forest, nil, byte, ◌⋈◌}
use Rattle.rules.specs.Rule.{Rule, step, seq, many}
use Rattle.rules.specs.Parse.{got, trouble, pick, behind, byte_at, opens, no_char, code_at, parse, parsed, read_at}
use Rattle.rules.proofs.Run.{goes, never, both}
use Rattle.jsx.specs.Refusal.{comment_never_closed}
use Rattle.jsx.specs.Byte.{one_of, bytes_of, is, end, ◌‥◌, character}
use Rattle.jsx.specs.Blank.{space_separator, white_space, line_terminator, blank_char, comment_turn, comment, line_turn}
use Rattle.jsx.specs.Blank.{line_comment, blank, blanks, pass}
use Rattle.lex.specs.Contract.{out_of, nothing, Leaf}
use Rattle.lex.specs.Answer.{Ans, Got, No}
use Rattle.lex.proofs.Laws as Lex
use Rattle.lex.proofs.Laws.{before_end}
use Rattle.lex.proofs.Ranges.{each, each_passes}
use Rattle.lex.proofs.Turns.{Turns, turns_end, turns_no}
use Rattle.character.specs.Width.{width_of}
use Rattle.character.proofs.CodeSteps.{code_alone}
use Rattle.character.proofs.Read.{character_read}
use Rattle.blank.specs.Here.{line_ends}

-- ---- comments

module _ (s : List ℕ) (F e at : ℕ) (u : Rule) (i : at + 2 ≤ length s) where
  -- Past two bytes.
  two_steps : parse s F (seq step (seq step u)) e at
      ≡ behind (byte (byte_at s at) nil) (behind (byte (byte_at s (at + 1)) nil) (parse s F u e (at + 2)))
  unfolding parse
  two_steps =
      let k : at + 1 + 1 ≡ at + 2 = omega arith in
      rw (lt-ltb at (length s) (omega arith), lt-ltb (at + 1) (length s) (omega arith), k)

-- Two bytes that stand here stand within the input.
pub two_inside : (s : List ℕ) (p a b : ℕ) → b < 256 → opens s (a ∷ b ∷ []) p ≡ true → p + 2 ≤ length s
unfolding opens
two_inside s p a b h e =
    let k = both (eqb (byte_at s p) a) (opens s (b ∷ []) (p + 1)) e in
    let i = before_end s (p + 1) b (eqb-true _ b (sym (Lex.opens_one s (p + 1) b) ∙ k.1)) h in
    omega arith

module _ (s : List ℕ) (F e p : ℕ) where
  -- A turn of `/*`: the input ends.
  pub comment_open : end (byte_at s p) ≡ true → parse s F comment_turn e p ≡ trouble comment_never_closed e e 0 0
  unfolding parse comment_turn
  comment_open t = rw t

  module _ (t : end (byte_at s p) ≡ false) where
    -- A turn of `/*`: `*/`.
    pub comment_close : opens s (bytes_of "*/") p ≡ true → parse s F comment_turn e p ≡ got false nil p
    unfolding parse comment_turn
    comment_close u = rw (t, u)

    -- A turn of `/*`: another byte.
    pub comment_step : opens s (bytes_of "*/") p ≡ false → p < length s
        → parse s F comment_turn e p ≡ got true (byte (byte_at s p) nil) (p + 1)
    unfolding parse comment_turn
    comment_step u i = rw (t, u, lt-ltb p (length s) i)

module _ (s : List ℕ) (at : ℕ) (i : at + 2 ≤ length s) where
  -- A comment whose turns refuse.
  pub comment_no : {n a b c d : ℕ} → parsed s (many comment_turn) at (at + 2) ≡ trouble n a b c d
      → read_at s comment at ≡ trouble n a b c d
  unfolding parse comment
  comment_no e = two_steps s (suc (length s)) at at (seq (many comment_turn) (seq step step)) i ∙ rw e

  -- One whose turns end before `*/`.
  pub comment_got : {o : Forest} {p : ℕ} → parsed s (many comment_turn) at (at + 2) ≡ got true o p → p + 2 ≤ length s
      → read_at s comment at ≡ got true
      (byte (byte_at s at) nil ⋈ (byte (byte_at s (at + 1)) nil
      ⋈ (o ⋈ (byte (byte_at s p) nil ⋈ byte (byte_at s (p + 1)) nil))))
      (p + 2)
  unfolding parse comment
  comment_got {o} {p} e j =
      let k : p + 1 + 1 ≡ p + 2 = omega arith in
      two_steps s (suc (length s)) at at (seq (many comment_turn) (seq step step)) i
      ∙ rw (e, lt-ltb p (length s) (omega arith), lt-ltb (p + 1) (length s) (omega arith), k)

  -- `//` whose turns end: so does it.
  pub line_got : {o : Forest} {p : ℕ} → parsed s (many line_turn) 0 (at + 2) ≡ got true o p
      → read_at s line_comment at ≡ got true (byte (byte_at s at) nil ⋈ (byte (byte_at s (at + 1)) nil ⋈ o)) p
  unfolding line_comment
  line_got e = two_steps s (suc (length s)) 0 at _ i ∙ rw e

-- What does not end the line stands within the input.
pub line_inside : (s : List ℕ) (p : ℕ) → line_ends s p ≡ false → p ≤ length s → p < length s
unfolding line_ends
line_inside s p t i = Lex.not_end s p (λ x. never (sym (rw x at t))) i

-- One answer for two tests.
either : {A : Type 0} (a b : Bool) (x y : A) → pick a true b ≡ true → pick a x (pick b x y) ≡ x
either true b x y h = refl
either false true x y h = refl
either false false x y h = never h

neither : {A : Type 0} (a b : Bool) (x y : A) → pick a true b ≡ false → pick a x (pick b x y) ≡ y
neither true b x y h = never (sym h)
neither false true x y h = never (sym h)
neither false false x y h = refl

module _ (s : List ℕ) (F e p : ℕ) where
  -- A turn of `//`: the line ends.
  pub line_end_lem : line_ends s p ≡ true → parse s F line_turn e p ≡ got false nil p
  unfolding parse line_turn line_ends
  line_end_lem t = either (end (byte_at s p)) (line_terminator (code_at s p)) _ _ t

  -- A turn of `//`: another byte.
  pub line_step : line_ends s p ≡ false → p < length s
      → parse s F line_turn e p ≡ got true (byte (byte_at s p) nil) (p + 1)
  unfolding parse line_turn line_ends
  line_step t i =
      neither (end (byte_at s p)) (line_terminator (code_at s p)) _ _ t
      ∙ rw (lt-ltb p (length s) i)

-- A comment goes on where it got something.
pub goes_comment : goes comment ≡ true
unfolding goes comment
goes_comment = refl

-- So does a line comment.
pub goes_line : goes line_comment ≡ true
unfolding goes line_comment
goes_line = refl

-- ---- one turn of the blanks

module _ (s : List ℕ) (p : ℕ) where
  -- Two bytes, of which only the first stands here; two that stand here.
  second_not : (a b : ℕ) → eqb (byte_at s p) a ≡ true → eqb (byte_at s (p + 1)) b ≡ false
      → opens s (a ∷ b ∷ []) p ≡ false
  second_not a b h k = Lex.opens_yes s (b ∷ []) p a h ∙ Lex.opens_one s (p + 1) b ∙ k

  both_here : (a b : ℕ) → eqb (byte_at s p) a ≡ true → eqb (byte_at s (p + 1)) b ≡ true → opens s (a ∷ b ∷ []) p ≡ true
  both_here a b h k = Lex.opens_yes s (b ∷ []) p a h ∙ Lex.opens_one s (p + 1) b ∙ k

-- No blank has the code that no character has.
not_blank : blank_char no_char ≡ false
unfolding one_of blank_char white_space space_separator line_terminator
not_blank = refl

-- No blank is a character of ASCII behind the space.
pub not_token : (b : ℕ) → (0x21 ‥ 0x7F) b ≡ true → blank_char b ≡ false
unfolding one_of each blank_char white_space space_separator line_terminator
not_token b h =
    let k = both (leb 0x21 b) (leb b 0x7F) h in
    let l = leb-true 0x21 b k.0 in
    let m = leb-true b 0x7F k.1 in
    not-true (blank_char b) (each_passes (λ c. not (blank_char c)) 0x21 0x5F refl b l (omega arith))

module _ (s : List ℕ) (p : ℕ) where
  -- A blank is a character.
  pub blank_coded : blank_char (code_at s p) ≡ true → code_at s p ≡ no_char → ⊥
  blank_coded t e = never (sym not_blank ∙ sym (ap blank_char e) ∙ t)

  -- A character of ASCII behind the space is no blank.
  pub token_other : (0x21 ‥ 0x7F) (byte_at s p) ≡ true → blank_char (code_at s p) ≡ false
  token_other h =
      let m = leb-true (byte_at s p) 0x7F (both (leb 0x21 (byte_at s p)) (leb (byte_at s p) 0x7F) h).1 in
      ap blank_char (sym (code_alone s p refl (omega arith))) ∙ not_token (byte_at s p) h

module _ (s : List ℕ) (F e p : ℕ) where
  -- A blank.
  pub blank_step : blank_char (code_at s p) ≡ true
      → parse s F blank e p ≡ got true (out_of (parse s F character e p)) (p + width_of (byte_at s p))
  unfolding parse blank
  blank_step t = rw t (character_read s F e p (blank_coded s p t))

  module _ (t : blank_char (code_at s p) ≡ false) where
    -- Neither a blank nor a `/`.
    pub blank_other : is "/" (byte_at s p) ≡ false → parse s F blank e p ≡ got false nil p
    unfolding parse blank
    blank_other u = rw (t, Lex.opens_no s (bytes_of "*") p (code "/") u, Lex.opens_no s (bytes_of "/") p (code "/") u)

    module _ (u : is "/" (byte_at s p) ≡ true) where
      -- `/*`.
      pub blank_comment : is "*" (byte_at s (p + 1)) ≡ true → parse s F blank e p ≡ parse s F comment e p
      unfolding parse blank
      blank_comment v = rw (t, both_here s p (code "/") (code "*") u v)

      module _ (v : is "*" (byte_at s (p + 1)) ≡ false) where
        -- `//`.
        pub blank_line : is "/" (byte_at s (p + 1)) ≡ true → parse s F blank e p ≡ parse s F line_comment e p
        unfolding parse blank
        blank_line w = rw (t, second_not s p (code "/") (code "*") u v, both_here s p (code "/") (code "/") u w)

        -- A `/` alone.
        pub blank_slash : is "/" (byte_at s (p + 1)) ≡ false → parse s F blank e p ≡ got false nil p
        unfolding parse blank
        blank_slash w = rw (t, second_not s p (code "/") (code "*") u v, second_not s p (code "/") (code "/") u w)

module _ {s : List ℕ} {at p : ℕ} (l : Turns s blank 0 at p) where
  -- The blanks end here.
  pub blanks_end : read_at s blank p ≡ got false nil p → Leaf nothing (Got p 0) s blanks at 0
  unfolding blanks
  blanks_end b = Lex.leaf_done nothing s blanks at 0 p 0 (turns_end l b) refl (omega arith)

  -- They refuse.
  pub blanks_no : {r : Ans} {n a b c d : ℕ} → read_at s blank p ≡ trouble n a b c d → r ≡ No n a b c d
      → Leaf nothing r s blanks at 0
  unfolding blanks
  blanks_no b f = Lex.leaf_stop nothing s blanks at 0 f (turns_no l b)

-- A byte, and the blanks behind it.
pub pass_is : (s : List ℕ) (at : ℕ) → at < length s
    → read_at s pass at ≡ behind (byte (byte_at s at) nil) (read_at s blanks (at + 1))
unfolding pass
pass_is s at h = Lex.seq_is s (suc (length s)) 0 at step blanks (Lex.step_is s (suc (length s)) 0 at h)
