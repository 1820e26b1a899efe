-- What the contracts of leaves say: the code's answer is what a rule reads.
use Rattle.std.specs.Prelude.{ℕ, zero, suc, ◌+◌, ◌≤◌, ◌≡◌, Bool, true, List, [], ◌∷◌, length, get_or, eqb}
use Rattle.rules.specs.Forest.{Forest, nil}
use Rattle.rules.specs.Rule.{Rule, step, when, ◌⇒◌∣◌}
use Rattle.rules.specs.Parse.{Answer, got, trouble, read_at}
use Rattle.jsx.specs.Byte.{need}
use Rattle.lex.specs.Answer.{Ans, Got, No}

-- What the code returns: the next place and a number that stands for what was read, or the refusal.
abbrev pub view : (Bool → Forest → ℕ) → Answer → Ans
view w (got a o p) = Got p (w a o)
view w (trouble n a b c d) = No n a b c d

-- What was read, if anything.
abbrev pub out_of : Answer → Forest
out_of (got a o p) = o
out_of (trouble n a b c d) = nil

-- The number that stands for what was read, where none is needed.
abbrev pub nothing : Bool → Forest → ℕ
nothing a o = 0

-- A leaf's answer is what the rule t reads at `at`; what it got ends at least k bytes on, and within the input.
pub record Leaf (w : Bool → Forest → ℕ) (r : Ans) (s : List ℕ) (t : Rule) (at k : ℕ) : Type 0 where
  pub is : r ≡ view w (read_at s t at)
  pub far : (p m : ℕ) → r ≡ Got p m → (at + k ≤ p) × (p ≤ length s)

-- A leaf that can't refuse says only where it ends.
pub record Past (r : ℕ) (s : List ℕ) (t : Rule) (at k : ℕ) : Type 0 where
  pub is : read_at s t at ≡ got true (out_of (read_at s t at)) r
  pub far : (at + k ≤ r) × (r ≤ length s)

-- This byte and no other, by its number: `expect "<"` is `expect_byte 60`.
abbrev pub expect_byte : ℕ → Rule
expect_byte c = when (λ b. eqb b c) ⇒ step ∣ need

-- The bytes from a on, n of them.
unfoldable pub bytes_from : List ℕ → (a n : ℕ) → List ℕ
bytes_from s a zero = []
bytes_from s a (suc n) = get_or s a 256 ∷ bytes_from s (a + 1) n
