-- Demand 1 on one page: a statement under each of its sentences, of what the calls promise (Call.antt), for every list
-- of numbers. proofs/Demand1.antt proves each of them for `stage` and for `run`.
use Rattle.std.specs.Prelude.{ℕ, ◌≤◌, ◌<◌, ◌≡◌, ◌⊎◌, List}
use Rattle.rules.specs.Rule.{Rule}
use Rattle.rules.specs.Parse.{trouble}
use Rattle.jsx.specs.Refusal.{table_too_small}
use Rattle.jsx.specs.Reading.{standard, answer}
use Rattle.jsx.specs.Table.{holds}
use Rattle.stage.specs.Reply.{Reply, Accepted, Refused}
use Rattle.stage.specs.Call.{Checks, Reads}

-- ---- Demand 1: "Any bytes get an answer. The public calls ask nothing of the caller (no `requires`),"

-- No call in src/lib.rt has a `requires`; and none of their promises is one that no reply can keep.
pub record EveryInputIsAnswered (reading : ℕ → Rule) : Type 0 where
  pub by_check : (s : List ℕ) → (r : Reply) × Checks reading s r
  pub by_read : (s t : List ℕ) → (r : Reply) × (t' : List ℕ) × Reads reading s t r t'

-- ---- "and a refusal gives its number and place from document 01"

-- The check's refusal is the definition's, with one of the numbers 1 to 18.
abbrev pub ChecksRefuseByDefinition : (reading : ℕ → Rule) → Type 0
ChecksRefuseByDefinition reading = (s : List ℕ) (n a b c d : ℕ) → Checks reading s (Refused n a b c d)
    → (answer standard reading s ≡ trouble n a b c d) × (1 ≤ n) × (n ≤ 18)

-- D: 15, "accepted, but more records than the table holds", places "needed count, 0".
pub record TooSmall (reading : ℕ → Rule) (s t : List ℕ) (n a b c d : ℕ) : Type 0 where
  pub is_accepted : Checks reading s (Accepted a)
  pub needed : holds t < a
  pub said : Refused n a b c d ≡ Refused table_too_small a 0 0 0

-- A read's refusal is the check's, or 15.
abbrev pub ReadsRefuseByDefinition : (reading : ℕ → Rule) → Type 0
ReadsRefuseByDefinition reading = (s t t' : List ℕ) (n a b c d : ℕ) → Reads reading s t (Refused n a b c d) t'
    → Checks reading s (Refused n a b c d) ⊎ TooSmall reading s t n a b c d

-- ---- "and writes no word of the lent table."

abbrev pub RefusalsWriteNothing : (reading : ℕ → Rule) → Type 0
RefusalsWriteNothing reading = (s t t' : List ℕ) (n a b c d : ℕ) → Reads reading s t (Refused n a b c d) t' → t' ≡ t
