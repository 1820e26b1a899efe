-- What an item of a batch says: its letter, its length and its bytes.
use Rattle.std.specs.Prelude.{ℕ, ◌≡◌, ◌+◌, ◌*◌, List, get_or, eqb, Result, MatchResult}
use Prim.Native.Char.{code}
use Rattle.rules.specs.Rule.{Rule}
use Rattle.rules.specs.Parse.{pick}
use Rattle.jsx.specs.Reading.{stage, run}
use Rattle.stage.specs.declared.Reading.{Reading}
use Rattle.stage.specs.declared.Reading.TheVariants as R
use Rattle.stage.specs.Call.{rule_of}
use Rattle.many.specs.declared.item.BadItem.{BadItem}

-- `s` is a stage, and `r`, the only other letter that is let in, a run. The levels that are allowed come next.
unfoldable pub reading : (letter : ℕ) → ℕ → Rule
reading letter = pick (eqb letter (code "s")) stage run

-- What is read of an item, by its letter; no other letter is let in.
abbrev pub IsReadingOf : (letter : ℕ) → Result Reading BadItem → Type 0
IsReadingOf letter r =
    MatchResult r (λ x. rule_of x ≡ reading letter) (λ _. (letter ≡ code "s" → ⊥) × (letter ≡ code "r" → ⊥))

-- The letter that names a reading.
abbrev pub letter_of : Reading → ℕ
letter_of R.Stage = code "s"
letter_of R.Run = code "r"

-- What is read of an item is the reading that its letter names.
abbrev pub NamedBy : (letter : ℕ) → Result Reading BadItem → Type 0
NamedBy letter r = MatchResult r (λ x. letter ≡ letter_of x) (λ _. Unit {0})

-- Behind the letter stands the length in 4 bytes, low byte first.
abbrev pub length_of : (head : List ℕ) → ℕ
length_of head = get_or head 1 0 + 256 * get_or head 2 0 + 65_536 * get_or head 3 0 + 16_777_216 * get_or head 4 0
