-- A table of ranges, as the definition has it.
use Rattle.std.specs.Prelude.{ℕ, List, [], ◌∷◌}

-- First and last code of each range, one behind the other.
abbrev pub flat : List (ℕ × ℕ) → List ℕ
flat [] = []
flat (range ∷ more) = range.0 ∷ range.1 ∷ flat more
