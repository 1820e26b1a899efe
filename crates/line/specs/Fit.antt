-- What fits into a line.
use Rattle.std.specs.Prelude.{ℕ, ◌-◌, List, ◌++◌, length, take}

-- A line with bytes put behind it, as many as it has room for.
abbrev pub with_fitting : (line bytes : List ℕ) → List ℕ
with_fitting l x = l ++ take (4_096 - length l) x
