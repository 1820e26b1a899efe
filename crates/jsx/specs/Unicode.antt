-- The characters of names: ID_Start and ID_Continue of Unicode. Document 02, request 7.
use Rattle.std.specs.Prelude.{ℕ, ◌+◌, ◌*◌, ◌≤◌, ◌<◌, Bool, true, false, List, [], ◌∷◌, length, get_or, leb, ltb}
use Rattle.rules.specs.Rule.{Test}
use Rattle.rules.specs.Parse.{pick}
use Rattle.jsx.specs.Byte.{letter, digit, is, ◌or◌}
use Rattle.jsx.specs.Ranges.{start_ranges, continue_ranges}

-- Whether a code stands in a table of ranges: first and last code of each, both included, the ranges in order.
unfoldable pub in_ranges : List ℕ → Test
in_ranges [] c = false
in_ranges (lo ∷ []) c = false
in_ranges (lo ∷ hi ∷ more) c = pick (ltb c lo) false (pick (leb c hi) true (in_ranges more c))

-- D2: "from the ranges in Unicode's DerivedCoreProperties". In ASCII these are the letters,
unfoldable pub id_start : Test
id_start c = pick (ltb c 0x80) (letter c) (in_ranges start_ranges c)

-- and letters, digits and `_`.
unfoldable pub id_continue : Test
id_continue c = pick (ltb c 0x80) ((letter or digit or is "_") c) (in_ranges continue_ranges c)

-- The first and the last code of the range i of a table.
abbrev pub first_of : List ℕ → ℕ → ℕ
first_of t i = get_or t (2 * i) 0

abbrev pub last_of : List ℕ → ℕ → ℕ
last_of t i = get_or t (2 * i + 1) 0

-- A test of a table: no range begins before `from`, none ends before it begins, and at least one code stands between
-- two.
unfoldable pub ordered_from : (from : ℕ) → List ℕ → Bool
ordered_from from [] = true
ordered_from from (lo ∷ []) = false
ordered_from from (lo ∷ hi ∷ more) = pick (leb from lo) (pick (leb lo hi) (ordered_from (hi + 2) more) false) false

-- D2: "The range table is proved ordered and disjoint once." Both tables pass the test, and what passes it is such a
-- table.
pub record Ordered (t : List ℕ) : Type 0 where
  pub each : (i : ℕ) → 2 * i + 1 < length t → first_of t i ≤ last_of t i
  pub apart : (i j : ℕ) → i < j → 2 * j + 1 < length t → last_of t i < first_of t j
