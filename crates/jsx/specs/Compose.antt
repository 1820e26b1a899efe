-- The words of demand 3: what is accepted, runs that are joined, contents that are replaced.
use Rattle.std.specs.Prelude.{ℕ, zero, suc, ◌+◌, ◌-◌, ◌*◌, ◌≤◌, ◌<◌, ◌≡◌, Bool, true, false, List, ◌++◌, length, take}
use Rattle.std.specs.Prelude.{drop, replicate, eqb}
use Rattle.rules.specs.Forest.{Label, node, content, Forest, nil}
use Rattle.rules.specs.Rule.{Rule}
use Rattle.rules.specs.Parse.{Answer, got, trouble, pick, parse_all}
use Rattle.rules.specs.Record.{row_words, records}
use Rattle.rules.specs.Moved.{each_row, moved}
use Rattle.rules.specs.Joined.{join}
use Rattle.rules.specs.Replaced.{inside_of, content_depth, Change, widened, pushed}
use Rattle.jsx.specs.Kind as Kind
use Rattle.jsx.specs.Utf8.{utf8}
use Rattle.jsx.specs.Reading.{Limits, answer}
use Rattle.jsx.specs.Table.{missing, check, read, table_word}

-- ---- accepted

-- D: "Accepted there is number 0 from the check".
abbrev pub Accepted : Limits → (ℕ → Rule) → List ℕ → Type 0
Accepted l reading s = (check l reading s).number ≡ 0

-- How many records the check counts.
abbrev pub count_of : Limits → (ℕ → Rule) → List ℕ → ℕ
count_of l reading s = (check l reading s).count

-- The rows that a read writes: the table that it leaves, where there is room for just them.
unfoldable pub rows_read : Limits → (ℕ → Rule) → List ℕ → List ℕ
rows_read l reading s = (read l reading s (replicate (row_words * count_of l reading s) 0)).table

-- The depth that a row's parent gives it: 0 where it has none, else one more than the parent's.
unfoldable pub depth_by_parent : (t : List ℕ) (j : ℕ) → ℕ
depth_by_parent t j = pick (eqb (table_word t j 3) missing) 0 (table_word t (table_word t j 3) 6 + 1)

-- The limits with another depth.
abbrev pub with_depth : Limits → ℕ → Limits
with_depth l d = record { bytes = l.bytes; depth = d }

-- ---- what is read

-- Something was got.
abbrev pub IsGot : Answer → Type 0
IsGot (got a o p) = Unit {0}
IsGot (trouble n a b c d) = ⊥

-- Well-formed UTF-8.
unfoldable pub WellFormed : List ℕ → Type 0
WellFormed s = IsGot (parse_all utf8 s)

-- The rule reads the input, from its first byte on, as that forest.
unfoldable pub Reads : Rule → List ℕ → Forest → Type 0
Reads t s u = (p : ℕ) × (parse_all t s ≡ got true u p)

-- The input keeps the length limit, is well-formed UTF-8, and is read as that forest.
pub record ReadAs (l : Limits) (reading : ℕ → Rule) (s : List ℕ) (u : Forest) : Type 0 where
  pub short : length s ≤ l.bytes
  pub well_formed : WellFormed s
  pub reads : Reads (reading l.depth) s u

-- The rows of a forest, as a read writes them.
abbrev pub rows_of : Forest → List ℕ
rows_of u = records 0 0 missing 0 u

-- The forest that an answer has.
unfoldable pub forest_of : Answer → Forest
forest_of (got a o p) = o
forest_of (trouble n a b c d) = nil

-- ---- runs joined

-- The label of a text.
unfoldable pub text_label : Label → Bool
text_label (node k x) = eqb k Kind.text
text_label (content d) = false

-- Demand 3: "the first's followed by the second's, .., except that a text meeting a text becomes one".
abbrev pub joined_readings : Forest → Forest → Forest
joined_readings u v = join text_label u v

-- Of rows t: the kind of the last of the first m records that has no parent, 0 if there is none.
unfoldable pub last_outermost : List ℕ → (m : ℕ) → ℕ
last_outermost t zero = 0
last_outermost t (suc m) = pick (eqb (table_word t m 3) missing) (table_word t m 0) (last_outermost t m)

-- A text meets a text: the last outermost of the m rows t is a 14, and so is the first of the rows t'.
unfoldable pub texts_meet : (t : List ℕ) (m : ℕ) (t' : List ℕ) → Bool
texts_meet t m t' = pick (eqb (last_outermost t m) Kind.text) (eqb (table_word t' 0 0) Kind.text) false

-- ---- a content replaced

-- The bytes from a up to z; the input with others in their place.
abbrev pub bytes_between : (s : List ℕ) (a z : ℕ) → List ℕ
bytes_between s a z = take (z - a) (drop a s)

abbrev pub replaced_bytes : (s : List ℕ) (a z : ℕ) (y : List ℕ) → List ℕ
replaced_bytes s a z y = take a s ++ (y ++ drop z s)

-- A fragment's row, or one of an element with extra 1.
abbrev pub paired_row : (t : List ℕ) (j : ℕ) → Bool
paired_row t j =
    pick (eqb (table_word t j 0) Kind.fragment) true
    (pick (eqb (table_word t j 0) Kind.element) (eqb (table_word t j 5) 1) false)

-- Of m rows t: the record j is paired, and c is its closing tag: a 17 in it that no record in it follows.
pub record Closed (t : List ℕ) (m j c : ℕ) : Type 0 where
  pub known : j < m
  pub is_paired : paired_row t j ≡ true
  pub close_known : c < m
  pub closing : table_word t c 0 ≡ Kind.closing_tag
  pub parent : table_word t c 3 ≡ j
  pub last : table_word t c 4 ≡ table_word t j 4

-- The content of the record j begins where the opening tag, the next record, ends; its first record is the first past
-- that tag's.
abbrev pub content_start : (t : List ℕ) (j : ℕ) → ℕ
content_start t j = table_word t (j + 1) 2

abbrev pub content_first : (t : List ℕ) (j : ℕ) → ℕ
content_first t j = table_word t (j + 1) 4

-- It ends where the closing tag c begins, and its records stand before c.
abbrev pub content_end : (t : List ℕ) (c : ℕ) → ℕ
content_end t c = table_word t c 1

abbrev pub content_rows : (t : List ℕ) (j c : ℕ) → List ℕ
content_rows t j c = take (row_words * (c - content_first t j)) (drop (row_words * content_first t j) t)

-- The levels that are left inside the record j, as the reading has them at its content. (No word of a table has them:
-- parentheses and operators make no record.)
unfoldable pub depth_left : Limits → (ℕ → Rule) → List ℕ → (j : ℕ) → ℕ
depth_left l reading s j = content_depth (inside_of 0 j (forest_of (answer l reading s)))

-- What changes with the content of the record j, where the run y of m' records comes for it.
abbrev pub content_change : (t : List ℕ) (j c : ℕ) (y : List ℕ) (m' : ℕ) → Change
content_change t j c y m' = record {
  old_bytes = content_end t c - content_start t j;
  new_bytes = length y;
  old_records = c - content_first t j;
  new_records = m';
}

-- D2: "a replaced content adds the enclosing record's depth plus one".
abbrev pub content_deeper : (t : List ℕ) (j : ℕ) → ℕ
content_deeper t j = table_word t j 6 + 1

-- The rows t with the rows t' for the content of the record j: in front of it only `end` and `after` of the records
-- around it move; t' stands moved along, its outermost records in j, and each as much deeper; behind it all places and
-- numbers of records behind it move. Outside no depth changes.
abbrev pub replaced_rows : (t : List ℕ) (j c : ℕ) → Change → (t' : List ℕ) → List ℕ
replaced_rows t j c h t' =
    each_row (widened (content_first t j) h) (take (row_words * content_first t j) t)
    ++ (moved (content_start t j) (content_first t j) (content_deeper t j) missing j t'
    ++ each_row (pushed (content_first t j) missing h) (drop (row_words * c) t))
