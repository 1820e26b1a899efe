-- Demand 3 on one page: a statement under each of its sentences. proofs/Demand3.antt proves each of them, and
-- proofs/Worked.antt computes an instance of each. Its words stand in Compose.antt. l: any limits; document 01's are
-- `standard`. Where rows are spoken of, the length limit is at most document 01's, so that no record has the missing
-- parent's number.
use Rattle.std.specs.Prelude.{ℕ, ◌+◌, ◌-◌, ◌≤◌, ◌<◌, ◌≡◌, Bool, true, false, List, [], ◌++◌, length, drop}
use Rattle.rules.specs.Forest.{Forest}
use Rattle.rules.specs.Rule.{Rule}
use Rattle.rules.specs.Parse.{got, trouble, Plain}
use Rattle.rules.specs.Record.{row_words, count}
use Rattle.rules.specs.Moved.{moved}
use Rattle.rules.specs.Joined.{last_ends, first_end}
use Rattle.jsx.specs.Refusal.{too_long}
use Rattle.jsx.specs.Reading.{Limits, answer, run}
use Rattle.jsx.specs.Table.{missing, accepted, holds, written, check, read, table_word}
use Rattle.jsx.specs.Settings.{held, settings}
use Rattle.jsx.specs.Compose.{Accepted, count_of, rows_read, with_depth, ReadAs, rows_of, texts_meet, bytes_between}
use Rattle.jsx.specs.Compose.{replaced_bytes, paired_row, Closed, content_start, content_first, content_end}
use Rattle.jsx.specs.Compose.{content_rows, content_deeper, depth_left, content_change, replaced_rows, depth_by_parent}

-- ---- inputs

-- An input is a list of bytes, `Plain`: each is below 256. Joined with bytes, and with bytes in the place of some, it
-- is one again.
abbrev pub BytesStay : Type 0
BytesStay = (x y : List ℕ) → Plain x → Plain y → Plain (x ++ y) × ((a z : ℕ) → Plain (replaced_bytes x a z y))

-- ---- D2: "Demands 2 and 3, CR 11 and CR 13 read with the limits set; refusals 1 and 14 move with them."

-- Each statement below is for any limits l, so for those that hold behind a settings store, be it good or not: they
-- keep the condition on the length.
abbrev pub LimitsSet : Type 0
LimitsSet = (store : List ℕ) → (held (settings store)).bytes ≤ 1_048_576

-- An input that is longer than the length limit is refused by 1, whatever it holds and wherever the limit lies. (Of the
-- depth limit: RunsDeepen, below.)
abbrev pub TooLongMoves : (reading : ℕ → Rule) → Type 0
TooLongMoves reading = (l : Limits) (s : List ℕ) → l.bytes < length s → answer l reading s ≡ trouble too_long 0 0 0 0

-- ---- D: "Accepted there is number 0 from the check, which has no table and so no 15."

-- Of a reading, `stage` or `run`: an input is accepted just where it keeps the length limit, is well-formed UTF-8 and
-- is read as some forest u. Then the check counts the nodes of u, and a read writes the rows of u.
pub record AcceptedIsRead (reading : ℕ → Rule) : Type 0 where
  pub accepted_read : (l : Limits) (s : List ℕ) → Accepted l reading s → (u : Forest) × ReadAs l reading s u
  pub read_accepted : (l : Limits) (s : List ℕ) (u : Forest) → ReadAs l reading s u
      → Accepted l reading s × (count_of l reading s ≡ count u) × (rows_read l reading s ≡ rows_of u)

-- What is got is got to the input's end, and not by a `stop`.
abbrev pub ReadToTheEnd : (reading : ℕ → Rule) → Type 0
ReadToTheEnd reading = (l : Limits) (s : List ℕ) → Plain s
    → (a : Bool) (u : Forest) (p : ℕ) → answer l reading s ≡ got a u p
    → (a ≡ true) × (p ≡ length s)

-- `rows_read` speaks of every table: with room for the records, a read writes these rows at its front and leaves the
-- rest.
abbrev pub EveryTable : (reading : ℕ → Rule) → Type 0
EveryTable reading = (l : Limits) (s t : List ℕ) → Accepted l reading s → count_of l reading s ≤ holds t
    → read l reading s t ≡ accepted (count_of l reading s) (written (rows_read l reading s) t)

-- A refusal's number is one of 1 to 18, for every list of numbers; the calls give it or 0.
pub record NumbersTo18 (reading : ℕ → Rule) : Type 0 where
  pub refusals : (l : Limits) (s : List ℕ) (n a b c d : ℕ) → answer l reading s ≡ trouble n a b c d → (1 ≤ n) × (n ≤ 18)
  pub check_number : (l : Limits) (s : List ℕ) → (check l reading s).number ≤ 18
  pub read_number : (l : Limits) (s t : List ℕ) → (read l reading s t).number ≤ 18

-- D2: "the number of its ancestors in the table": each row has the depth that its parent gives it.
abbrev pub DepthsCountAncestors : (reading : ℕ → Rule) → Type 0
DepthsCountAncestors reading = (l : Limits) → l.bytes ≤ 1_048_576
    → (s : List ℕ) → Accepted l reading s
    → (j : ℕ) → j < count_of l reading s
    → table_word (rows_read l reading s) j 6 ≡ depth_by_parent (rows_read l reading s) j

-- ---- Demand 3: "If two runs of children are each accepted and together keep the length limit, the joined run is
-- accepted;"

abbrev pub RunsJoin : Type 0
RunsJoin = (l : Limits) (x y : List ℕ) → Plain x → Accepted l run x → Accepted l run y → length (x ++ y) ≤ l.bytes
    → Accepted l run (x ++ y)

-- The empty run is accepted, with no record: so it may stand on either side, and for any content.
abbrev pub EmptyRun : Type 0
EmptyRun = (l : Limits) → Accepted l run [] × (count_of l run [] ≡ 0)

-- "its reading is the first's followed by the second's, moved along,": its rows are the first's, then the second's
-- with places moved by the first's length and record numbers by the first's count; who had no parent has none. D2: "a
-- joined run keeps the word" of depth: it is 0 records deeper.
abbrev pub RowsFollow : Type 0
RowsFollow = (l : Limits) → l.bytes ≤ 1_048_576
    → (x y : List ℕ) → Plain x → Accepted l run x → Accepted l run y → length (x ++ y) ≤ l.bytes
    → texts_meet (rows_read l run x) (count_of l run x) (rows_read l run y) ≡ false
    → (count_of l run (x ++ y) ≡ count_of l run x + count_of l run y)
    × (rows_read l run (x ++ y)
    ≡ rows_read l run x ++ moved (length x) (count_of l run x) 0 missing missing (rows_read l run y))

-- "except that a text meeting a text becomes one.": the first's last row ends where the second's first row ended,
-- moved along, and that row is gone: the others' numbers are moved by one less.
abbrev pub TextsBecomeOne : Type 0
TextsBecomeOne = (l : Limits) → l.bytes ≤ 1_048_576
    → (x y : List ℕ) → Plain x → Accepted l run x → Accepted l run y → length (x ++ y) ≤ l.bytes
    → texts_meet (rows_read l run x) (count_of l run x) (rows_read l run y) ≡ true
    → (count_of l run (x ++ y) + 1 ≡ count_of l run x + count_of l run y)
    × (rows_read l run (x ++ y)
    ≡ last_ends (length x + first_end (rows_read l run y)) (rows_read l run x)
    ++ moved (length x) (count_of l run x - 1) 0 missing missing (drop row_words (rows_read l run y)))

-- ---- Demand 3: "And in any accepted stage, the content of a paired element or fragment"

-- An accepted input (a stage, or a run), its rows, a paired record j of them and its closing tag c.
pub record Stands (reading : ℕ → Rule) (l : Limits) (s : List ℕ) (t : List ℕ) (j c : ℕ) : Type 0 where
  pub small : l.bytes ≤ 1_048_576
  pub plain : Plain s
  pub is_accepted : Accepted l reading s
  pub rows : t ≡ rows_read l reading s
  pub closed : Closed t (count_of l reading s) j c

-- Every paired record has a closing tag, and no other.
abbrev pub OneClosingTag : (reading : ℕ → Rule) → Type 0
OneClosingTag reading = (l : Limits) → l.bytes ≤ 1_048_576
    → (s : List ℕ) → Plain s → Accepted l reading s
    → (j : ℕ) → j < count_of l reading s → paired_row (rows_read l reading s) j ≡ true
    → (c : ℕ) × Closed (rows_read l reading s) (count_of l reading s) j c
    × ((c' : ℕ) → Closed (rows_read l reading s) (count_of l reading s) j c' → c' ≡ c)

-- The content's places and numbers are in order, and the content is itself an accepted run with the depth that is
-- left there: its rows stand there moved along, its outermost records in j, each deeper by j's depth plus one.
pub record ContentIsRun (reading : ℕ → Rule) (l : Limits) (s t : List ℕ) (j c : ℕ) : Type 0 where
  pub start_end : content_start t j ≤ content_end t c
  pub in_input : content_end t c ≤ length s
  pub first_last : content_first t j ≤ c
  pub is_run : Accepted (with_depth l (depth_left l reading s j)) run
      (bytes_between s (content_start t j) (content_end t c))
  pub counted : count_of (with_depth l (depth_left l reading s j)) run
      (bytes_between s (content_start t j) (content_end t c))
      ≡ c - content_first t j
  pub moved_rows : content_rows t j c
      ≡ moved (content_start t j) (content_first t j) (content_deeper t j) missing j
      (rows_read (with_depth l (depth_left l reading s j)) run (bytes_between s (content_start t j) (content_end t c)))

abbrev pub ContentsAreRuns : (reading : ℕ → Rule) → Type 0
ContentsAreRuns reading = (l : Limits) (s t : List ℕ) (j c : ℕ) → Stands reading l s t j c
    → ContentIsRun reading l s t j c

-- "may be replaced by any accepted run that keeps the length and depth limits: the stage stays accepted,": a run y
-- keeps the depth limit there if it is accepted with the depth that is left there.
abbrev pub Replaces : (reading : ℕ → Rule) → Type 0
Replaces reading = (l : Limits) (s t : List ℕ) (j c : ℕ) → Stands reading l s t j c
    → (y : List ℕ) → Plain y → Accepted (with_depth l (depth_left l reading s j)) run y
    → length (replaced_bytes s (content_start t j) (content_end t c) y) ≤ l.bytes
    → Accepted l reading (replaced_bytes s (content_start t j) (content_end t c) y)

-- "inside stands the run's reading moved along, and outside only places and record numbers shift.": `replaced_rows`.
abbrev pub RowsReplaced : (reading : ℕ → Rule) → Type 0
RowsReplaced reading = (l : Limits) (s t : List ℕ) (j c : ℕ) → Stands reading l s t j c
    → (y : List ℕ) → Plain y → Accepted (with_depth l (depth_left l reading s j)) run y
    → length (replaced_bytes s (content_start t j) (content_end t c) y) ≤ l.bytes
    → (count_of l reading (replaced_bytes s (content_start t j) (content_end t c) y) + (c - content_first t j)
    ≡ count_of l reading s + count_of (with_depth l (depth_left l reading s j)) run y)
    × (rows_read l reading (replaced_bytes s (content_start t j) (content_end t c) y)
    ≡ replaced_rows t j c (content_change t j c y (count_of (with_depth l (depth_left l reading s j)) run y))
    (rows_read (with_depth l (depth_left l reading s j)) run y))

-- A run that is accepted with less depth is accepted with more, with the same rows: so one that keeps the depth limit
-- anywhere keeps it wherever as much depth is left.
abbrev pub RunsDeepen : Type 0
RunsDeepen = (l : Limits) (d d' : ℕ) → d ≤ d' → (y : List ℕ) → Accepted (with_depth l d) run y
    → Accepted (with_depth l d') run y
    × (count_of (with_depth l d') run y ≡ count_of (with_depth l d) run y)
    × (rows_read (with_depth l d') run y ≡ rows_read (with_depth l d) run y)
