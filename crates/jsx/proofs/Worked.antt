-- An instance of each statement of specs/Demand3.antt, computed: both sides are what document 01 has for these inputs.
use Prim.Native.Nat.{ℕ, zero, suc}
use mathlib.Core.Bool.{Bool, true, false}
use mathlib.Core.Path.{◌≡◌, refl}
use mathlib.Core.List.{List, [], ◌∷◌, ◌++◌}
use lib.ListN.{replicate}
use lib.Dec.{eqb, ltb}
use Rattle.rules.specs.Parse.{Answer, got, trouble, pick}
use Rattle.rules.specs.Record.{row}
use Rattle.jsx.specs.Byte.{bytes_of}
use Rattle.jsx.specs.Reading.{Limits, standard, answer, stage, run}
use Rattle.jsx.specs.Table.{accepted, refused, written, check, read, table_word}
use Rattle.jsx.specs.Settings.{held, settings}
use Rattle.jsx.specs.Compose.{count_of, rows_read, with_depth, texts_meet, bytes_between, replaced_bytes}
use Rattle.jsx.specs.Compose.{content_start, content_first, content_end, content_rows, depth_left, content_change}
use Rattle.jsx.specs.Compose.{paired_row, replaced_rows}
use Rattle.jsx.proofs.Case.{whole_language}

-- To unfold this is to unfold every definition that the statements use.
unfoldable whole_page : ℕ
unfolding whole_language Rattle.rules.specs.Moved.each_row Rattle.rules.specs.Moved.reparent
    Rattle.rules.specs.Moved.moved_row Rattle.rules.specs.Moved.moved Rattle.rules.specs.Joined.last_ends
    Rattle.rules.specs.Joined.first_end Rattle.rules.specs.Replaced.inside_of Rattle.rules.specs.Replaced.content_depth
    Rattle.rules.specs.Replaced.widened Rattle.rules.specs.Replaced.pushed_parent Rattle.rules.specs.Replaced.pushed
    Rattle.jsx.specs.Compose.rows_read Rattle.jsx.specs.Compose.forest_of
    Rattle.jsx.specs.Compose.last_outermost Rattle.jsx.specs.Compose.texts_meet
    Rattle.jsx.specs.Compose.depth_left
whole_page = 0

-- ---- inputs and acceptance

-- Whether each number is below 256.
unfoldable pub are_bytes : List ℕ → Bool
are_bytes [] = true
are_bytes (b ∷ w) = pick (ltb b 256) (are_bytes w) false

-- Bytes in the place of bytes are bytes.
pub bytes_stay : are_bytes (replaced_bytes (bytes_of "<v>hi</v>") 3 5 (bytes_of "가")) ≡ true
unfolding are_bytes
bytes_stay = refl

-- Where a reading that goes on ends; a place behind every input for any other answer.
abbrev reached : Answer → ℕ
reached (got true u p) = p
reached (got false u p) = 4294967295
reached (trouble n a b c d) = 4294967295

-- What is got is got to the end: nine bytes.
pub read_to_the_end : reached (answer standard stage (bytes_of "<v>hi</v>")) ≡ 9
unfolding whole_page
read_to_the_end = refl

-- In a table of 23 words the three rows stand at the front, and the last two words stay.
pub every_table : read standard stage (bytes_of "<a/>") (replicate 23 7)
    ≡ accepted 3 (written (row 1 0 4 4294967295 3 0 0 (row 18 0 4 0 3 0 1 (row 3 1 2 1 3 0 2 []))) (replicate 23 7))
unfolding whole_page
every_table = refl

-- ---- with the limits that a store sets

-- A store that sets a depth of 2 and a length of 12.
abbrev set_limits : Limits
set_limits = held (settings (bytes_of "ST\u{1}\u{1}\u{2}" ++ bytes_of "ST\u{2}\u{4}\u{c}\0\0\0"))

-- Two runs are accepted, and joined; three bytes more are too long, and a third level is too deep.
pub limits_set : (set_limits ≡ record { bytes = 12; depth = 2 })
    × (count_of set_limits run (bytes_of "<a>{b}</a>") ≡ 7)
    × (count_of set_limits run (bytes_of "<a>{b}</a>hi") ≡ 8)
    × (check set_limits run (bytes_of "<a>{b}</a>hi{}c") ≡ refused 1 0 0 0 0 [])
    × (check set_limits run (bytes_of "<a>{(b)}</a>") ≡ refused 14 4 4 0 0 [])
unfolding whole_page
limits_set = (refl, refl, refl, refl, refl)

-- ---- runs join

-- The empty run is accepted, with no record.
pub empty_joins : ((check standard run []).number ≡ 0) × (count_of standard run [] ≡ 0)
unfolding whole_page
empty_joins = (refl, refl)

-- No text meets a text: the second's row stands 5 bytes and 4 records further on.
abbrev apart_rows : List ℕ
apart_rows =
    row 14 0 1 4294967295 1 0 0
    (row 1 1 5 4294967295 4 0 0 (row 18 1 5 1 4 0 1 (row 3 2 3 2 4 0 2 (row 14 5 6 4294967295 5 0 0 []))))

-- Joined, they have these rows.
pub runs_apart : (texts_meet (rows_read standard run (bytes_of "a<b/>")) 4 (rows_read standard run (bytes_of "c"))
    ≡ false)
    × (count_of standard run (bytes_of "a<b/>c") ≡ 5)
    × (rows_read standard run (bytes_of "a<b/>c") ≡ apart_rows)
unfolding whole_page
runs_apart = (refl, refl, refl)

-- A text meets a text: they are one, from 4 to 8, and the second's other rows stand 6 bytes and 3 records further on.
abbrev met_rows : List ℕ
met_rows =
    row 1 0 4 4294967295 3 0 0 (row 18 0 4 0 3 0 1 (row 3 1 2 1 3 0 2 (row 14 4 8 4294967295 4 0 0
    (row 11 8 10 4294967295 6 0 0 (row 12 9 9 4 6 0 1 [])))))

-- Joined, they have these rows.
pub runs_met : (texts_meet (rows_read standard run (bytes_of "<b/>hi")) 4 (rows_read standard run (bytes_of "yo{}"))
    ≡ true)
    × (count_of standard run (bytes_of "<b/>hiyo{}") ≡ 6)
    × (rows_read standard run (bytes_of "<b/>hiyo{}") ≡ met_rows)
unfolding whole_page
runs_met = (refl, refl, refl)

-- ---- a content replaced

-- The record 3 is the `b`, and 7 its closing tag.
abbrev before : List ℕ
before = bytes_of "<a><b>hi</b>{c}</a>"

abbrev old_rows : List ℕ
old_rows =
    row 1 0 19 4294967295 13 1 0 (row 18 0 3 0 3 0 1 (row 3 1 2 1 3 0 2
    (row 1 3 12 0 9 1 1 (row 18 3 6 3 6 0 2 (row 3 4 5 4 6 0 3
    (row 14 6 8 3 7 0 2
    (row 17 8 12 3 9 0 2 (row 3 10 11 7 9 0 3 (row 11 12 15 0 11 0 1 (row 15 13 14 9 11 0 2 (row 17 15 19 0 13 0 1
    (row 3 17 18 11 13 0 2 []))))))))))))

-- Its rows.
pub old_read : rows_read standard stage before ≡ old_rows
unfolding whole_page
old_read = refl

-- Of the first m of the rows t, those that close the record j.
unfoldable pub closers : (t : List ℕ) (m j : ℕ) → List ℕ
closers t zero j = []
closers t (suc m) j =
    closers t m j
    ++ pick (pick (eqb (table_word t m 0) 17)
    (pick (eqb (table_word t m 3) j) (eqb (table_word t m 4) (table_word t j 4)) false) false)
    (m ∷ [])
    []

-- The record 3 is paired, and 7 alone closes it; 11 closes the record 0.
pub one_closing_tag : (paired_row old_rows 3 ≡ true) × (closers old_rows 13 3 ≡ 7 ∷ [])
    × (closers old_rows 13 0 ≡ 11 ∷ [])
unfolding whole_page closers
one_closing_tag = (refl, refl, refl)

-- Its content: the bytes 6 to 8, the records from 6 on, before 7; 62 levels are left there. It is itself a run, of
-- one record.
pub content_words : (content_start old_rows 3 ≡ 6)
    × (content_end old_rows 7 ≡ 8)
    × (content_first old_rows 3 ≡ 6)
    × (depth_left standard stage before 3 ≡ 62)
    × (bytes_between before 6 8 ≡ bytes_of "hi")
    × (content_rows old_rows 3 7 ≡ row 14 6 8 3 7 0 2 [])
    × (count_of (with_depth standard 62) run (bytes_of "hi") ≡ 1)
unfolding whole_page
content_words = (refl, refl, refl, refl, refl, refl, refl)

-- With a run of 6 bytes and 4 records in its place.
abbrev after : List ℕ
after = bytes_of "<a><b><i/>yo</b>{c}</a>"

abbrev new_rows : List ℕ
new_rows =
    row 1 0 23 4294967295 16 1 0 (row 18 0 3 0 3 0 1 (row 3 1 2 1 3 0 2
    (row 1 3 16 0 12 1 1 (row 18 3 6 3 6 0 2 (row 3 4 5 4 6 0 3
    (row 1 6 10 3 9 0 2 (row 18 6 10 6 9 0 3 (row 3 7 8 7 9 0 4 (row 14 10 12 3 10 0 2
    (row 17 12 16 3 12 0 2 (row 3 14 15 10 12 0 3 (row 11 16 19 0 14 0 1 (row 15 17 18 12 14 0 2 (row 17 19 23 0 16 0 1
    (row 3 21 22 14 16 0 2 [])))))))))))))))

-- It is accepted, with the rows that the statement says.
pub replaced : (replaced_bytes before 6 8 (bytes_of "<i/>yo") ≡ after)
    × ((check standard stage after).number ≡ 0)
    × (count_of standard stage after ≡ 16)
    × (rows_read standard stage after ≡ new_rows)
    × (replaced_rows old_rows 3 7 (content_change old_rows 3 7 (bytes_of "<i/>yo") 4)
    (rows_read standard run (bytes_of "<i/>yo")) ≡ new_rows)
unfolding whole_page
replaced = (refl, refl, refl, refl, refl)

-- ---- depth, and refusals

-- One level is enough for an element, and more changes nothing; with none it is 14.
pub deeper : (rows_read (with_depth standard 1) run (bytes_of "<a/>") ≡ rows_read standard run (bytes_of "<a/>"))
    × ((check (with_depth standard 0) run (bytes_of "<a/>")).number ≡ 14)
unfolding whole_page
deeper = (refl, refl)
