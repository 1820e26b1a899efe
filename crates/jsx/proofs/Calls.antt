-- Both ends of each limit, the table's room, the words, the bytes of a record, and what the program prints.
use Prim.Native.Nat.{ℕ, ◌+◌, ◌*◌, ◌/◌, ◌<◌, ◌≤◌}
use mathlib.Core.Bool.{true, false}
use mathlib.Core.Path.{◌≡◌, refl, ap}
use mathlib.Core.List.{List, [], ◌∷◌, ◌++◌}
use native.Mathlib.Omega.{arith}
use lib.ListN.{length, replicate, length-replicate}
use borrow.Author.Tests.{lt-ltb, le-ltb}
use Rattle.rules.specs.Rule.{Rule}
use Rattle.rules.specs.Parse.{trouble, pick, and_then, parse_all}
use Rattle.rules.specs.Record.{row_words, row}
use Rattle.jsx.specs.Byte.{bytes_of}
use Rattle.jsx.specs.Utf8.{utf8}
use Rattle.jsx.specs.Word.{words, reserved, spared, strict, refused_word}
use Rattle.jsx.specs.Reading.{Limits, standard, stage, run, answer}
use Rattle.jsx.specs.Table.{Part, refused, holds, read, record_part, span_part, bytes_in}
use Rattle.jsx.specs.Program.{program_limits, program_table, output}
use Rattle.jsx.proofs.Case.{Case, limited, counted, at, wrong, whole_language}

-- ---- the length

-- Limits of four bytes.
abbrev short : Limits
short = record { bytes = 4; depth = 64 }

abbrev four_cases : List Case
four_cases =
    limited short stage "<a/>" (counted 3)
    ∷ limited short run "abcde" (at 1 0)
    ∷ limited short stage "" (at 4 0)
    ∷ []

-- With a limit of four bytes, four are read, five are 1, and a stage of none is 4.
pub four_bytes : wrong four_cases ≡ []
unfolding wrong
four_bytes = refl

-- Before anything else is looked at: an input that is too long is 1, whatever it holds,
pub too_long_lem : (l : Limits) (reading : ℕ → Rule) (s : List ℕ) → l.bytes < length s
    → answer l reading s ≡ trouble 1 0 0 0 0
unfolding answer
too_long_lem l reading s h = rw (lt-ltb _ _ h)

-- and one of as many bytes as are allowed is read.
pub not_longer : (l : Limits) (reading : ℕ → Rule) (s : List ℕ) → length s ≤ l.bytes
    → answer l reading s ≡ and_then (parse_all utf8 s) (λ a o p. parse_all (reading l.depth) s)
unfolding answer
not_longer l reading s h = rw (le-ltb _ _ h)

-- So is one of 1,048,576 bytes.
pub not_too_long : (reading : ℕ → Rule) (s : List ℕ) → length s ≤ 1_048_576
    → answer standard reading s ≡ and_then (parse_all utf8 s) (λ a o p. parse_all (reading 64) s)
unfolding standard
not_too_long reading s h = not_longer standard reading s h

-- D: "Input is at most 1,048,576 bytes"; "64 is good".
pub standard_limits : (standard.bytes ≡ 1_048_576) × (standard.depth ≡ 64)
unfolding standard
standard_limits = (refl, refl)

-- ---- the table

-- A table of so many words.
abbrev table : ℕ → List ℕ
table w = replicate w 7

-- D: 15, places "needed count, 0"; the table as it was. 20 words hold two records.
pub no_room : read standard stage (bytes_of "<a/>") (table 20) ≡ refused 15 3 0 0 0 (table 20)
unfolding whole_language
no_room = refl

-- D2: "now holds w/7 records": 21 words hold three.
pub just_room : (read standard stage (bytes_of "<a/>") (table 21)).number ≡ 0
unfolding whole_language
just_room = refl

-- D: "words beyond the last record stay untouched".
pub more_room : (read standard stage (bytes_of "<a/>") (table 23)).table
    ≡ row 1 0 4 4294967295 3 0 0 (row 18 0 4 0 3 0 1 (row 3 1 2 1 3 0 2 (7 ∷ 7 ∷ [])))
unfolding whole_language
more_room = refl

-- A refusal of the reading comes before 15, and leaves the table.
pub refusal_first : read standard stage (bytes_of "<a/> x") (table 3) ≡ refused 13 5 5 0 0 (table 3)
unfolding whole_language
refusal_first = refl

-- ---- the words

-- How many of some words are refused as a primary.
unfoldable pub refused_of : List (List ℕ) → ℕ
refused_of [] = 0
refused_of (w ∷ ws) = pick (refused_word w) 1 0 + refused_of ws

-- D: "the 38 reserved words .. are refused except" four; eight more are refused.
pub refused_words : (refused_of reserved ≡ 34)
    × (refused_of spared ≡ 0)
    × (refused_of strict ≡ 8)
    × (refused_of (words "iffy async of get eval arguments undefined") ≡ 0)
unfolding whole_language refused_of
refused_words = (refl, refl, refl, refl)

-- ---- the bytes of a record

abbrev view_input : List ℕ
view_input = bytes_of "<v>hi</v>"

abbrev view_table : List ℕ
view_table = (read standard stage view_input (table 42)).table

-- Record 3 is the text.
pub text_bytes : bytes_in view_input (record_part view_input view_table 6 3) ≡ bytes_of "hi"
unfolding whole_language
text_bytes = refl

abbrev none : Part
none = record { found = false; start = 0; end = 0 }

-- Out of range: 6 with a count of 6, 3 with a count of 3, and 6, which is past the table, with a count of 99.
pub out_of_range : (record_part view_input view_table 6 6 ≡ none)
    × (record_part view_input view_table 3 3 ≡ none)
    × (record_part view_input view_table 99 6 ≡ none)
unfolding whole_language
out_of_range = (refl, refl, refl)

-- A26: a span is out of range where its start is behind its end, or its end behind the input's.
pub spans : (span_part view_input 9 9 ≡ record { found = true; start = 9; end = 9 })
    × (span_part view_input 4 3 ≡ none)
    × (span_part view_input 4 10 ≡ none)
unfolding whole_language
spans = (refl, refl, refl)

-- ---- the program

-- Of that input the program prints the count, and a line for each record.
pub prints : output view_input
    ≡ bytes_of "ok 6\n0 1 0 9 - 6 1 0\n1 18 0 3 0 3 0 1\n2 3 1 2 1 3 0 2\n"
    ++ bytes_of "3 14 3 5 0 4 0 1\n4 17 5 9 0 6 0 1\n5 3 7 8 4 6 0 2\n"
unfolding whole_language
prints = refl

-- A25: unused places print as 0 0.
pub prints_refusals : (output (bytes_of "<v></w>") ≡ bytes_of "no 7 1 2 5 6\n")
    × (output [] ≡ bytes_of "no 4 0 0 0 0\n")
unfolding whole_language
prints_refusals = (refl, refl)

-- D: "up to 65,536 bytes"; "64 is good"; "has 2,048 records".
pub program_limits_lem : (program_limits.bytes ≡ 65_536) × (program_limits.depth ≡ 64) × (holds program_table ≡ 2_048)
unfolding program_limits program_table holds
program_limits_lem = (refl, refl, ap (λ (n : ℕ). n / row_words) (length-replicate {A = ℕ} (row_words * 2_048) 0))

-- D: "(more: refusal 1)": so for every longer input,
pub prints_too_long : (s : List ℕ) → 65_536 < length s → output s ≡ bytes_of "no 1 0 0 0 0\n"
unfolding whole_language
prints_too_long s h = rw (too_long_lem program_limits stage s h)

-- one of 65,537 bytes for one.
pub prints_one_too_many : (b : ℕ) → output (replicate 65_537 b) ≡ bytes_of "no 1 0 0 0 0\n"
prints_one_too_many b = prints_too_long (replicate 65_537 b) (omega (arith, length-replicate 65_537 b))

-- One of 65,536 bytes is read.
pub prints_not_too_long : (s : List ℕ) → length s ≤ 65_536
    → answer program_limits stage s ≡ and_then (parse_all utf8 s) (λ a o p. parse_all (stage 64) s)
unfolding answer program_limits
prints_not_too_long s h = rw (le-ltb _ _ h)
