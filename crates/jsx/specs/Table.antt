-- Check, read and the table; the bytes of a record. Chapters 'Refusal numbers' and 'The table'.
use Rattle.std.specs.Prelude.{ℕ, ◌+◌, ◌-◌, ◌*◌, ◌/◌, Bool, true, false, List, [], ◌++◌, length, take, drop, get_or, leb}
use Rattle.std.specs.Prelude.{ltb}
use Rattle.rules.specs.Rule.{Rule}
use Rattle.rules.specs.Parse.{Answer, got, trouble, pick}
use Rattle.rules.specs.Record.{row_words, count, records}
use Rattle.jsx.specs.Refusal.{table_too_small}
use Rattle.jsx.specs.Reading.{Limits, answer}

-- D: "a missing parent is 4294967295".
abbrev pub missing : ℕ
missing = 4_294_967_295

-- D: "Each answer is a number and two places (start, end)"; the count of records; and the table after it.
pub record Outcome : Type 0 where
  pub number : ℕ
  pub start : ℕ
  pub end : ℕ
  pub start₂ : ℕ
  pub end₂ : ℕ
  pub count : ℕ
  pub table : List ℕ

-- D: "a refusal has count 0 and writes nothing".
unfoldable pub refused : (number start end start₂ end₂ : ℕ) → List ℕ → Outcome
refused n a b c d t = record { number = n; start = a; end = b; start₂ = c; end₂ = d; count = 0; table = t }

-- D: "Accepted is number 0"; "An unused place is 0, 0."
unfoldable pub accepted : (count : ℕ) → List ℕ → Outcome
accepted m t = record { number = 0; start = 0; end = 0; start₂ = 0; end₂ = 0; count = m; table = t }

-- D: "A table of w words holds .. records, rounded down"; D2: "now holds w/7 records".
unfoldable pub holds : List ℕ → ℕ
holds t = length t / row_words

-- The rows at the table's front; D: "words beyond the last record stay untouched".
unfoldable pub written : List ℕ → List ℕ → List ℕ
written rows t = rows ++ drop (length rows) t

-- What a reading got is taken apart here. It never got it by a `stop`, and it got the input to its end
-- (`answer_whole`, proofs/Accepted), so that nothing is lost with the two words that say so.

-- D: "Each has a check (counts the records)": it has no table,
unfoldable pub checked : Answer → Outcome
checked (got a o p) = accepted (count o) []
checked (trouble n a b c d) = refused n a b c d []

-- D: "and a read (also writes them)". D: 15, "accepted, but more records than the table holds", places "needed count,
-- 0".
unfoldable pub read_into : List ℕ → Answer → Outcome
read_into t (got a o p) =
    pick (leb (count o) (holds t)) (accepted (count o) (written (records 0 0 missing 0 o) t))
    (refused table_too_small (count o) 0 0 0 t)
read_into t (trouble n a b c d) = refused n a b c d t

unfoldable pub check : Limits → (ℕ → Rule) → List ℕ → Outcome
check l reading s = checked (answer l reading s)

unfoldable pub read : Limits → (ℕ → Rule) → List ℕ → List ℕ → Outcome
read l reading s t = read_into t (answer l reading s)

-- A part of an input, from start to end, and whether it was in range. D: "a yes or no tells which".
pub record Part : Type 0 where
  pub found : Bool
  pub start : ℕ
  pub end : ℕ

-- D: "For a record number or span out of range it is the empty part at the input's start".
unfoldable pub no_part : Part
no_part = record { found = false; start = 0; end = 0 }

unfoldable pub span_part : List ℕ → (start end : ℕ) → Part
span_part s a z = pick (leb a z) (pick (leb z (length s)) (record { found = true; start = a; end = z }) no_part) no_part

-- The word at a place of a record's row.
unfoldable pub table_word : List ℕ → (row place : ℕ) → ℕ
table_word t k i = get_or t (row_words * k + i) 0

-- D: "A table lent to be read comes with its count; records from it on, or past the table, are out of range."
unfoldable pub record_part : List ℕ → List ℕ → (count number : ℕ) → Part
record_part s t m k =
    pick (ltb k m) (pick (ltb k (holds t)) (span_part s (table_word t k 1) (table_word t k 2)) no_part) no_part

-- D: "The bytes of a record are answered by the part of the input itself".
unfoldable pub bytes_in : List ℕ → Part → List ℕ
bytes_in s p = take (p.end - p.start) (drop p.start s)
