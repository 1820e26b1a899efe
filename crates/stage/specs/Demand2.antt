-- Demand 2 on one page, and the wrong readers that it shuts out: statements of what the calls promise (Call.antt).
-- proofs/Demand2.antt proves each of them. (That the definition is the Rust's is shown by runs, not here.)
use Rattle.std.specs.Prelude.{ℕ, ◌*◌, ◌≤◌, ◌<◌, ◌≡◌, List, ◌++◌, length, replicate}
use Rattle.rules.specs.Forest.{Forest}
use Rattle.rules.specs.Rule.{Rule}
use Rattle.rules.specs.Record.{row_words, count}
use Rattle.jsx.specs.Byte.{bytes_of}
use Rattle.jsx.specs.Kind as Kind
use Rattle.jsx.specs.Refusal.{table_too_small, names_differ}
use Rattle.jsx.specs.Reading.{standard, stage}
use Rattle.jsx.specs.Table.{holds, written, table_word}
use Rattle.jsx.specs.Compose.{count_of, ReadAs, rows_of}
use Rattle.stage.specs.Reply.{Reply, Accepted, Refused}
use Rattle.stage.specs.Call.{Checks, Reads}

-- ---- Demand 2: "Acceptance and the node table are also PROVED equal to a definition"

-- Of a reading, `stage` or `run`: its check accepts just the inputs that keep the length limit, are well-formed UTF-8
-- and are read as some forest u by the definition; and it counts the nodes of u.
pub record AcceptsWhatIsRead (reading : ℕ → Rule) : Type 0 where
  pub only_that : (s : List ℕ) (m : ℕ) → Checks reading s (Accepted m)
      → (u : Forest) × ReadAs standard reading s u × (m ≡ count u)
  pub all_of_that : (s : List ℕ) (u : Forest) → ReadAs standard reading s u → (r : Reply) → Checks reading s r
      → r ≡ Accepted (count u)

-- Its read writes the rows of u at the table's front, and no other word; where they do not fit it says so.
pub record WritesWhatIsRead (reading : ℕ → Rule) : Type 0 where
  pub only_that : (s t : List ℕ) (m : ℕ) (t' : List ℕ) → Reads reading s t (Accepted m) t'
      → (u : Forest) × ReadAs standard reading s u × (m ≡ count u) × (t' ≡ written (rows_of u) t)
  pub with_room : (s t : List ℕ) (u : Forest) → ReadAs standard reading s u → count u ≤ holds t
      → (r : Reply) (t' : List ℕ) → Reads reading s t r t'
      → (r ≡ Accepted (count u)) × (t' ≡ written (rows_of u) t)
  pub without_room : (s t : List ℕ) (u : Forest) → ReadAs standard reading s u → holds t < count u
      → (r : Reply) (t' : List ℕ) → Reads reading s t r t'
      → (r ≡ Refused table_too_small (count u) 0 0 0) × (t' ≡ t)

-- ---- D: "Demand 2 shuts out"

-- A reader of stages: of an input and a table, its reply and the table after it. It is right if it keeps the promise.
abbrev pub Reader : Type 0
Reader = (s t : List ℕ) → Reply × List ℕ

abbrev pub Right : Reader → Type 0
Right f = (s t : List ℕ) → Reads stage s t (f s t).0 (f s t).1

abbrev pub IsRefusal : Reply → Type 0
IsRefusal (Accepted m) = ⊥
IsRefusal (Refused n a b c d) = Unit {0}

-- D: "a reader that refuses everything",
abbrev pub NotRefusingEverything : Type 0
NotRefusingEverything = (f : Reader) → Right f → ((s t : List ℕ) → IsRefusal (f s t).0) → ⊥

-- D: "one that gives the same table to everyone",
abbrev pub NotOneTable : Type 0
NotOneTable = (f : Reader) → Right f → ((s s' t : List ℕ) → (f s t).1 ≡ (f s' t).1) → ⊥

-- D: "one that writes nothing",
abbrev pub NotWritingNothing : Type 0
NotWritingNothing = (f : Reader) → Right f → ((s t : List ℕ) → (f s t).1 ≡ t) → ⊥

-- D: "one that reads the first child and fakes the rest": of what stands behind the first child it sees the length.
abbrev pub first_child : List ℕ
first_child = bytes_of "<v><a/>"

abbrev pub NotTheFirstChildAlone : Type 0
NotTheFirstChildAlone = (f : Reader) → Right f
    → ((x y t : List ℕ) → length x ≡ length y → (f (first_child ++ x) t).1 ≡ (f (first_child ++ y) t).1)
    → ⊥

-- D: "and one that invents its record count".
abbrev pub NoInventedCount : Type 0
NoInventedCount = (f : Reader) → Right f → (s t : List ℕ) (m : ℕ) → (f s t).0 ≡ Accepted m
    → m ≡ count_of standard stage s

-- ---- D: "Easy slips"

-- A table of so many records.
abbrev pub table_of : ℕ → List ℕ
table_of m = replicate (row_words * m) 0

-- D: "a closing tag taken because it arrived next";
abbrev pub ClosingNamesCount : Type 0
ClosingNamesCount = (r : Reply) → Checks stage (bytes_of "<v></w>") r → r ≡ Refused names_differ 1 2 5 6

-- D: "a backslash treated as an escape in an attribute": the string, record 5, is from 5 to 8.
abbrev pub BackslashIsAByte : Type 0
BackslashIsAByte = (r : Reply) (t' : List ℕ) → Reads stage (bytes_of "<a b=\"\\\"/>") (table_of 6) r t'
    → (r ≡ Accepted 6) × (table_word t' 5 0 ≡ Kind.quoted) × (table_word t' 5 1 ≡ 5) × (table_word t' 5 2 ≡ 8)

-- D: "`</w` at the end of input answered 7 (it is 4)";
abbrev pub EndBeforeVerdict : Type 0
EndBeforeVerdict = (r : Reply) → Checks stage (bytes_of "<v></w") r → r ≡ Refused 4 6 6 0 0

-- D: "`foo.bar` called an identifier (its object is a reference)": record 3.
abbrev pub ObjectIsAReference : Type 0
ObjectIsAReference = (r : Reply) (t' : List ℕ) → Reads stage (bytes_of "<foo.bar/>") (table_of 5) r t'
    → (r ≡ Accepted 5) × (table_word t' 3 0 ≡ Kind.reference)
