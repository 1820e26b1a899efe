-- What the program prints for what it reads. Chapter 'The table', from "The program reads a stage".
use Rattle.std.specs.Prelude.{ℕ, zero, suc, ◌+◌, ◌*◌, ◌/◌, ◌%◌, List, [], ◌∷◌, ◌++◌, replicate, ltb, eqb}
use Prim.Native.Char.{code}
use Rattle.rules.specs.Parse.{pick}
use Rattle.rules.specs.Record.{row_words}
use Rattle.jsx.specs.Byte.{bytes_of}
use Rattle.jsx.specs.Reading.{Limits, stage}
use Rattle.jsx.specs.Table.{Outcome, missing, read, table_word}

-- A number in decimal, of as many digits as are needed and at most that many.
unfoldable pub decimal_up_to : (digits : ℕ) → ℕ → List ℕ
decimal_up_to zero n = []
decimal_up_to (suc f) n = pick (ltb n 10) [] (decimal_up_to f (n / 10)) ++ ((code "0" + n % 10) ∷ [])

-- Each number here is below 2 ^ 64, which has 20 digits.
unfoldable pub decimal : ℕ → List ℕ
decimal = decimal_up_to 20

-- A blank and a number.
unfoldable pub field : ℕ → List ℕ
field n = code " " ∷ decimal n

unfoldable pub parent_field : ℕ → List ℕ
parent_field n = pick (eqb n missing) (bytes_of " -") (field n)

-- D: "0 1 0 9 - 6 1": the record's number, then its words; D2: "printed lines end with the new number".
unfoldable pub row_line : List ℕ → (number : ℕ) → List ℕ
row_line t k =
    decimal k
    ++ field (table_word t k 0)
    ++ field (table_word t k 1)
    ++ field (table_word t k 2)
    ++ parent_field (table_word t k 3)
    ++ field (table_word t k 4)
    ++ field (table_word t k 5)
    ++ field (table_word t k 6)
    ++ bytes_of "\n"

-- The rows of `left` records from number k on.
unfoldable pub row_lines : List ℕ → (left k : ℕ) → List ℕ
row_lines t zero k = []
row_lines t (suc f) k = row_line t k ++ row_lines t f (k + 1)

-- D: "ok 6", then the rows; D: "A refusal prints as `no 7 1 2 5 6`."
unfoldable pub printed : Outcome → List ℕ
printed r =
    pick (eqb r.number 0)
    (bytes_of "ok" ++ field r.count ++ bytes_of "\n" ++ row_lines r.table r.count 0)
    (bytes_of "no"
    ++ field r.number
    ++ field r.start
    ++ field r.end
    ++ field r.start₂
    ++ field r.end₂
    ++ bytes_of "\n")

-- D: "up to 65,536 bytes (more: refusal 1)", at document 01's depth.
unfoldable pub program_limits : Limits
program_limits = record { bytes = 65_536; depth = 64 }

-- D: "has 2,048 records". Its table is zero at the start.
unfoldable pub program_table : List ℕ
program_table = replicate (row_words * 2_048) 0

unfoldable pub output : List ℕ → List ℕ
output s = printed (read program_limits stage s program_table)
