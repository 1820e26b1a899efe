-- What a writer of text promises, and the pieces of the lines that the definition gives (jsx: Program).
use Rattle.std.specs.Prelude.{ℕ, ◌+◌, ◌*◌, ◌≤◌, ◌≡◌, List, ◌++◌, length, get_or}
use Rattle.std.proofs.lemmas.List.Edits.{sets}
use Rattle.rules.specs.Record.{row_words}
use Rattle.jsx.specs.Byte.{bytes_of}
use Rattle.jsx.specs.Program.{field}

-- From out to out' the text was put at the place `at`, each byte where it fits; r is the place behind it, at most k on.
pub record Prints (r at k : ℕ) (text : List ℕ) (out out' : List ℕ) : Type 0 where
  pub ends : r ≡ at + length text
  pub near : r ≤ at + k
  pub is : out' ≡ sets out at text

-- The field of the word k of a table.
abbrev pub field_at : List ℕ → (k : ℕ) → List ℕ
field_at t k = field (get_or t k 0)

-- The most bytes of a record's line: its number of 20 digits, a field of 21 for each word, and the line's end.
abbrev pub row_bytes : ℕ
row_bytes = 20 + 21 * row_words + 1

-- D: "ok 6".
unfoldable pub ok_line : ℕ → List ℕ
ok_line m = bytes_of "ok" ++ field m ++ bytes_of "\n"

-- D: "A refusal prints as `no 7 1 2 5 6`."
unfoldable pub no_line : (n a b c d : ℕ) → List ℕ
no_line n a b c d = bytes_of "no" ++ field n ++ field a ++ field b ++ field c ++ field d ++ bytes_of "\n"

-- Of a settings store, the limits that it sets: `set 64 1048576`.
unfoldable pub set_line : (depth bytes : ℕ) → List ℕ
set_line d n = bytes_of "set" ++ field d ++ field n ++ bytes_of "\n"
