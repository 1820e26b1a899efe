-- What the contracts of readers that write say.
use Rattle.std.specs.Prelude.{ℕ, ◌+◌, ◌*◌, ◌≤◌, ◌<◌, ◌^◌, ◌≡◌, Bool, List, length}
use Rattle.std.proofs.lemmas.List.Edits.{sets}
use Rattle.rules.specs.Forest.{Forest}
use Rattle.rules.specs.Rule.{Rule}
use Rattle.rules.specs.Parse.{Answer, read_at}
use Rattle.rules.specs.Record.{count}
use Rattle.lex.specs.Contract.{view, out_of}
use Rattle.lex.specs.Answer.{Ans}
use Rattle.lex.specs.Answer.{Got}
use Rattle.table.specs.Slot.{Seat, rows_from}

-- Where a reader may stand: the input keeps document 01's length, there are at most two records yet for each byte, and
-- some more: as many as stand around this place and begin at it; and no more records stand around it than before it.
pub record Room (more : ℕ) (s : List ℕ) (at : ℕ) (q : Seat) : Type 0 where
  pub short : length s ≤ 1_048_576
  pub inside : at ≤ length s
  pub few : q.number ≤ 2 * at + more
  pub held : q.parent < 2 ^ 32
  pub shallow : q.depth ≤ q.number

-- The number that stands for what a reader has read: how many records.
abbrev pub counted : Bool → Forest → ℕ
counted a o = count o

-- A reader's answer r is x; what it got ends at least k bytes on and within the input, with at most two records a byte;
-- and from t to t' it wrote, at the word i, the rows of what was read.
pub record MadeOf (r : Ans) (x : Answer) (s : List ℕ) (at k : ℕ) (q : Seat) (i : ℕ) (t t' : List ℕ) : Type 0 where
  pub is : r ≡ view counted x
  pub far : (p m : ℕ) → r ≡ Got p m → (2 * at + m ≤ 2 * p) × (p ≤ length s) × (at + k ≤ p)
  pub wrote : (p m : ℕ) → r ≡ Got p m → t' ≡ sets t i (rows_from q at (out_of x))

-- The same, where the answer is what the rule g reads at `at`.
pub record Made (r : Ans) (s : List ℕ) (g : Rule) (at k : ℕ) (q : Seat) (i : ℕ) (t t' : List ℕ) : Type 0 where
  pub of : MadeOf r (read_at s g at) s at k q i t t'
