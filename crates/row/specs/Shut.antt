-- What the ends of an element and of a fragment promise.
use Rattle.std.specs.Prelude.{ℕ, ◌+◌, ◌*◌, ◌≡◌, List}
use Rattle.rules.specs.Parse.{Answer}
use Rattle.rules.specs.Record.{row_words}
use Rattle.lex.specs.Answer.{Ans, Got, No}
use Rattle.table.specs.Slot.{Seat, seat_inside, seat_behind}
use Rattle.table.specs.Contract.{Stored}
use Rattle.table.specs.Reader.{MadeOf}

-- A record at `at`, in the seat q, has v records below it so far. Behind them a closing tag at c was read, whose answer
-- is x; where that is a refusal, so is r; else the tag's rows were stored, and then the record's own.
pub record Shut (r : Ans) (x : Answer) (s : List ℕ) (kind extra at c v : ℕ) (q : Seat) (t t' : List ℕ) : Type 0 where
  pub closed : Ans
  pub between : List ℕ
  pub made : MadeOf closed x s c 3 (seat_behind v (seat_inside q)) (row_words * (v + 1)) t between
  pub refuses : (n a b e f : ℕ) → closed ≡ No n a b e f → r ≡ No n a b e f
  pub ends : (z k : ℕ) → closed ≡ Got z k → (r ≡ Got z (v + k + 1)) × Stored 0 q kind at z extra (v + k) between t'
