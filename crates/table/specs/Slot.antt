-- Where a reader stands in the table, and the rows of what it reads there.
use Rattle.std.specs.Prelude.{ℕ, ◌+◌, ◌/◌, ◌%◌, List}
use Rattle.rules.specs.Forest.{Forest}
use Rattle.rules.specs.Record.{records}
use Rattle.table.specs.declared.Slot.{Slot}

-- Where a reader stands: the number of its next record, the record that it stands in, and how many records it stands
-- in.
pub record Seat : Type 0 where
  pub number : ℕ
  pub parent : ℕ
  pub depth : ℕ

-- One level deeper, in the word of a slot that number and depth share.
abbrev pub level : ℕ
level = 4_294_967_296

-- What a slot of the code says: number and depth are the low and the high half of one word.
unfoldable pub seat : Slot → Seat
seat q = record { number = q.here % level; parent = q.parent; depth = q.here / level }

-- Inside the record here.
abbrev pub seat_inside : Seat → Seat
seat_inside q = record { number = q.number + 1; parent = q.number; depth = q.depth + 1 }

-- Behind m records.
abbrev pub seat_behind : ℕ → Seat → Seat
seat_behind m q = record { number = q.number + m; parent = q.parent; depth = q.depth }

-- The rows of a forest whose first byte is at a place.
abbrev pub rows_from : Seat → (at : ℕ) → Forest → List ℕ
rows_from q at u = records at q.number q.parent q.depth u
