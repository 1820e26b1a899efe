use Rattle.table.proofs.Seats.{seat_steps}
use Rattle.table.proofs.Slot.behind.Goals as goal

pub overflow_add-result : goal.overflow_add-result
overflow_add-result c = search seat_steps

pub returns : goal.returns
returns c = search seat_steps
