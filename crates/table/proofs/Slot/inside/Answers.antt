use Rattle.table.proofs.Seats.{seat_steps}
use Rattle.table.proofs.Slot.inside.Goals as goal

pub overflow_add-result : goal.overflow_add-result
overflow_add-result c = search seat_steps

pub overflow_add-result-2 : goal.overflow_add-result-2
overflow_add-result-2 c = search seat_steps

pub returns : goal.returns
returns c = search seat_steps
