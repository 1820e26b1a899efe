use Rattle.table.proofs.Seats.{seat_steps}
use Rattle.table.proofs.Slot.number.Goals as goal

pub returns : goal.returns
returns c = search seat_steps
