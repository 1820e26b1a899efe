-- The word 0 is the number 0 in no record.
use mathlib.Core.Path.{refl}
use Rattle.table.specs.Slot.{seat}
use Rattle.stage.proofs.whole.Goals as goal

pub returns : goal.returns
unfolding seat
returns c = refl
