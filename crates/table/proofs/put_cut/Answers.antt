use Rattle.table.proofs.Seats.{row_steps}
use Rattle.table.proofs.put_cut.Goals as goal

pub put_three-requires : goal.put_three-requires
put_three-requires g c = search row_steps

pub put_three-requires-2 : goal.put_three-requires-2
put_three-requires-2 g c = search row_steps

pub put_word-requires : goal.put_word-requires
put_word-requires g c = search row_steps

pub returns : goal.returns
returns g c = search row_steps
