use Rattle.row.proofs.RowSteps.{opening_steps}
use Rattle.row.proofs.put_opening.Goals as goal

pub inside-requires : goal.inside-requires
inside-requires c = search opening_steps

pub put_node_at-requires : goal.put_node_at-requires
put_node_at-requires c = search opening_steps

pub shape_of-t : goal.shape_of-t
shape_of-t c = search opening_steps

pub returns : goal.returns
returns c = search opening_steps
