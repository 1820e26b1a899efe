use Rattle.row.proofs.BracesSteps.{empty_steps, empty_asked}
use Rattle.row.proofs.empty_braces.Goals as goal

pub inside-requires : goal.inside-requires
inside-requires c = search empty_asked

pub overflow_add-at : goal.overflow_add-at
overflow_add-at c = search empty_asked

pub put_node_at-requires : goal.put_node_at-requires
put_node_at-requires c = search empty_asked

pub overflow_add-q : goal.overflow_add-q
overflow_add-q c = search empty_asked

pub put_plain-requires : goal.put_plain-requires
put_plain-requires c = search empty_asked

pub overflow_add-result : goal.overflow_add-result
overflow_add-result c = search empty_asked

pub shape_of-t : goal.shape_of-t
shape_of-t c = search empty_asked

pub returns : goal.returns
returns c = search empty_steps
