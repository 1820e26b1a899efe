use Rattle.closing.proofs.OpenedSteps.{close_asked}
use Rattle.closing.proofs.close.Goals as goal

pub overflow_sub-name : goal.overflow_sub-name
overflow_sub-name c = search close_asked

pub closes-requires : goal.closes-requires
closes-requires c = search close_asked

pub close_same-requires : goal.close_same-requires
close_same-requires c = search close_asked

pub shape_of-t-then-closes : goal.shape_of-t-then-closes
shape_of-t-then-closes c = search close_asked

pub returns-then-closes : goal.returns-then-closes
returns-then-closes c = search close_asked

pub close_read-requires : goal.close_read-requires
close_read-requires c = search close_asked

pub shape_of-t : goal.shape_of-t
shape_of-t c = search close_asked

pub returns : goal.returns
returns c = search close_asked
