use Rattle.token.proofs.OperatorSteps.{once_steps, once_asked}
use Rattle.token.proofs.once.Goals as goal

pub two_at-requires : goal.two_at-requires
two_at-requires c = search once_asked

pub returns-then-two_at : goal.returns-then-two_at
returns-then-two_at c = search once_steps

pub overflow_add-result : goal.overflow_add-result
overflow_add-result c = search once_asked

pub returns : goal.returns
returns c = search once_steps
