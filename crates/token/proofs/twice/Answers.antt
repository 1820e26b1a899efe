use Rattle.token.proofs.OperatorSteps.{twice_steps}
use Rattle.token.proofs.twice.Goals as goal

pub two_at-requires : goal.two_at-requires
two_at-requires c = search twice_steps

pub returns-then-not-two_at : goal.returns-then-not-two_at
returns-then-not-two_at c = search twice_steps

pub overflow_add-result : goal.overflow_add-result
overflow_add-result c = search twice_steps

pub returns : goal.returns
returns c = search twice_steps
