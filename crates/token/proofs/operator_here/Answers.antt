use Rattle.token.proofs.OperatorSteps.{here_steps, here_asked}
use Rattle.token.proofs.operator_here.Goals as goal

pub byte-b-requires : goal.byte-b-requires
byte-b-requires c = search here_asked

pub once-requires : goal.once-requires
once-requires c = search here_asked

pub twice-requires : goal.twice-requires
twice-requires c = search here_asked

pub returns-in-42 : goal.returns-in-42
returns-in-42 c = search here_steps

pub returns-in_default-2 : goal.returns-in_default-2
returns-in_default-2 c = search here_steps

pub returns-in-38 : goal.returns-in-38
returns-in-38 c = search here_steps

pub returns-in_default : goal.returns-in_default
returns-in_default c = search here_steps
