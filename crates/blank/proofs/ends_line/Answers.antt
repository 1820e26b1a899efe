use Rattle.blank.proofs.TestSteps.{test_steps}
use Rattle.blank.proofs.ends_line.Goals as goal

pub returns-in_default : goal.returns-in_default
returns-in_default c = search test_steps

pub returns-in_default-2 : goal.returns-in_default-2
returns-in_default-2 c = search test_steps

pub returns-in-10 : goal.returns-in-10
returns-in-10 c = search test_steps

pub returns-in-10-2 : goal.returns-in-10-2
returns-in-10-2 c = search test_steps
