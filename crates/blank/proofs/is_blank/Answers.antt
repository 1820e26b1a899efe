use Rattle.blank.proofs.TestSteps.{test_steps}
use Rattle.blank.proofs.is_blank.Goals as goal

pub returns-in_default : goal.returns-in_default
returns-in_default c = search test_steps

pub returns-in_default-2 : goal.returns-in_default-2
returns-in_default-2 c = search test_steps

pub returns-in-9-to-13 : goal.returns-in-9-to-13
returns-in-9-to-13 c = search test_steps

pub returns-in-9-to-13-2 : goal.returns-in-9-to-13-2
returns-in-9-to-13-2 c = search test_steps
