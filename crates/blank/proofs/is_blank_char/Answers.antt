use Rattle.blank.proofs.TestSteps.{test_steps}
use Rattle.blank.proofs.is_blank_char.Goals as goal

pub returns-then-c-lt-WIDE : goal.returns-then-c-lt-WIDE
returns-then-c-lt-WIDE c = search test_steps

pub returns-in_default : goal.returns-in_default
returns-in_default c = search test_steps

pub returns-in_default-2 : goal.returns-in_default-2
returns-in_default-2 c = search test_steps

pub returns-in_default-3 : goal.returns-in_default-3
returns-in_default-3 c = search test_steps

pub returns-in-160 : goal.returns-in-160
returns-in-160 c = search test_steps

pub returns-in-160-2 : goal.returns-in-160-2
returns-in-160-2 c = search test_steps

pub returns-in-160-3 : goal.returns-in-160-3
returns-in-160-3 c = search test_steps
