use Rattle.blank.proofs.TestSteps.{test_steps}
use Rattle.blank.proofs.blank_width.Goals as goal

pub returns-then-is_blank_char : goal.returns-then-is_blank_char
returns-then-is_blank_char c = search test_steps

pub returns : goal.returns
returns c = search test_steps
