use Rattle.jsx.specs.Byte.{line_end}
use Rattle.text.proofs.TestSteps.{test_steps}
use Rattle.text.proofs.is_line_end.Goals as goal

pub returns-then-b-eq-LF : goal.returns-then-b-eq-LF
unfolding line_end
returns-then-b-eq-LF c = search test_steps

pub returns-else-b-eq-LF : goal.returns-else-b-eq-LF
unfolding line_end
returns-else-b-eq-LF c = search test_steps
