use Rattle.blank.proofs.TestSteps.{test_steps}
use Rattle.blank.proofs.line_ends.Goals as goal

pub returns-then-b-lt-WIDE : goal.returns-then-b-lt-WIDE
returns-then-b-lt-WIDE c = search test_steps

pub returns-then-b-eq-END : goal.returns-then-b-eq-END
returns-then-b-eq-END c = search test_steps

pub returns : goal.returns
returns c = search test_steps
