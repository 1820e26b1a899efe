use Rattle.word.proofs.PartSteps.{part_steps}
use Rattle.word.proofs.in_code.Goals as goal

pub returns-then-c-lt-WIDE : goal.returns-then-c-lt-WIDE
returns-then-c-lt-WIDE c = search part_steps

pub returns-else-c-lt-WIDE : goal.returns-else-c-lt-WIDE
returns-else-c-lt-WIDE c = search part_steps
