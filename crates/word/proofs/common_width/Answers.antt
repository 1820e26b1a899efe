use Rattle.word.proofs.PartSteps.{part_steps}
use Rattle.word.proofs.common_width.Goals as goal

pub returns-then-b-lt-WIDE : goal.returns-then-b-lt-WIDE
returns-then-b-lt-WIDE c = search part_steps

pub returns-then-is_common : goal.returns-then-is_common
returns-then-is_common c = search part_steps

pub returns-else-is_common : goal.returns-else-is_common
returns-else-is_common c = search part_steps
