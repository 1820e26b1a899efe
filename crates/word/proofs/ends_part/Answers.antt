use Rattle.word.proofs.PartSteps.{part_steps}
use Rattle.word.proofs.ends_part.Goals as goal

pub returns-then-byte-lt-WIDE : goal.returns-then-byte-lt-WIDE
returns-then-byte-lt-WIDE c = search part_steps

pub returns-else-byte-lt-WIDE : goal.returns-else-byte-lt-WIDE
returns-else-byte-lt-WIDE c = search part_steps
