use Rattle.word.proofs.PartSteps.{part_steps}
use Rattle.word.proofs.part_width.Goals as goal

pub returns-then-in_code : goal.returns-then-in_code
returns-then-in_code c = search part_steps

pub returns-else-in_code : goal.returns-else-in_code
returns-else-in_code c = search part_steps
