use Rattle.number.proofs.NumberSteps.{number_steps}
use Rattle.number.proofs.skip_whole.Goals as goal

pub returns-then-byte-eq-ZERO : goal.returns-then-byte-eq-ZERO
returns-then-byte-eq-ZERO c = search number_steps

pub returns-else-byte-eq-ZERO : goal.returns-else-byte-eq-ZERO
returns-else-byte-eq-ZERO c = search number_steps
