use Rattle.utf8.proofs.SequenceSteps.{sequence_steps}
use Rattle.utf8.proofs.sequence.Goals as goal

pub returns-then-not-within : goal.returns-then-not-within
returns-then-not-within c = search sequence_steps

pub returns-then-n-eq2 : goal.returns-then-n-eq2
returns-then-n-eq2 c = search sequence_steps

pub returns-then-not-within-2 : goal.returns-then-not-within-2
returns-then-not-within-2 c = search sequence_steps

pub returns-then-n-eq3 : goal.returns-then-n-eq3
returns-then-n-eq3 c = search sequence_steps

pub returns-then-not-within-3 : goal.returns-then-not-within-3
returns-then-not-within-3 c = search sequence_steps

pub returns-in-None : goal.returns-in-None
returns-in-None c = search sequence_steps

pub returns-in-Some-Alone : goal.returns-in-Some-Alone
returns-in-Some-Alone c = search sequence_steps

pub returns-else-not-within-3 : goal.returns-else-not-within-3
returns-else-not-within-3 c = search sequence_steps
