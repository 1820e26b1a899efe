use Rattle.character.proofs.BitSteps.{bit_steps}
use Rattle.character.proofs.and_next.Goals as goal

pub returns-in_default : goal.returns-in_default
returns-in_default g c = search bit_steps

pub returns-in_default-2 : goal.returns-in_default-2
returns-in_default-2 g c = search bit_steps

pub loop-i-preserved : goal.loop-i-preserved
loop-i-preserved g c = search bit_steps

pub returns : goal.returns
returns g c = search bit_steps
