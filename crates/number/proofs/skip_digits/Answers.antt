use Rattle.number.proofs.DigitSteps.{digit_steps}
use Rattle.number.proofs.Asked.{asked}
use Rattle.number.proofs.skip_digits.Goals as goal

pub loop-p-init : goal.loop-p-init
loop-p-init c = search digit_steps

pub loop-p-smaller : goal.loop-p-smaller
loop-p-smaller c = search asked

pub loop-p-preserved : goal.loop-p-preserved
loop-p-preserved c = search digit_steps

pub returns : goal.returns
returns c = search digit_steps
