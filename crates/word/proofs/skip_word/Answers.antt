use Rattle.word.proofs.RunSteps.{run_steps}
use Rattle.word.proofs.Asked.{asked}
use Rattle.word.proofs.skip_word.Goals as goal

pub loop-p-init : goal.loop-p-init
loop-p-init c = search run_steps

pub loop-p-smaller : goal.loop-p-smaller
loop-p-smaller c = search asked

pub loop-p-preserved : goal.loop-p-preserved
loop-p-preserved c = search run_steps

pub returns : goal.returns
returns c = search run_steps
