use Rattle.word.proofs.PartSteps.{part_steps}
use Rattle.word.proofs.Asked.{asked}
use Rattle.word.proofs.end_of_rare.Goals as goal

pub loop-n-init : goal.loop-n-init
loop-n-init c = search part_steps

pub overflow_add-p : goal.overflow_add-p
overflow_add-p c = search asked

pub loop-n-smaller : goal.loop-n-smaller
loop-n-smaller c = search asked

pub loop-n-preserved : goal.loop-n-preserved
loop-n-preserved c = search part_steps

pub returns : goal.returns
returns c = search (part_steps, c.in_default.ensures)
