use Rattle.lanes.proofs.MaskSteps.{mask_steps}
use Rattle.lanes.proofs.sought.OnlySought.marks.Goals as goal

pub returns : goal.returns
returns c = search mask_steps
