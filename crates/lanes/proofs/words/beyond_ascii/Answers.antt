use Rattle.lanes.proofs.MaskSteps.{mask_steps}
use Rattle.lanes.proofs.words.beyond_ascii.Goals as goal

pub returns : goal.returns
returns c = search mask_steps
