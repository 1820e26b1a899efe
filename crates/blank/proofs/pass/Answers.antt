use Rattle.blank.proofs.BlankSteps.{blank_steps}
use Rattle.blank.proofs.pass.Goals as goal

pub returns : goal.returns
returns c = search blank_steps
