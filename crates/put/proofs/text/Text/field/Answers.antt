use Rattle.put.proofs.Steps.{number_steps}
use Rattle.put.proofs.text.Text.field.Goals as goal

pub returns : goal.returns
returns c = search number_steps
