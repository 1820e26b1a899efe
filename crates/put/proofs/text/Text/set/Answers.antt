use Rattle.put.proofs.Steps.{first_line_steps}
use Rattle.put.proofs.text.Text.set.Goals as goal

pub returns : goal.returns
returns c = search first_line_steps
