use Rattle.put.proofs.Steps.{first_line_steps}
use Rattle.put.proofs.text.Text.refusal.Goals as goal

pub returns : goal.returns
returns c = search first_line_steps
