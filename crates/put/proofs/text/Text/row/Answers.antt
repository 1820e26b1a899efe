use Rattle.put.proofs.Steps.{row_steps}
use Rattle.put.proofs.text.Text.row.Goals as goal

pub returns : goal.returns
returns c = search row_steps
