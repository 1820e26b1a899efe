use Rattle.put.proofs.Steps.{row_steps}
use Rattle.put.proofs.text.Text.parent.Goals as goal

pub returns-in-4294967295 : goal.returns-in-4294967295
returns-in-4294967295 c = search row_steps

pub returns-in_default : goal.returns-in_default
returns-in_default c = search row_steps
