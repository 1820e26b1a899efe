use Rattle.put.proofs.Steps.{row_steps}
use Rattle.put.proofs.text.Text.rows.Goals as goal

pub loop-i-init : goal.loop-i-init
loop-i-init c = search row_steps

pub loop-i-preserved : goal.loop-i-preserved
loop-i-preserved c = search row_steps
