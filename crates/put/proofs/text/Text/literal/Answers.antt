use Rattle.put.proofs.Steps.{byte_steps}
use Rattle.put.proofs.text.Text.literal.Goals as goal

pub loop-b-preserved : goal.loop-b-preserved
loop-b-preserved c = search byte_steps
