use Rattle.many.proofs.Steps.{answer_steps}
use Rattle.many.proofs.item.Head.read.Goals as goal

pub returns : goal.returns
returns c = search answer_steps
