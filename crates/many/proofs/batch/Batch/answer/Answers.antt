use Rattle.many.proofs.Steps.{answer_steps}
use Rattle.many.proofs.batch.Batch.answer.Goals as goal

pub write-requires-2 : goal.write-requires-2
write-requires-2 c = search answer_steps
