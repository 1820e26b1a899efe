use Rattle.print.proofs.Steps.{answer_steps}
use Rattle.print.proofs.put_answer.Goals as goal

pub returns-in-Ok : goal.returns-in-Ok
returns-in-Ok c = search answer_steps

pub returns-in-Err : goal.returns-in-Err
returns-in-Err c = search answer_steps
