use Rattle.print.proofs.WholeSteps.{output_steps, output_asked}
use Rattle.print.proofs.put_output.Goals as goal

pub put_answer-requires : goal.put_answer-requires
put_answer-requires c = search output_asked

pub returns-then-s-gt-PROGRAM_BYTES : goal.returns-then-s-gt-PROGRAM_BYTES
returns-then-s-gt-PROGRAM_BYTES c = search output_steps

pub returns : goal.returns
returns c = search output_steps
