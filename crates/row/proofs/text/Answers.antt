use Rattle.row.proofs.BracesSteps.{text_steps}
use Rattle.row.proofs.text.Goals as goal

pub read_jsx_text-e-requires : goal.read_jsx_text-e-requires
read_jsx_text-e-requires c = search text_steps

pub put_plain-requires : goal.put_plain-requires
put_plain-requires c = search text_steps

pub shape_of-t : goal.shape_of-t
shape_of-t c = search text_steps

pub returns : goal.returns
returns c = search text_steps
