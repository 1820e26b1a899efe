use Rattle.name.proofs.WriterSteps.{writer_asked, writer_steps}
use Rattle.name.proofs.put_part.Goals as goal

pub returns-then-t-eq0 : goal.returns-then-t-eq0
returns-then-t-eq0 c = search writer_steps

pub dashed-dash-requires : goal.dashed-dash-requires
dashed-dash-requires c = search writer_asked

pub put_node_at-requires : goal.put_node_at-requires
put_node_at-requires c = search writer_asked

pub shape_of-t : goal.shape_of-t
shape_of-t c = search writer_asked

pub returns : goal.returns
returns c = search writer_steps
