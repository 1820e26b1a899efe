use Rattle.table.proofs.Laws.{writer_steps}
use Rattle.table.proofs.put_node.Goals as goal

pub returns-then-t-eq0 : goal.returns-then-t-eq0
returns-then-t-eq0 g c = search writer_steps

pub put_whole-requires : goal.put_whole-requires
put_whole-requires g c = search writer_steps

pub shape_of-t-then-t-ge-ROW_WORDS : goal.shape_of-t-then-t-ge-ROW_WORDS
shape_of-t-then-t-ge-ROW_WORDS g c = search writer_steps

pub returns-then-t-ge-ROW_WORDS : goal.returns-then-t-ge-ROW_WORDS
returns-then-t-ge-ROW_WORDS g c = search writer_steps

pub put_cut-requires : goal.put_cut-requires
put_cut-requires g c = search writer_steps

pub shape_of-t : goal.shape_of-t
shape_of-t g c = search writer_steps

pub returns : goal.returns
returns g c = search writer_steps
