use Rattle.table.proofs.Laws.{writer_steps}
use Rattle.table.proofs.put_word.Goals as goal

pub overflow_cast-t : goal.overflow_cast-t
overflow_cast-t c = search writer_steps

pub offset_bounds-t-k : goal.offset_bounds-t-k
offset_bounds-t-k c = search writer_steps

pub bounds-t-k : goal.bounds-t-k
bounds-t-k c = search writer_steps

pub shape_of-t : goal.shape_of-t
shape_of-t c = search writer_steps

pub returns-then-k-t : goal.returns-then-k-t
returns-then-k-t c = search writer_steps

pub returns-else-k-t : goal.returns-else-k-t
returns-else-k-t c = search writer_steps
