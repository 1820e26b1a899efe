use Rattle.table.proofs.Laws.{writer_steps}
use Rattle.table.proofs.put_three.Goals as goal

pub put_word-requires : goal.put_word-requires
put_word-requires c = search writer_steps

pub overflow_add-k : goal.overflow_add-k
overflow_add-k c = search writer_steps

pub put_word-requires-2 : goal.put_word-requires-2
put_word-requires-2 c = search writer_steps

pub overflow_add-k-2 : goal.overflow_add-k-2
overflow_add-k-2 c = search writer_steps

pub put_word-requires-3 : goal.put_word-requires-3
put_word-requires-3 c = search writer_steps

pub shape_of-t : goal.shape_of-t
shape_of-t c = search writer_steps

pub returns : goal.returns
returns c = search writer_steps
