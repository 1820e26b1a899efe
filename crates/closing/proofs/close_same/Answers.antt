use Rattle.closing.proofs.RepeatedSteps.{same_asked, same_steps}
use Rattle.closing.proofs.close_same.Goals as goal

pub overflow_add-e : goal.overflow_add-e
overflow_add-e c = search same_asked

pub overflow_sub-e : goal.overflow_sub-e
overflow_sub-e c = search same_asked

pub overflow_add-e-2 : goal.overflow_add-e-2
overflow_add-e-2 c = search same_asked

pub overflow_add-result : goal.overflow_add-result
overflow_add-result c = search same_asked

pub returns-then-t-eq0 : goal.returns-then-t-eq0
returns-then-t-eq0 c = search same_steps

pub start-i-requires : goal.start-i-requires
start-i-requires c = search same_asked

pub offset_bounds-t-i : goal.offset_bounds-t-i
offset_bounds-t-i c = search same_asked

pub slice_bounds-put_name-count : goal.slice_bounds-put_name-count
slice_bounds-put_name-count c = search same_asked

pub slice_bounds-put_name-start : goal.slice_bounds-put_name-start
slice_bounds-put_name-start c = search same_asked

pub slice_bounds-put_name-end : goal.slice_bounds-put_name-end
slice_bounds-put_name-end c = search same_asked

pub inside-requires : goal.inside-requires
inside-requires c = search same_asked

pub overflow_add-c : goal.overflow_add-c
overflow_add-c c = search same_asked

pub put_name-requires : goal.put_name-requires
put_name-requires c = search same_asked

pub overflow_add-e-3 : goal.overflow_add-e-3
overflow_add-e-3 c = search same_asked

pub put_node-requires : goal.put_node-requires
put_node-requires c = search same_asked

pub overflow_add-result-2 : goal.overflow_add-result-2
overflow_add-result-2 c = search same_asked

pub shape_of-t : goal.shape_of-t
shape_of-t c = search same_asked

pub returns : goal.returns
returns c = search same_steps
