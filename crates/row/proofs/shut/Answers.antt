use Rattle.row.proofs.ShutSteps.{shut_steps, shut_asked}
use Rattle.lex.proofs.Results.{counted_ok, err_is, refused_is}
use Rattle.row.proofs.shut.Goals as goal

pub overflow_add-v : goal.overflow_add-v
overflow_add-v c = search shut_asked

pub overflow_mul-v : goal.overflow_mul-v
overflow_mul-v c = search shut_asked

pub start-i-requires : goal.start-i-requires
start-i-requires c = search shut_asked

pub offset_bounds-t-i : goal.offset_bounds-t-i
offset_bounds-t-i c = search shut_asked

pub slice_bounds-close-count : goal.slice_bounds-close-count
slice_bounds-close-count c = search shut_asked

pub slice_bounds-close-start : goal.slice_bounds-close-start
slice_bounds-close-start c = search shut_asked

pub slice_bounds-close-end : goal.slice_bounds-close-end
slice_bounds-close-end c = search shut_asked

pub inside-requires : goal.inside-requires
inside-requires c = search shut_asked

pub behind-requires : goal.behind-requires
behind-requires c = search shut_asked

pub close-requires : goal.close-requires
close-requires c = search shut_asked

pub shape_of-t-in_err-z : goal.shape_of-t-in_err-z
shape_of-t-in_err-z c = search shut_asked

pub returns-in_err-z : goal.returns-in_err-z
returns-in_err-z c = rw (err_is _ c.from_residual.ensures.1)
    (search (shut_steps, c.in_err-z.ensures, refused_is c.in_err-z.field-0.0))

pub overflow_add-v-2 : goal.overflow_add-v-2
overflow_add-v-2 c = search (shut_asked, counted_ok c.branch-z.ensures c.in_ok-z.is)

pub put_node-requires : goal.put_node-requires
put_node-requires c = search (shut_asked, counted_ok c.branch-z.ensures c.in_ok-z.is)

pub overflow_add-result : goal.overflow_add-result
overflow_add-result c = search (shut_asked, counted_ok c.branch-z.ensures c.in_ok-z.is)

pub overflow_add-result-2 : goal.overflow_add-result-2
overflow_add-result-2 c = search (shut_asked, counted_ok c.branch-z.ensures c.in_ok-z.is)

pub shape_of-t : goal.shape_of-t
shape_of-t c = search (shut_asked, counted_ok c.branch-z.ensures c.in_ok-z.is)

pub returns : goal.returns
returns c = search (shut_steps, counted_ok c.branch-z.ensures c.in_ok-z.is)
