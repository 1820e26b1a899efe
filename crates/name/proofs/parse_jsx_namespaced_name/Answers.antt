use Rattle.name.proofs.NamespacedSteps.{namespaced_asked, namespaced_steps}
use Rattle.lex.proofs.Results.{counted_ok, err_is, refused_is}
use Rattle.name.proofs.parse_jsx_namespaced_name.Goals as goal

pub inside-inside-requires : goal.inside-inside-requires
inside-inside-requires c = search namespaced_asked

pub put_part-requires : goal.put_part-requires
put_part-requires c = search namespaced_asked

pub overflow_mul-parse_next_part : goal.overflow_mul-parse_next_part
overflow_mul-parse_next_part c = search namespaced_asked

pub behind-requires : goal.behind-requires
behind-requires c = search namespaced_asked

pub overflow_add-first : goal.overflow_add-first
overflow_add-first c = search namespaced_asked

pub parse_next_part-requires : goal.parse_next_part-requires
parse_next_part-requires c = search namespaced_asked

pub shape_of-t-in_err-z : goal.shape_of-t-in_err-z
shape_of-t-in_err-z c = search namespaced_asked

pub returns-in_err-z : goal.returns-in_err-z
returns-in_err-z c = rw (err_is _ c.from_residual.ensures.1)
    (search (namespaced_steps, c.in_err-z.ensures, refused_is c.in_err-z.field-0.0))

pub overflow_add-k : goal.overflow_add-k
overflow_add-k c = search (namespaced_asked, counted_ok c.branch-z.ensures c.in_ok-z.is)

pub put_node-requires : goal.put_node-requires
put_node-requires c = search (namespaced_asked, counted_ok c.branch-z.ensures c.in_ok-z.is)

pub overflow_add-result : goal.overflow_add-result
overflow_add-result c = search (namespaced_asked, counted_ok c.branch-z.ensures c.in_ok-z.is)

pub shape_of-t : goal.shape_of-t
shape_of-t c = search (namespaced_asked, counted_ok c.branch-z.ensures c.in_ok-z.is)

pub returns : goal.returns
returns c = search (namespaced_steps, counted_ok c.branch-z.ensures c.in_ok-z.is)
