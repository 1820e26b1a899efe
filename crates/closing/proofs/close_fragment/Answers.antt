use Rattle.closing.proofs.CloseSteps.{fragment_steps, read_asked}
use Rattle.lex.proofs.Results.{err_is, refused_is, said_ok}
use Rattle.closing.proofs.close_fragment.Goals as goal

pub close_open-requires : goal.close_open-requires
close_open-requires c = search read_asked

pub returns-in_err-q : goal.returns-in_err-q
returns-in_err-q c = rw (err_is _ c.from_residual.ensures.1)
    (search (fragment_steps, c.in_err-q.ensures, refused_is c.in_err-q.field-0.0))

pub byte-requires : goal.byte-requires
byte-requires c = search read_asked

pub overflow_add-q : goal.overflow_add-q
overflow_add-q c = search (read_asked, said_ok c.branch-q.ensures c.in_ok-q.is)

pub put_node-requires : goal.put_node-requires
put_node-requires c = search (read_asked, said_ok c.branch-q.ensures c.in_ok-q.is)

pub overflow_add-result : goal.overflow_add-result
overflow_add-result c = search (read_asked, said_ok c.branch-q.ensures c.in_ok-q.is)

pub shape_of-t-then-byte-eq-GREATER : goal.shape_of-t-then-byte-eq-GREATER
shape_of-t-then-byte-eq-GREATER c = search (read_asked, said_ok c.branch-q.ensures c.in_ok-q.is)

pub returns-then-byte-eq-GREATER : goal.returns-then-byte-eq-GREATER
returns-then-byte-eq-GREATER c = search (fragment_steps, said_ok c.branch-q.ensures c.in_ok-q.is)

pub close_by_name-requires : goal.close_by_name-requires
close_by_name-requires c = search (read_asked, said_ok c.branch-q.ensures c.in_ok-q.is)

pub shape_of-t : goal.shape_of-t
shape_of-t c = search (read_asked, said_ok c.branch-q.ensures c.in_ok-q.is)

pub returns : goal.returns
returns c = search fragment_steps
