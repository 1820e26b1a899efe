use Rattle.tag.proofs.QuotedSteps.{quoted_asked, quoted_steps}
use Rattle.lex.proofs.Results.{err_is, refused_is, said_ok}
use Rattle.tag.proofs.quoted_value.Goals as goal

pub read_jsx_string_literal-requires : goal.read_jsx_string_literal-requires
read_jsx_string_literal-requires c = search quoted_asked

pub returns-in_err-e : goal.returns-in_err-e
returns-in_err-e c = rw (err_is _ c.from_residual.ensures.1)
    (search (quoted_steps, c.in_err-e.ensures, refused_is c.in_err-e.field-0.0))

pub put_node-requires : goal.put_node-requires
put_node-requires c = search (quoted_asked, said_ok c.branch-e.ensures c.in_ok-e.is)

pub shape_of-t : goal.shape_of-t
shape_of-t c = search (quoted_asked, said_ok c.branch-e.ensures c.in_ok-e.is)

pub returns : goal.returns
returns c = search (quoted_steps, said_ok c.branch-e.ensures c.in_ok-e.is)
