use Rattle.name.proofs.NameSteps.{name_asked}
use Rattle.name.proofs.PartSteps.{part_steps}
use Rattle.lex.proofs.Results.{err_is, refused_is, said_ok}
use Rattle.name.proofs.parse_part.Goals as goal

pub parse_jsx_identifier-requires : goal.parse_jsx_identifier-requires
parse_jsx_identifier-requires c = search name_asked

pub returns-in_err-e : goal.returns-in_err-e
returns-in_err-e c = rw (err_is _ c.from_residual.ensures.1)
    (search (part_steps, c.in_err-e.ensures, refused_is c.in_err-e.field-0.0))

pub put_part-requires : goal.put_part-requires
put_part-requires c = search (name_asked, said_ok c.branch-e.ensures c.in_ok-e.is)

pub shape_of-t : goal.shape_of-t
shape_of-t c = search (name_asked, said_ok c.branch-e.ensures c.in_ok-e.is)

pub returns : goal.returns
returns c = search (part_steps, said_ok c.branch-e.ensures c.in_ok-e.is)
