use Rattle.name.proofs.NameSteps.{name_asked}
use Rattle.name.proofs.NamespacedSteps.{next_steps}
use Rattle.lex.proofs.Results.{err_is, refused_is, said_ok}
use Rattle.name.proofs.parse_next_part.Goals as goal

pub skip_blanks-requires : goal.skip_blanks-requires
skip_blanks-requires c = search name_asked

pub returns-in_err-p : goal.returns-in_err-p
returns-in_err-p c = rw (err_is _ c.from_residual.ensures.1)
    (search (next_steps, c.in_err-p.ensures, refused_is c.in_err-p.field-0.0))

pub parse_part-requires : goal.parse_part-requires
parse_part-requires c = search (name_asked, said_ok c.branch-p.ensures c.in_ok-p.is)

pub shape_of-t : goal.shape_of-t
shape_of-t c = search (name_asked, said_ok c.branch-p.ensures c.in_ok-p.is)

pub returns : goal.returns
returns c = search (next_steps, said_ok c.branch-p.ensures c.in_ok-p.is)
