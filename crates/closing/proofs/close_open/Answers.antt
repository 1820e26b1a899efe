use Rattle.closing.proofs.OpenedSteps.{close_asked, less_steps}
use Rattle.lex.proofs.Results.{err_is, refused_is, said_ok}
use Rattle.closing.proofs.close_open.Goals as goal

pub open_by-requires : goal.open_by-requires
open_by-requires c = search close_asked

pub returns-in_err-p : goal.returns-in_err-p
returns-in_err-p c = rw (err_is _ c.from_residual.ensures.1)
    (search (less_steps, c.in_err-p.ensures, refused_is c.in_err-p.field-0.0))

pub open_by-requires-2 : goal.open_by-requires-2
open_by-requires-2 c = search (close_asked, said_ok c.branch-p.ensures c.in_ok-p.is)

pub returns : goal.returns
returns c = search (less_steps, said_ok c.branch-p.ensures c.in_ok-p.is)
