use Rattle.token.proofs.BetweenSteps.{dot_steps, between_asked}
use Rattle.lex.proofs.Results.{err_is, refused_is, said_ok}
use Rattle.token.proofs.dot_word.Goals as goal

pub open_by-requires : goal.open_by-requires
open_by-requires c = search between_asked

pub returns-in_err-p : goal.returns-in_err-p
returns-in_err-p c = rw (err_is _ c.from_residual.ensures.1)
    (search (dot_steps, c.in_err-p.ensures, refused_is c.in_err-p.field-0.0))

pub read_word-requires : goal.read_word-requires
read_word-requires c = search (between_asked, said_ok c.branch-p.ensures c.in_ok-p.is)

pub returns : goal.returns
returns c = search (dot_steps, said_ok c.branch-p.ensures c.in_ok-p.is)
