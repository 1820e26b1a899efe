use Rattle.token.proofs.BetweenSteps.{colon_steps, between_asked}
use Rattle.lex.proofs.Results.{err_is, refused_is, said_ok}
use Rattle.token.proofs.colon.Goals as goal

pub close_by-requires : goal.close_by-requires
close_by-requires c = search between_asked

pub returns-in_err-p : goal.returns-in_err-p
returns-in_err-p c = rw (err_is _ c.from_residual.ensures.1)
    (search (colon_steps, c.in_err-p.ensures, refused_is c.in_err-p.field-0.0))

pub skip_blanks-requires : goal.skip_blanks-requires
skip_blanks-requires c = search (between_asked, said_ok c.branch-p.ensures c.in_ok-p.is)

pub returns : goal.returns
returns c = search (colon_steps, said_ok c.branch-p.ensures c.in_ok-p.is)
