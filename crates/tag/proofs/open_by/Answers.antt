use Rattle.tag.proofs.TokenSteps.{token_asked, token_steps}
use Rattle.lex.proofs.Results.{err_is, refused_is, said_ok}
use Rattle.tag.proofs.open_by.Goals as goal

pub expect-requires : goal.expect-requires
expect-requires c = search token_asked

pub returns-in_err-p : goal.returns-in_err-p
returns-in_err-p c = rw (err_is _ c.from_residual.ensures.1)
    (search (token_steps, c.in_err-p.ensures, refused_is c.in_err-p.field-0.0))

pub skip_blanks-requires : goal.skip_blanks-requires
skip_blanks-requires c = search (token_asked, said_ok c.branch-p.ensures c.in_ok-p.is)

pub returns : goal.returns
returns c = search (token_steps, said_ok c.branch-p.ensures c.in_ok-p.is)
