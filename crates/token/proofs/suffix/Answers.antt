use Rattle.token.proofs.BetweenSteps.{suffix_steps, between_asked}
use Rattle.lex.proofs.Results.{err_is, refused_is, said_ok}
use Rattle.token.proofs.suffix.Goals as goal

pub skip_blanks-requires : goal.skip_blanks-requires
skip_blanks-requires c = search between_asked

pub returns-in_err-q : goal.returns-in_err-q
returns-in_err-q c = rw (err_is _ c.from_residual.ensures.1)
    (search (suffix_steps, c.in_err-q.ensures, refused_is c.in_err-q.field-0.0))

pub byte-b-requires : goal.byte-b-requires
byte-b-requires c = search (between_asked, said_ok c.branch-q.ensures c.in_ok-q.is)

pub returns-in-46 : goal.returns-in-46
returns-in-46 c = search (suffix_steps, said_ok c.branch-q.ensures c.in_ok-q.is)

pub returns-in_default : goal.returns-in_default
returns-in_default c = search (suffix_steps, said_ok c.branch-q.ensures c.in_ok-q.is)
