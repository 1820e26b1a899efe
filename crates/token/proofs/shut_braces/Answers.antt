use Rattle.token.proofs.BetweenSteps.{braces_steps, between_asked}
use Rattle.lex.proofs.Results.{err_is, refused_is, said_ok}
use Rattle.token.proofs.shut_braces.Goals as goal

pub skip_blanks-requires : goal.skip_blanks-requires
skip_blanks-requires c = search between_asked

pub returns-in_err-q : goal.returns-in_err-q
returns-in_err-q c = rw (err_is _ c.from_residual.ensures.1)
    (search (braces_steps, c.in_err-q.ensures, refused_is c.in_err-q.field-0.0))

pub byte-requires : goal.byte-requires
byte-requires c = search (between_asked, said_ok c.branch-q.ensures c.in_ok-q.is)

pub overflow_add-q : goal.overflow_add-q
overflow_add-q c = search (between_asked, said_ok c.branch-q.ensures c.in_ok-q.is)

pub returns-then-byte-eq-COMMA : goal.returns-then-byte-eq-COMMA
returns-then-byte-eq-COMMA c = search (braces_steps, said_ok c.branch-q.ensures c.in_ok-q.is)

pub expect-requires : goal.expect-requires
expect-requires c = search (between_asked, said_ok c.branch-q.ensures c.in_ok-q.is)

pub returns : goal.returns
returns c = search (braces_steps, said_ok c.branch-q.ensures c.in_ok-q.is)
