use Rattle.token.proofs.BetweenSteps.{assign_steps, between_asked}
use Rattle.lex.proofs.Results.{err_is, refused_is, said_ok}
use Rattle.token.proofs.assign.Goals as goal

pub skip_blanks-requires : goal.skip_blanks-requires
skip_blanks-requires c = search between_asked

pub returns-in_err-q : goal.returns-in_err-q
returns-in_err-q c = rw (err_is _ c.from_residual.ensures.1)
    (search (assign_steps, c.in_err-q.ensures, refused_is c.in_err-q.field-0.0))

pub byte-requires : goal.byte-requires
byte-requires c = search (between_asked, said_ok c.branch-q.ensures c.in_ok-q.is)

pub returns-then-byte-ne-EQUALS : goal.returns-then-byte-ne-EQUALS
returns-then-byte-ne-EQUALS c = search (assign_steps, said_ok c.branch-q.ensures c.in_ok-q.is)

pub pass-requires : goal.pass-requires
pass-requires c = search (between_asked, said_ok c.branch-q.ensures c.in_ok-q.is)

pub returns-in_err-p : goal.returns-in_err-p
returns-in_err-p c = rw (err_is _ c.from_residual-in_err-p.ensures.1)
    (search (
      assign_steps,
      c.in_err-p.ensures,
      refused_is c.in_err-p.field-0.0,
      said_ok c.branch-q.ensures c.in_ok-q.is,
    ))

pub returns : goal.returns
returns c = search (
  assign_steps,
  said_ok c.branch-q.ensures c.in_ok-q.is,
  said_ok c.branch-p.ensures c.in_ok-p.is,
)
