use Rattle.token.proofs.OperatorSteps.{operator_asked, operator_is, operator_steps}
use mathlib.Core.Path.{refl}
use Rattle.lex.proofs.Results.{err_is, refused_is, said_ok, offered_some, offered_none, one_up}
use Rattle.token.proofs.operator.Goals as goal

pub skip_blanks-requires : goal.skip_blanks-requires
skip_blanks-requires c = search operator_asked

pub returns-in_err-q : goal.returns-in_err-q
returns-in_err-q c = rw (err_is _ c.from_residual.ensures.1)
    (search (operator_steps, c.in_err-q.ensures, refused_is c.in_err-q.field-0.0))

pub operator_here-requires : goal.operator_here-requires
operator_here-requires c = search (operator_asked, said_ok c.branch-q.ensures c.in_ok-q.is)

pub returns-in_err-p : goal.returns-in_err-p
returns-in_err-p c = rw (err_is _ c.from_residual-in_err-p.ensures.1)
    (search (
      operator_steps,
      c.in_err-p.ensures,
      refused_is c.in_err-p.field-0.0,
      said_ok c.branch-q.ensures c.in_ok-q.is,
    ))

pub returns-in_default : goal.returns-in_default
returns-in_default c = search (
  operator_steps,
  said_ok c.branch-q.ensures c.in_ok-q.is,
  offered_none c.in_ok-q.q c.branch-p.ensures c.in_ok-p.is c.in_default.is,
)

pub skip_blanks-requires-2 : goal.skip_blanks-requires-2
skip_blanks-requires-2 c = search (
  operator_asked,
  said_ok c.branch-q.ensures c.in_ok-q.is,
  offered_some c.in_ok-q.q c.branch-p.ensures c.in_ok-p.is c.in-Some.is,
)

pub returns-in_err-z : goal.returns-in_err-z
returns-in_err-z c = rw (err_is _ c.from_residual-in_err-z.ensures.1)
    (search (
      operator_steps,
      c.in_err-z.ensures,
      refused_is c.in_err-z.field-0.0,
      said_ok c.branch-q.ensures c.in_ok-q.is,
      offered_some c.in_ok-q.q c.branch-p.ensures c.in_ok-p.is c.in-Some.is,
    ))

pub returns : goal.returns
returns c =
    operator_is c.skip_blanks.ensures (said_ok c.branch-q.ensures c.in_ok-q.is) c.operator_here.ensures
    (offered_some c.in_ok-q.q c.branch-p.ensures c.in_ok-p.is c.in-Some.is) one_up c.skip_blanks-2.ensures
    (said_ok c.branch-z.ensures c.in_ok-z.is) refl
