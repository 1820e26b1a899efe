use Rattle.stage.proofs.IntoSteps.{stage_steps, into_asked}
use Rattle.lex.specs.Answer.{counts, number}
use Rattle.lex.proofs.Results.{counted_as_ok, err_is, err_says, refused_as_is, refused_is, said_ok}
use Rattle.stage.proofs.stage_into.Goals as goal

pub skip_blanks-requires : goal.skip_blanks-requires
skip_blanks-requires c = search into_asked

pub returns-in_err-p : goal.returns-in_err-p
returns-in_err-p c = rw (err_is _ c.from_residual.ensures.1)
    (search (stage_steps, c.in_err-p.ensures, refused_is c.in_err-p.field-0.0))

pub byte-requires : goal.byte-requires
byte-requires c = search (into_asked, said_ok c.branch-p.ensures c.in_ok-p.is)

pub unexpected-requires : goal.unexpected-requires
unexpected-requires c = search (into_asked, said_ok c.branch-p.ensures c.in_ok-p.is)

pub returns-then-byte-ne-LESS : goal.returns-then-byte-ne-LESS
returns-then-byte-ne-LESS c = search (stage_steps, said_ok c.branch-p.ensures c.in_ok-p.is)

pub whole-requires : goal.whole-requires
whole-requires c = search (into_asked, said_ok c.branch-p.ensures c.in_ok-p.is)

pub parse_jsx_element-requires : goal.parse_jsx_element-requires
parse_jsx_element-requires c = search (into_asked, said_ok c.branch-p.ensures c.in_ok-p.is)

pub shape_of-t-in_err-e : goal.shape_of-t-in_err-e
shape_of-t-in_err-e c = search (into_asked, said_ok c.branch-p.ensures c.in_ok-p.is)

pub returns-in_err-e : goal.returns-in_err-e
returns-in_err-e c = rw (err_says counts c.from_residual-in_err-e.result c.from_residual-in_err-e.ensures.1)
    (search (
      stage_steps,
      c.in_err-e.ensures,
      refused_as_is number c.in_err-e.field-0.0,
      said_ok c.branch-p.ensures c.in_ok-p.is,
    ))

pub skip_blanks-requires-2 : goal.skip_blanks-requires-2
skip_blanks-requires-2 c = search (
  into_asked,
  said_ok c.branch-p.ensures c.in_ok-p.is,
  counted_as_ok number c.branch-e.ensures c.in_ok-e.is,
)

pub shape_of-t-in_err-z : goal.shape_of-t-in_err-z
shape_of-t-in_err-z c = search (
  into_asked,
  said_ok c.branch-p.ensures c.in_ok-p.is,
  counted_as_ok number c.branch-e.ensures c.in_ok-e.is,
)

pub returns-in_err-z : goal.returns-in_err-z
returns-in_err-z c = rw (err_is _ c.from_residual-in_err-z.ensures.1)
    (search (
      stage_steps,
      c.in_err-z.ensures,
      refused_is c.in_err-z.field-0.0,
      said_ok c.branch-p.ensures c.in_ok-p.is,
      counted_as_ok number c.branch-e.ensures c.in_ok-e.is,
    ))

pub byte-requires-2 : goal.byte-requires-2
byte-requires-2 c = search (
  into_asked,
  said_ok c.branch-p.ensures c.in_ok-p.is,
  counted_as_ok number c.branch-e.ensures c.in_ok-e.is,
  said_ok c.branch-z.ensures c.in_ok-z.is,
)

pub shape_of-t-then-byte-eq-END : goal.shape_of-t-then-byte-eq-END
shape_of-t-then-byte-eq-END c = search (
  into_asked,
  said_ok c.branch-p.ensures c.in_ok-p.is,
  counted_as_ok number c.branch-e.ensures c.in_ok-e.is,
  said_ok c.branch-z.ensures c.in_ok-z.is,
)

pub returns-then-byte-eq-END : goal.returns-then-byte-eq-END
returns-then-byte-eq-END c = search (
  stage_steps,
  said_ok c.branch-p.ensures c.in_ok-p.is,
  counted_as_ok number c.branch-e.ensures c.in_ok-e.is,
  said_ok c.branch-z.ensures c.in_ok-z.is,
)

pub shape_of-t : goal.shape_of-t
shape_of-t c = search (
  into_asked,
  said_ok c.branch-p.ensures c.in_ok-p.is,
  counted_as_ok number c.branch-e.ensures c.in_ok-e.is,
  said_ok c.branch-z.ensures c.in_ok-z.is,
)

pub returns : goal.returns
returns c = rw c.at.ensures (search (
  stage_steps,
  said_ok c.branch-p.ensures c.in_ok-p.is,
  counted_as_ok number c.branch-e.ensures c.in_ok-e.is,
  said_ok c.branch-z.ensures c.in_ok-z.is,
))
