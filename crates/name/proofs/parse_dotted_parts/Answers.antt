use Rattle.name.proofs.DottedSteps.{turn_stops_behind, dotted_asked, dotted_steps}
use Rattle.lex.proofs.Results.{counted_ok, err_is, refused_is, said_ok}
use Rattle.name.proofs.parse_dotted_parts.Goals as goal

pub loop-q-init : goal.loop-q-init
loop-q-init c = search dotted_steps

pub skip_blanks-requires : goal.skip_blanks-requires
skip_blanks-requires c = search dotted_asked

pub shape_of-t-in_err-q : goal.shape_of-t-in_err-q
shape_of-t-in_err-q c = search dotted_asked

pub returns-in_err-q : goal.returns-in_err-q
returns-in_err-q c = rw (err_is _ c.from_residual.ensures.1)
    (search (dotted_steps, c.in_err-q.ensures, refused_is c.in_err-q.field-0.0))

pub byte-requires : goal.byte-requires
byte-requires c = search (dotted_asked, said_ok c.branch-q.ensures c.in_ok-q.is)

pub shape_of-t-then-byte-ne-DOT : goal.shape_of-t-then-byte-ne-DOT
shape_of-t-then-byte-ne-DOT c = search (dotted_asked, said_ok c.branch-q.ensures c.in_ok-q.is)

pub returns-then-byte-ne-DOT : goal.returns-then-byte-ne-DOT
returns-then-byte-ne-DOT c = search (dotted_steps, said_ok c.branch-q.ensures c.in_ok-q.is)

pub overflow_add-q : goal.overflow_add-q
overflow_add-q c = search (dotted_asked, said_ok c.branch-q.ensures c.in_ok-q.is)

pub skip_blanks-requires-in-loop-q : goal.skip_blanks-requires-in-loop-q
skip_blanks-requires-in-loop-q c = search (dotted_asked, said_ok c.branch-q.ensures c.in_ok-q.is)

pub shape_of-t-in_err-a : goal.shape_of-t-in_err-a
shape_of-t-in_err-a c = search (dotted_asked, said_ok c.branch-q.ensures c.in_ok-q.is)

pub returns-in_err-a : goal.returns-in_err-a
returns-in_err-a c = rw (err_is _ c.from_residual-in_err-a.ensures.1)
    (turn_stops_behind c.loop-q.invariant c.skip_blanks.ensures (said_ok c.branch-q.ensures c.in_ok-q.is) c.byte.ensures c.if-byte-ne-DOT.false c.in_err-a.ensures (refused_is _))

pub overflow_mul-m : goal.overflow_mul-m
overflow_mul-m c = search (
  dotted_asked,
  said_ok c.branch-q.ensures c.in_ok-q.is,
  said_ok c.branch-a.ensures c.in_ok-a.is,
)

pub behind-requires : goal.behind-requires
behind-requires c = search (
  dotted_asked,
  said_ok c.branch-q.ensures c.in_ok-q.is,
  said_ok c.branch-a.ensures c.in_ok-a.is,
)

pub parse_dotted_part-requires : goal.parse_dotted_part-requires
parse_dotted_part-requires c = search (
  dotted_asked,
  said_ok c.branch-q.ensures c.in_ok-q.is,
  said_ok c.branch-a.ensures c.in_ok-a.is,
)

pub shape_of-t-in_err-z : goal.shape_of-t-in_err-z
shape_of-t-in_err-z c = search (
  dotted_asked,
  said_ok c.branch-q.ensures c.in_ok-q.is,
  said_ok c.branch-a.ensures c.in_ok-a.is,
)

pub returns-in_err-z : goal.returns-in_err-z
returns-in_err-z c = rw (err_is _ c.from_residual-in_err-z.ensures.1)
    (search (
      dotted_steps,
      c.in_err-z.ensures,
      refused_is c.in_err-z.field-0.0,
      said_ok c.branch-q.ensures c.in_ok-q.is,
      said_ok c.branch-a.ensures c.in_ok-a.is,
    ))

pub overflow_add-m : goal.overflow_add-m
overflow_add-m c = search (
  dotted_asked,
  said_ok c.branch-q.ensures c.in_ok-q.is,
  said_ok c.branch-a.ensures c.in_ok-a.is,
  counted_ok c.branch-z.ensures c.in_ok-z.is,
)

pub loop-q-smaller : goal.loop-q-smaller
loop-q-smaller c = search (
  dotted_asked,
  said_ok c.branch-q.ensures c.in_ok-q.is,
  said_ok c.branch-a.ensures c.in_ok-a.is,
  counted_ok c.branch-z.ensures c.in_ok-z.is,
)

pub loop-q-preserved : goal.loop-q-preserved
loop-q-preserved c = search (
  dotted_steps,
  said_ok c.branch-q.ensures c.in_ok-q.is,
  said_ok c.branch-a.ensures c.in_ok-a.is,
  counted_ok c.branch-z.ensures c.in_ok-z.is,
)
