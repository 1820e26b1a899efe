use Rattle.name.proofs.NameSteps.{name_asked, name_steps}
use Rattle.lex.proofs.Results.{err_is, refused_is, said_ok}
use Rattle.name.proofs.parse_jsx_attribute_name.Goals as goal

pub parse_jsx_identifier-requires : goal.parse_jsx_identifier-requires
parse_jsx_identifier-requires c = search name_asked

pub returns-in_err-e : goal.returns-in_err-e
returns-in_err-e c = rw (err_is _ c.from_residual.ensures.1)
    (search (name_steps, c.in_err-e.ensures, refused_is c.in_err-e.field-0.0))

pub skip_blanks-requires : goal.skip_blanks-requires
skip_blanks-requires c = search (name_asked, said_ok c.branch-e.ensures c.in_ok-e.is)

pub returns-in_err-q : goal.returns-in_err-q
returns-in_err-q c = rw (err_is _ c.from_residual-in_err-q.ensures.1)
    (search (name_steps, c.in_err-q.ensures, refused_is c.in_err-q.field-0.0, said_ok c.branch-e.ensures c.in_ok-e.is))

pub byte-requires : goal.byte-requires
byte-requires c = search (
  name_asked,
  said_ok c.branch-e.ensures c.in_ok-e.is,
  said_ok c.branch-q.ensures c.in_ok-q.is,
)

pub parse_jsx_namespaced_name-requires : goal.parse_jsx_namespaced_name-requires
parse_jsx_namespaced_name-requires c = search (
  name_asked,
  said_ok c.branch-e.ensures c.in_ok-e.is,
  said_ok c.branch-q.ensures c.in_ok-q.is,
)

pub shape_of-t-then-byte-eq-COLON : goal.shape_of-t-then-byte-eq-COLON
shape_of-t-then-byte-eq-COLON c = search (
  name_asked,
  said_ok c.branch-e.ensures c.in_ok-e.is,
  said_ok c.branch-q.ensures c.in_ok-q.is,
)

pub returns-then-byte-eq-COLON : goal.returns-then-byte-eq-COLON
returns-then-byte-eq-COLON c = search (
  name_steps,
  said_ok c.branch-e.ensures c.in_ok-e.is,
  said_ok c.branch-q.ensures c.in_ok-q.is,
)

pub put_part-requires : goal.put_part-requires
put_part-requires c = search (
  name_asked,
  said_ok c.branch-e.ensures c.in_ok-e.is,
  said_ok c.branch-q.ensures c.in_ok-q.is,
)

pub shape_of-t : goal.shape_of-t
shape_of-t c = search (
  name_asked,
  said_ok c.branch-e.ensures c.in_ok-e.is,
  said_ok c.branch-q.ensures c.in_ok-q.is,
)

pub returns : goal.returns
returns c = search (
  name_steps,
  said_ok c.branch-e.ensures c.in_ok-e.is,
  said_ok c.branch-q.ensures c.in_ok-q.is,
)
