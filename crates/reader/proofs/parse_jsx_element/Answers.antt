use Rattle.reader.proofs.Sets.{lone_asked, lone_set}
use Rattle.lex.specs.Answer.{counts}
use Rattle.lex.proofs.Results.{counted_ok, err_is, err_says_as, refused_as_is, refused_is, said_as_ok, said_ok}
use Rattle.reader.proofs.parse_jsx_element.Goals as goal

pub pass-requires : goal.pass-requires
pass-requires g c = search lone_asked

pub returns-in_err-a : goal.returns-in_err-a
returns-in_err-a g c =
    rw (err_says_as g.N.Numbered.number_of counts c.from_residual.result c.from_residual.ensures.1)
    (search (lone_set, c.in_err-a.ensures, refused_is c.in_err-a.field-0.0))

pub elem-requires : goal.elem-requires
elem-requires g c = search (lone_asked, said_ok c.branch-a.ensures c.in_ok-a.is)

pub shape_of-t-in_err-e : goal.shape_of-t-in_err-e
shape_of-t-in_err-e g c = search (lone_asked, said_ok c.branch-a.ensures c.in_ok-a.is)

pub returns-in_err-e : goal.returns-in_err-e
returns-in_err-e g c =
    rw (err_says_as g.N.Numbered.number_of counts c.from_residual-in_err-e.result c.from_residual-in_err-e.ensures.1)
    (search (lone_set, c.in_err-e.ensures, refused_is c.in_err-e.field-0.0, said_ok c.branch-a.ensures c.in_ok-a.is))

pub no_sibling-requires : goal.no_sibling-requires
no_sibling-requires g c = search (
  lone_asked,
  said_ok c.branch-a.ensures c.in_ok-a.is,
  counted_ok c.branch-e.ensures c.in_ok-e.is,
)

pub shape_of-t-in_err-z : goal.shape_of-t-in_err-z
shape_of-t-in_err-z g c = search (
  lone_asked,
  said_ok c.branch-a.ensures c.in_ok-a.is,
  counted_ok c.branch-e.ensures c.in_ok-e.is,
)

pub returns-in_err-z : goal.returns-in_err-z
returns-in_err-z g c = rw (err_is _ c.from_residual-in_err-z.ensures.1)
    (search (
      lone_set,
      c.in_err-z.ensures,
      refused_as_is g.N.Numbered.number_of c.in_err-z.field-0.0,
      said_ok c.branch-a.ensures c.in_ok-a.is,
      counted_ok c.branch-e.ensures c.in_ok-e.is,
    ))

pub shape_of-t : goal.shape_of-t
shape_of-t g c = search (
  lone_asked,
  said_ok c.branch-a.ensures c.in_ok-a.is,
  counted_ok c.branch-e.ensures c.in_ok-e.is,
  said_as_ok g.N.Numbered.number_of c.branch-z.ensures c.in_ok-z.is,
)

pub returns : goal.returns
returns g c = search (
  lone_set,
  said_ok c.branch-a.ensures c.in_ok-a.is,
  counted_ok c.branch-e.ensures c.in_ok-e.is,
  said_as_ok g.N.Numbered.number_of c.branch-z.ensures c.in_ok-z.is,
)
