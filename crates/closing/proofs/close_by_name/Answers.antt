use Rattle.closing.proofs.CloseSteps.{by_name_steps, named_asked}
use Rattle.lex.proofs.Results.{counted_ok, err_is, refused_is, said_ok}
use Rattle.closing.proofs.close_by_name.Goals as goal

pub inside-requires : goal.inside-requires
inside-requires c = search named_asked

pub parse_jsx_element_name-requires : goal.parse_jsx_element_name-requires
parse_jsx_element_name-requires c = search named_asked

pub shape_of-t-in_err-f : goal.shape_of-t-in_err-f
shape_of-t-in_err-f c = search named_asked

pub returns-in_err-f : goal.returns-in_err-f
returns-in_err-f c = rw (err_is _ c.from_residual.ensures.1)
    (search (by_name_steps, c.in_err-f.ensures, refused_is c.in_err-f.field-0.0))

pub close_by-requires : goal.close_by-requires
close_by-requires c = search (named_asked, counted_ok c.branch-f.ensures c.in_ok-f.is)

pub shape_of-t-in_err-close_by : goal.shape_of-t-in_err-close_by
shape_of-t-in_err-close_by c = search (named_asked, counted_ok c.branch-f.ensures c.in_ok-f.is)

pub returns-in_err-close_by : goal.returns-in_err-close_by
returns-in_err-close_by c = rw (err_is _ c.from_residual-in_err-close_by.ensures.1)
    (search (
      by_name_steps,
      c.in_err-close_by.ensures,
      refused_is c.in_err-close_by.field-0.0,
      counted_ok c.branch-f.ensures c.in_ok-f.is,
    ))

pub shape_of-t : goal.shape_of-t
shape_of-t c = search (
  named_asked,
  counted_ok c.branch-f.ensures c.in_ok-f.is,
  said_ok c.branch-close_by.ensures c.in_ok-close_by.is,
)

pub returns : goal.returns
returns c = rw c.over_both.ensures (search (
  by_name_steps,
  counted_ok c.branch-f.ensures c.in_ok-f.is,
  said_ok c.branch-close_by.ensures c.in_ok-close_by.is,
))
