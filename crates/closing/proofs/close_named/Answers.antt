use Rattle.closing.proofs.CloseSteps.{named_asked, named_steps}
use Rattle.lex.proofs.Results.{counted_ok, err_is, refused_is, said_ok}
use Rattle.closing.proofs.close_named.Goals as goal

pub start-i-requires : goal.start-i-requires
start-i-requires c = search named_asked

pub offset_bounds-t-i : goal.offset_bounds-t-i
offset_bounds-t-i c = search named_asked

pub slice_bounds-parse_jsx_element_name-count : goal.slice_bounds-parse_jsx_element_name-count
slice_bounds-parse_jsx_element_name-count c = search named_asked

pub slice_bounds-parse_jsx_element_name-start : goal.slice_bounds-parse_jsx_element_name-start
slice_bounds-parse_jsx_element_name-start c = search named_asked

pub slice_bounds-parse_jsx_element_name-end : goal.slice_bounds-parse_jsx_element_name-end
slice_bounds-parse_jsx_element_name-end c = search named_asked

pub inside-requires : goal.inside-requires
inside-requires c = search named_asked

pub parse_jsx_element_name-requires : goal.parse_jsx_element_name-requires
parse_jsx_element_name-requires c = search named_asked

pub shape_of-t-in_err-f : goal.shape_of-t-in_err-f
shape_of-t-in_err-f c = search named_asked

pub returns-in_err-f : goal.returns-in_err-f
returns-in_err-f c = rw (err_is _ c.from_residual.ensures.1)
    (search (named_steps, c.in_err-f.ensures, refused_is c.in_err-f.field-0.0))

pub close_by-requires : goal.close_by-requires
close_by-requires c = search (named_asked, counted_ok c.branch-f.ensures c.in_ok-f.is)

pub shape_of-t-in_err-z : goal.shape_of-t-in_err-z
shape_of-t-in_err-z c = search (named_asked, counted_ok c.branch-f.ensures c.in_ok-f.is)

pub returns-in_err-z : goal.returns-in_err-z
returns-in_err-z c = rw (err_is _ c.from_residual-in_err-z.ensures.1)
    (search (
      named_steps,
      c.in_err-z.ensures,
      refused_is c.in_err-z.field-0.0,
      counted_ok c.branch-f.ensures c.in_ok-f.is,
    ))

pub jsx_element_name_eq-requires : goal.jsx_element_name_eq-requires
jsx_element_name_eq-requires c = search (named_asked, counted_ok c.branch-f.ensures c.in_ok-f.is)

pub put_node-requires : goal.put_node-requires
put_node-requires c = search (
  named_asked,
  counted_ok c.branch-f.ensures c.in_ok-f.is,
  said_ok c.branch-z.ensures c.in_ok-z.is,
)

pub overflow_add-result : goal.overflow_add-result
overflow_add-result c = search (
  named_asked,
  counted_ok c.branch-f.ensures c.in_ok-f.is,
  said_ok c.branch-z.ensures c.in_ok-z.is,
)

pub shape_of-t-then-jsx_element_name_eq : goal.shape_of-t-then-jsx_element_name_eq
shape_of-t-then-jsx_element_name_eq c = search (
  named_asked,
  counted_ok c.branch-f.ensures c.in_ok-f.is,
  said_ok c.branch-z.ensures c.in_ok-z.is,
)

pub returns-then-jsx_element_name_eq : goal.returns-then-jsx_element_name_eq
returns-then-jsx_element_name_eq c = search (
  named_steps,
  counted_ok c.branch-f.ensures c.in_ok-f.is,
  said_ok c.branch-z.ensures c.in_ok-z.is,
)

pub shape_of-t : goal.shape_of-t
shape_of-t c = search (named_asked, counted_ok c.branch-f.ensures c.in_ok-f.is, said_ok c.branch-z.ensures c.in_ok-z.is)

pub returns : goal.returns
returns c = rw c.over_both.ensures (search (
  named_steps,
  counted_ok c.branch-f.ensures c.in_ok-f.is,
  said_ok c.branch-z.ensures c.in_ok-z.is,
))
