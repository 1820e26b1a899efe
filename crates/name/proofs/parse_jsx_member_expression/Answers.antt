use Rattle.name.proofs.MemberSteps.{member_asked, member_steps}
use Rattle.lex.proofs.Results.{counted_ok, err_is, refused_is}
use Rattle.name.proofs.parse_jsx_member_expression.Goals as goal

pub inside-inside-requires : goal.inside-inside-requires
inside-inside-requires c = search member_asked

pub put_object-requires : goal.put_object-requires
put_object-requires c = search member_asked

pub overflow_mul-start : goal.overflow_mul-start
overflow_mul-start c = search member_asked

pub start-i-requires : goal.start-i-requires
start-i-requires c = search member_asked

pub offset_bounds-t-i : goal.offset_bounds-t-i
offset_bounds-t-i c = search member_asked

pub slice_bounds-parse_dotted_parts-count : goal.slice_bounds-parse_dotted_parts-count
slice_bounds-parse_dotted_parts-count c = search member_asked

pub slice_bounds-parse_dotted_parts-start : goal.slice_bounds-parse_dotted_parts-start
slice_bounds-parse_dotted_parts-start c = search member_asked

pub slice_bounds-parse_dotted_parts-end : goal.slice_bounds-parse_dotted_parts-end
slice_bounds-parse_dotted_parts-end c = search member_asked

pub behind-requires : goal.behind-requires
behind-requires c = search member_asked

pub parse_dotted_parts-requires : goal.parse_dotted_parts-requires
parse_dotted_parts-requires c = search member_asked

pub shape_of-t-in_err-z : goal.shape_of-t-in_err-z
shape_of-t-in_err-z c = search member_asked

pub returns-in_err-z : goal.returns-in_err-z
returns-in_err-z c = rw (err_is _ c.from_residual.ensures.1)
    (search (member_steps, c.in_err-z.ensures, refused_is c.in_err-z.field-0.0))

pub overflow_add-m : goal.overflow_add-m
overflow_add-m c = search (member_asked, counted_ok c.branch-z.ensures c.in_ok-z.is)

pub put_node-requires : goal.put_node-requires
put_node-requires c = search (member_asked, counted_ok c.branch-z.ensures c.in_ok-z.is)

pub overflow_add-result : goal.overflow_add-result
overflow_add-result c = search (member_asked, counted_ok c.branch-z.ensures c.in_ok-z.is)

pub shape_of-t : goal.shape_of-t
shape_of-t c = search (member_asked, counted_ok c.branch-z.ensures c.in_ok-z.is)

pub returns : goal.returns
returns c = search (member_steps, counted_ok c.branch-z.ensures c.in_ok-z.is)
