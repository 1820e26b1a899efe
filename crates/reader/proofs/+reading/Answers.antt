use Rattle.reader.proofs.Sets.{args_set, arms_set, asked, attr_asked, attr_set, attrs_set, call_set, child_asked}
use Rattle.reader.proofs.Sets.{child_set, children_asked, children_set, choice_set, cond_asked, cond_set, content_asked}
use Rattle.reader.proofs.Sets.{content_set, either_set, element_asked, element_set, expr_set, fragment_asked}
use Rattle.reader.proofs.Sets.{fragment_set, group_set, held_set, in_attr_set, in_held_set, in_spread_set, in_tag_asked}
use Rattle.reader.proofs.Sets.{in_tag_set, joins_set, lone_asked, lone_set, loop_asked, more_set, named_asked}
use Rattle.reader.proofs.Sets.{named_set, node_asked, postfix_set, prefix_set, primary_asked, primary_set, spread_set}
use Rattle.reader.proofs.Sets.{tail_asked, tail_set, tails_set, unary_asked, unary_set, value_asked, value_set}
use mathlib.Core.Path.{refl}
use native.Mathlib.Omega.{arith}
use Rattle.table.proofs.Asked.{made_inside}
use Rattle.reader.proofs.Steps.{made_leaf_room}
use Rattle.reader.proofs.Asked.{brace_inside, bracket_inside, paren_inside, dash_inside, less_inside, question_inside}
use Rattle.reader.proofs.Asked.{fragment_wide, fragment_behind, fragment_shut}
use Rattle.lex.specs.Answer.{counts, number}
use Rattle.lex.proofs.Results.{counted_ok, err_is, offered_none, offered_some, refused_is, said_ok, told_ok}
use Rattle.lex.proofs.Results.{err_says, refused_as_is, said_as_ok}
use Rattle.reader.proofs.PlainSteps.{tag_ok, tag_stops, tag_goes, tag_refused_is, plain_refused, refused_plain}
use Rattle.reader.proofs.Steps.{two_refuses_inside}
use Rattle.reader.proofs.Cuts.{either_splits, postfix_splits}
use Rattle.reader.proofs.ExpressionSteps.{arms_refuse_inside}
use Rattle.reader.proofs.TagSteps.{named_refuses, named_single, named_is}
use Rattle.reader.proofs.+reading.Goals as goal

pub args-cond-requires : goal.args-cond-requires
args-cond-requires t c = search asked

pub args-shape_of-t-in_err-e : goal.args-shape_of-t-in_err-e
args-shape_of-t-in_err-e t c = search asked

pub args-returns-in_err-e : goal.args-returns-in_err-e
args-returns-in_err-e t c = rw (err_is _ c.from_residual.ensures.1)
    (search (args_set, c.in_err-e.ensures, refused_is c.in_err-e.field-0.0))

pub args-overflow_mul-k : goal.args-overflow_mul-k
args-overflow_mul-k t c = search (asked, counted_ok c.branch-e.ensures c.in_ok-e.is)

pub args-start-i-requires : goal.args-start-i-requires
args-start-i-requires t c = search (asked, counted_ok c.branch-e.ensures c.in_ok-e.is)

pub args-offset_bounds-t-i : goal.args-offset_bounds-t-i
args-offset_bounds-t-i t c = search (asked, counted_ok c.branch-e.ensures c.in_ok-e.is)

pub args-slice_bounds-more-count : goal.args-slice_bounds-more-count
args-slice_bounds-more-count t c = search (asked, counted_ok c.branch-e.ensures c.in_ok-e.is)

pub args-slice_bounds-more-start : goal.args-slice_bounds-more-start
args-slice_bounds-more-start t c = search (asked, counted_ok c.branch-e.ensures c.in_ok-e.is)

pub args-slice_bounds-more-end : goal.args-slice_bounds-more-end
args-slice_bounds-more-end t c = search (asked, counted_ok c.branch-e.ensures c.in_ok-e.is)

pub args-behind-requires : goal.args-behind-requires
args-behind-requires t c = search (asked, counted_ok c.branch-e.ensures c.in_ok-e.is)

pub args-more-requires : goal.args-more-requires
args-more-requires t c = search (asked, counted_ok c.branch-e.ensures c.in_ok-e.is)

pub args-shape_of-t-in_err-q : goal.args-shape_of-t-in_err-q
args-shape_of-t-in_err-q t c = search (asked, counted_ok c.branch-e.ensures c.in_ok-e.is)

pub args-returns-in_err-q : goal.args-returns-in_err-q
args-returns-in_err-q t c = rw (err_is _ c.from_residual-in_err-q.ensures.1)
    (search (args_set, c.in_err-q.ensures, refused_is c.in_err-q.field-0.0, counted_ok c.branch-e.ensures c.in_ok-e.is))

pub args-expect-requires : goal.args-expect-requires
args-expect-requires t c = (search asked, search (made_inside, counted_ok c.branch-q.ensures c.in_ok-q.is))

pub args-shape_of-t-in_err-z : goal.args-shape_of-t-in_err-z
args-shape_of-t-in_err-z t c = search (
  asked,
  counted_ok c.branch-e.ensures c.in_ok-e.is,
  counted_ok c.branch-q.ensures c.in_ok-q.is,
)

pub args-returns-in_err-z : goal.args-returns-in_err-z
args-returns-in_err-z t c = rw (err_is _ c.from_residual-in_err-z.ensures.1)
    (search (
      args_set,
      c.in_err-z.ensures,
      refused_is c.in_err-z.field-0.0,
      counted_ok c.branch-e.ensures c.in_ok-e.is,
      counted_ok c.branch-q.ensures c.in_ok-q.is,
    ))

pub args-overflow_add-result : goal.args-overflow_add-result
args-overflow_add-result t c = search (
  asked,
  counted_ok c.branch-e.ensures c.in_ok-e.is,
  counted_ok c.branch-q.ensures c.in_ok-q.is,
  said_ok c.branch-z.ensures c.in_ok-z.is,
)

pub args-shape_of-t : goal.args-shape_of-t
args-shape_of-t t c = search (
  asked,
  counted_ok c.branch-e.ensures c.in_ok-e.is,
  counted_ok c.branch-q.ensures c.in_ok-q.is,
  said_ok c.branch-z.ensures c.in_ok-z.is,
)

pub args-returns : goal.args-returns
args-returns t c = search (
  args_set,
  counted_ok c.branch-e.ensures c.in_ok-e.is,
  counted_ok c.branch-q.ensures c.in_ok-q.is,
  said_ok c.branch-z.ensures c.in_ok-z.is,
)

pub arms-cond-requires : goal.arms-cond-requires
arms-cond-requires t c = search asked

pub arms-shape_of-t-in_err-e : goal.arms-shape_of-t-in_err-e
arms-shape_of-t-in_err-e t c = search asked

pub arms-returns-in_err-e : goal.arms-returns-in_err-e
arms-returns-in_err-e t c = rw (err_is _ c.from_residual.ensures.1)
    (search (arms_set, c.in_err-e.ensures, refused_is c.in_err-e.field-0.0))

pub arms-colon-requires : goal.arms-colon-requires
arms-colon-requires t c = search (asked, counted_ok c.branch-e.ensures c.in_ok-e.is)

pub arms-shape_of-t-in_err-p : goal.arms-shape_of-t-in_err-p
arms-shape_of-t-in_err-p t c = search (asked, counted_ok c.branch-e.ensures c.in_ok-e.is)

pub arms-returns-in_err-p : goal.arms-returns-in_err-p
arms-returns-in_err-p t c = rw (err_is _ c.from_residual-in_err-p.ensures.1)
    (search (arms_set, c.in_err-p.ensures, refused_is c.in_err-p.field-0.0, counted_ok c.branch-e.ensures c.in_ok-e.is))

pub arms-overflow_mul-k : goal.arms-overflow_mul-k
arms-overflow_mul-k t c = search (
  asked,
  counted_ok c.branch-e.ensures c.in_ok-e.is,
  said_ok c.branch-p.ensures c.in_ok-p.is,
)

pub arms-start-i-requires : goal.arms-start-i-requires
arms-start-i-requires t c = search (
  asked,
  counted_ok c.branch-e.ensures c.in_ok-e.is,
  said_ok c.branch-p.ensures c.in_ok-p.is,
)

pub arms-offset_bounds-t-i : goal.arms-offset_bounds-t-i
arms-offset_bounds-t-i t c = search (
  asked,
  counted_ok c.branch-e.ensures c.in_ok-e.is,
  said_ok c.branch-p.ensures c.in_ok-p.is,
)

pub arms-slice_bounds-cond-count : goal.arms-slice_bounds-cond-count
arms-slice_bounds-cond-count t c = search (
  asked,
  counted_ok c.branch-e.ensures c.in_ok-e.is,
  said_ok c.branch-p.ensures c.in_ok-p.is,
)

pub arms-slice_bounds-cond-start : goal.arms-slice_bounds-cond-start
arms-slice_bounds-cond-start t c = search (
  asked,
  counted_ok c.branch-e.ensures c.in_ok-e.is,
  said_ok c.branch-p.ensures c.in_ok-p.is,
)

pub arms-slice_bounds-cond-end : goal.arms-slice_bounds-cond-end
arms-slice_bounds-cond-end t c = search (
  asked,
  counted_ok c.branch-e.ensures c.in_ok-e.is,
  said_ok c.branch-p.ensures c.in_ok-p.is,
)

pub arms-behind-requires : goal.arms-behind-requires
arms-behind-requires t c = search (
  asked,
  counted_ok c.branch-e.ensures c.in_ok-e.is,
  said_ok c.branch-p.ensures c.in_ok-p.is,
)

pub arms-cond-requires-2 : goal.arms-cond-requires-2
arms-cond-requires-2 t c = search (
  asked,
  counted_ok c.branch-e.ensures c.in_ok-e.is,
  said_ok c.branch-p.ensures c.in_ok-p.is,
)

pub arms-shape_of-t-in_err-z : goal.arms-shape_of-t-in_err-z
arms-shape_of-t-in_err-z t c = search (
  asked,
  counted_ok c.branch-e.ensures c.in_ok-e.is,
  said_ok c.branch-p.ensures c.in_ok-p.is,
)

pub arms-returns-in_err-z : goal.arms-returns-in_err-z
arms-returns-in_err-z t c = rw (err_is _ c.from_residual-in_err-z.ensures.1)
    (arms_refuse_inside _ c.requires c.cond.ensures (counted_ok c.branch-e.ensures c.in_ok-e.is) c.colon.ensures (said_ok c.branch-p.ensures c.in_ok-p.is)
    c.start-i.ensures c.behind.ensures c.in_err-z.ensures (refused_is _))

pub arms-overflow_add-result : goal.arms-overflow_add-result
arms-overflow_add-result t c = search (
  asked,
  counted_ok c.branch-e.ensures c.in_ok-e.is,
  said_ok c.branch-p.ensures c.in_ok-p.is,
  counted_ok c.branch-z.ensures c.in_ok-z.is,
)

pub arms-shape_of-t : goal.arms-shape_of-t
arms-shape_of-t t c = search (
  asked,
  counted_ok c.branch-e.ensures c.in_ok-e.is,
  said_ok c.branch-p.ensures c.in_ok-p.is,
  counted_ok c.branch-z.ensures c.in_ok-z.is,
)

pub arms-returns : goal.arms-returns
arms-returns t c = search (
  arms_set,
  counted_ok c.branch-e.ensures c.in_ok-e.is,
  said_ok c.branch-p.ensures c.in_ok-p.is,
  counted_ok c.branch-z.ensures c.in_ok-z.is,
)

pub attr-byte-requires : goal.attr-byte-requires
attr-byte-requires t c = search attr_asked

pub attr-returns-then-d-eq0 : goal.attr-returns-then-d-eq0
attr-returns-then-d-eq0 t c = rw c.at.ensures (search attr_set)

pub attr-pass-requires : goal.attr-pass-requires
attr-pass-requires t c = search attr_asked

pub attr-returns-in_err-q : goal.attr-returns-in_err-q
attr-returns-in_err-q t c = rw (err_is _ c.from_residual.ensures.1)
    (search (attr_set, c.in_err-q.ensures, refused_is c.in_err-q.field-0.0))

pub attr-overflow_sub-d : goal.attr-overflow_sub-d
attr-overflow_sub-d t c = search (attr_asked, said_ok c.branch-q.ensures c.in_ok-q.is)

pub attr-spread-requires : goal.attr-spread-requires
attr-spread-requires t c = search (attr_asked, said_ok c.branch-q.ensures c.in_ok-q.is)

pub attr-shape_of-t-then-byte-eq-OPEN_BRACE : goal.attr-shape_of-t-then-byte-eq-OPEN_BRACE
attr-shape_of-t-then-byte-eq-OPEN_BRACE t c = search (attr_asked, said_ok c.branch-q.ensures c.in_ok-q.is)

pub attr-returns-then-byte-eq-OPEN_BRACE : goal.attr-returns-then-byte-eq-OPEN_BRACE
attr-returns-then-byte-eq-OPEN_BRACE t c = search (attr_set, said_ok c.branch-q.ensures c.in_ok-q.is)

pub attr-start-i-requires : goal.attr-start-i-requires
attr-start-i-requires t c = search attr_asked

pub attr-offset_bounds-t-i : goal.attr-offset_bounds-t-i
attr-offset_bounds-t-i t c = search attr_asked

pub attr-slice_bounds-in_attr-count : goal.attr-slice_bounds-in_attr-count
attr-slice_bounds-in_attr-count t c = search attr_asked

pub attr-slice_bounds-in_attr-start : goal.attr-slice_bounds-in_attr-start
attr-slice_bounds-in_attr-start t c = search attr_asked

pub attr-slice_bounds-in_attr-end : goal.attr-slice_bounds-in_attr-end
attr-slice_bounds-in_attr-end t c = search attr_asked

pub attr-inside-requires : goal.attr-inside-requires
attr-inside-requires t c = search attr_asked

pub attr-in_attr-requires : goal.attr-in_attr-requires
attr-in_attr-requires t c = search attr_asked

pub attr-shape_of-t-in_err-z : goal.attr-shape_of-t-in_err-z
attr-shape_of-t-in_err-z t c = search attr_asked

pub attr-returns-in_err-z : goal.attr-returns-in_err-z
attr-returns-in_err-z t c = rw (err_is _ c.from_residual-in_err-z.ensures.1)
    (search (attr_set, c.in_err-z.ensures, refused_is c.in_err-z.field-0.0))

pub attr-put_plain-requires : goal.attr-put_plain-requires
attr-put_plain-requires t c = search (
  attr_asked,
  counted_ok c.branch-z.ensures c.in_ok-z.is,
)

pub attr-overflow_add-result : goal.attr-overflow_add-result
attr-overflow_add-result t c = search (
  attr_asked,
  counted_ok c.branch-z.ensures c.in_ok-z.is,
)

pub attr-shape_of-t : goal.attr-shape_of-t
attr-shape_of-t t c = search (
  attr_asked,
  counted_ok c.branch-z.ensures c.in_ok-z.is,
)

pub attr-returns : goal.attr-returns
attr-returns t c = search (
  attr_set,
  counted_ok c.branch-z.ensures c.in_ok-z.is,
)

pub attrs-attribute_at-requires : goal.attrs-attribute_at-requires
attrs-attribute_at-requires t c = search loop_asked

pub attrs-shape_of-t-in_err-q : goal.attrs-shape_of-t-in_err-q
attrs-shape_of-t-in_err-q t c = search loop_asked

pub attrs-returns-in_err-q : goal.attrs-returns-in_err-q
attrs-returns-in_err-q t c = rw (err_is _ c.from_residual.ensures.1)
    (search (attrs_set, c.in_err-q.ensures, refused_is c.in_err-q.field-0.0))

pub attrs-shape_of-t-then-not-next : goal.attrs-shape_of-t-then-not-next
attrs-shape_of-t-then-not-next t c = search (loop_asked, told_ok c.branch-q.ensures c.in_ok-q.is)

pub attrs-returns-then-not-next : goal.attrs-returns-then-not-next
attrs-returns-then-not-next t c = search (attrs_set, told_ok c.branch-q.ensures c.in_ok-q.is)

pub attrs-overflow_mul-m : goal.attrs-overflow_mul-m
attrs-overflow_mul-m t c = search (loop_asked, told_ok c.branch-q.ensures c.in_ok-q.is)

pub attrs-start-i-requires : goal.attrs-start-i-requires
attrs-start-i-requires t c = search (loop_asked, told_ok c.branch-q.ensures c.in_ok-q.is)

pub attrs-offset_bounds-t-i : goal.attrs-offset_bounds-t-i
attrs-offset_bounds-t-i t c = search (loop_asked, told_ok c.branch-q.ensures c.in_ok-q.is)

pub attrs-slice_bounds-attr-count : goal.attrs-slice_bounds-attr-count
attrs-slice_bounds-attr-count t c = search (loop_asked, told_ok c.branch-q.ensures c.in_ok-q.is)

pub attrs-slice_bounds-attr-start : goal.attrs-slice_bounds-attr-start
attrs-slice_bounds-attr-start t c = search (loop_asked, told_ok c.branch-q.ensures c.in_ok-q.is)

pub attrs-slice_bounds-attr-end : goal.attrs-slice_bounds-attr-end
attrs-slice_bounds-attr-end t c = search (loop_asked, told_ok c.branch-q.ensures c.in_ok-q.is)

pub attrs-behind-requires : goal.attrs-behind-requires
attrs-behind-requires t c = search (loop_asked, told_ok c.branch-q.ensures c.in_ok-q.is)

pub attrs-attr-requires : goal.attrs-attr-requires
attrs-attr-requires t c = search (loop_asked, told_ok c.branch-q.ensures c.in_ok-q.is)

pub attrs-shape_of-t-in_err-z : goal.attrs-shape_of-t-in_err-z
attrs-shape_of-t-in_err-z t c = search (loop_asked, told_ok c.branch-q.ensures c.in_ok-q.is)

pub attrs-returns-in_err-z : goal.attrs-returns-in_err-z
attrs-returns-in_err-z t c = rw (err_is _ c.from_residual-in_err-z.ensures.1)
    (search (attrs_set, c.in_err-z.ensures, refused_is c.in_err-z.field-0.0, told_ok c.branch-q.ensures c.in_ok-q.is))

pub attrs-overflow_add-m : goal.attrs-overflow_add-m
attrs-overflow_add-m t c = search (
  loop_asked,
  told_ok c.branch-q.ensures c.in_ok-q.is,
  counted_ok c.branch-z.ensures c.in_ok-z.is,
)

pub attrs-loop-q-init : goal.attrs-loop-q-init
attrs-loop-q-init t c = search attrs_set

pub attrs-loop-q-smaller : goal.attrs-loop-q-smaller
attrs-loop-q-smaller t c = search (
  loop_asked,
  told_ok c.branch-q.ensures c.in_ok-q.is,
  counted_ok c.branch-z.ensures c.in_ok-z.is,
)

pub attrs-loop-q-preserved : goal.attrs-loop-q-preserved
attrs-loop-q-preserved t c = search (
  attrs_set,
  told_ok c.branch-q.ensures c.in_ok-q.is,
  counted_ok c.branch-z.ensures c.in_ok-z.is,
)

pub call-returns-then-d-eq0 : goal.call-returns-then-d-eq0
call-returns-then-d-eq0 t c = rw c.at.ensures (search call_set)

pub call-pass-requires : goal.call-pass-requires
call-pass-requires t c = search asked

pub call-returns-in_err-p : goal.call-returns-in_err-p
call-returns-in_err-p t c = rw (err_is _ c.from_residual.ensures.1)
    (search (call_set, c.in_err-p.ensures, refused_is c.in_err-p.field-0.0))

pub call-byte-requires : goal.call-byte-requires
call-byte-requires t c = search (asked, said_ok c.branch-p.ensures c.in_ok-p.is)

pub call-overflow_add-result : goal.call-overflow_add-result
call-overflow_add-result t c = search (asked, said_ok c.branch-p.ensures c.in_ok-p.is)

pub call-returns-then-byte-eq-CLOSE_PAREN : goal.call-returns-then-byte-eq-CLOSE_PAREN
call-returns-then-byte-eq-CLOSE_PAREN t c = search (call_set, said_ok c.branch-p.ensures c.in_ok-p.is)

pub call-overflow_sub-d : goal.call-overflow_sub-d
call-overflow_sub-d t c = search (asked, said_ok c.branch-p.ensures c.in_ok-p.is)

pub call-args-requires : goal.call-args-requires
call-args-requires t c = search (asked, said_ok c.branch-p.ensures c.in_ok-p.is)

pub call-shape_of-t : goal.call-shape_of-t
call-shape_of-t t c = search (asked, said_ok c.branch-p.ensures c.in_ok-p.is)

pub call-returns : goal.call-returns
call-returns t c = search (call_set, said_ok c.branch-p.ensures c.in_ok-p.is)

pub child-byte-b-requires : goal.child-byte-b-requires
child-byte-b-requires t c = search child_asked

pub child-in_text-requires : goal.child-in_text-requires
child-in_text-requires t c = search child_asked

pub child-text-requires : goal.child-text-requires
child-text-requires t c = search child_asked

pub child-shape_of-t-then-in_text : goal.child-shape_of-t-then-in_text
child-shape_of-t-then-in_text t c = search child_asked

pub child-returns-then-in_text : goal.child-returns-then-in_text
child-returns-then-in_text t c = search child_set

pub child-pass-requires : goal.child-pass-requires
child-pass-requires t c = search child_asked

pub child-returns-in_err-a : goal.child-returns-in_err-a
child-returns-in_err-a t c = rw (err_is _ c.from_residual.ensures.1)
    (search (child_set, c.in_err-a.ensures, refused_is c.in_err-a.field-0.0))

pub child-byte-requires : goal.child-byte-requires
child-byte-requires t c = search (child_asked, said_ok c.branch-a.ensures c.in_ok-a.is)

pub child-returns-then-byte-eq-SLASH : goal.child-returns-then-byte-eq-SLASH
child-returns-then-byte-eq-SLASH t c = search (child_set, said_ok c.branch-a.ensures c.in_ok-a.is)

pub child-elem-requires : goal.child-elem-requires
child-elem-requires t c = search (child_asked, said_ok c.branch-a.ensures c.in_ok-a.is)

pub child-shape_of-t-then-b-eq-LESS : goal.child-shape_of-t-then-b-eq-LESS
child-shape_of-t-then-b-eq-LESS t c = search (child_asked, said_ok c.branch-a.ensures c.in_ok-a.is)

pub child-returns-then-b-eq-LESS : goal.child-returns-then-b-eq-LESS
child-returns-then-b-eq-LESS t c = search (child_set, said_ok c.branch-a.ensures c.in_ok-a.is)

pub child-returns-then-d-eq0 : goal.child-returns-then-d-eq0
child-returns-then-d-eq0 t c = rw c.at.ensures (search child_set)

pub child-pass-requires-then-b-eq-OPEN_BRACE : goal.child-pass-requires-then-b-eq-OPEN_BRACE
child-pass-requires-then-b-eq-OPEN_BRACE t c = search brace_inside

pub child-returns-in_err-q : goal.child-returns-in_err-q
child-returns-in_err-q t c = rw (err_is _ c.from_residual-in_err-q.ensures.1)
    (search (child_set, c.in_err-q.ensures, refused_is c.in_err-q.field-0.0))

pub child-byte-c-requires : goal.child-byte-c-requires
child-byte-c-requires t c = search (
  child_asked,
  said_ok c.branch-q.ensures c.in_ok-q.is,
)

pub child-empty_braces-requires : goal.child-empty_braces-requires
child-empty_braces-requires t c = search (
  child_asked,
  said_ok c.branch-q.ensures c.in_ok-q.is,
)

pub child-shape_of-t-then-c-eq-CLOSE_BRACE : goal.child-shape_of-t-then-c-eq-CLOSE_BRACE
child-shape_of-t-then-c-eq-CLOSE_BRACE t c = search (
  child_asked,
  said_ok c.branch-q.ensures c.in_ok-q.is,
)

pub child-returns-then-c-eq-CLOSE_BRACE : goal.child-returns-then-c-eq-CLOSE_BRACE
child-returns-then-c-eq-CLOSE_BRACE t c = search (child_set, said_ok c.branch-q.ensures c.in_ok-q.is)

pub child-overflow_sub-d : goal.child-overflow_sub-d
child-overflow_sub-d t c = search (
  child_asked,
  said_ok c.branch-q.ensures c.in_ok-q.is,
)

pub child-spread-requires : goal.child-spread-requires
child-spread-requires t c = search (
  child_asked,
  said_ok c.branch-q.ensures c.in_ok-q.is,
)

pub child-shape_of-t-then-c-eq-DOT : goal.child-shape_of-t-then-c-eq-DOT
child-shape_of-t-then-c-eq-DOT t c = search (
  child_asked,
  said_ok c.branch-q.ensures c.in_ok-q.is,
)

pub child-returns-then-c-eq-DOT : goal.child-returns-then-c-eq-DOT
child-returns-then-c-eq-DOT t c = search (child_set, said_ok c.branch-q.ensures c.in_ok-q.is)

pub child-overflow_sub-d-then-b-eq-OPEN_BRACE : goal.child-overflow_sub-d-then-b-eq-OPEN_BRACE
child-overflow_sub-d-then-b-eq-OPEN_BRACE t c = search (
  child_asked,
  said_ok c.branch-q.ensures c.in_ok-q.is,
)

pub child-held-requires : goal.child-held-requires
child-held-requires t c = search (
  child_asked,
  said_ok c.branch-q.ensures c.in_ok-q.is,
)

pub child-shape_of-t-then-b-eq-OPEN_BRACE : goal.child-shape_of-t-then-b-eq-OPEN_BRACE
child-shape_of-t-then-b-eq-OPEN_BRACE t c = search (
  child_asked,
  said_ok c.branch-q.ensures c.in_ok-q.is,
)

pub child-returns-then-b-eq-OPEN_BRACE : goal.child-returns-then-b-eq-OPEN_BRACE
child-returns-then-b-eq-OPEN_BRACE t c = search (child_set, said_ok c.branch-q.ensures c.in_ok-q.is)

pub child-returns-then-b-eq-END : goal.child-returns-then-b-eq-END
child-returns-then-b-eq-END t c = search child_set

pub child-returns : goal.child-returns
child-returns t c = rw c.at-2.ensures (search child_set)

pub children-loop-z-init : goal.children-loop-z-init
children-loop-z-init t c = search children_set

pub children-overflow_mul-m : goal.children-overflow_mul-m
children-overflow_mul-m t c = search children_asked

pub children-offset_bounds-t-i : goal.children-offset_bounds-t-i
children-offset_bounds-t-i t c = search children_asked

pub children-slice_bounds-child-count : goal.children-slice_bounds-child-count
children-slice_bounds-child-count t c = search children_asked

pub children-shape_of-t-in_err-z : goal.children-shape_of-t-in_err-z
children-shape_of-t-in_err-z t c = search children_asked

pub children-returns-in_err-z : goal.children-returns-in_err-z
children-returns-in_err-z t c = rw (err_is _ c.from_residual.ensures.1)
    (search (children_set, c.in_err-z.ensures, refused_is c.in_err-z.field-0.0))

pub children-shape_of-t-then-z-p : goal.children-shape_of-t-then-z-p
children-shape_of-t-then-z-p t c = search (children_asked, counted_ok c.branch-z.ensures c.in_ok-z.is)

pub children-returns-then-z-p : goal.children-returns-then-z-p
children-returns-then-z-p t c = search (children_set, counted_ok c.branch-z.ensures c.in_ok-z.is)

pub children-overflow_add-m : goal.children-overflow_add-m
children-overflow_add-m t c = search (children_asked, counted_ok c.branch-z.ensures c.in_ok-z.is)

pub children-loop-z-smaller : goal.children-loop-z-smaller
children-loop-z-smaller t c = search (children_asked, counted_ok c.branch-z.ensures c.in_ok-z.is)

pub children-loop-z-preserved : goal.children-loop-z-preserved
children-loop-z-preserved t c = search (children_set, counted_ok c.branch-z.ensures c.in_ok-z.is)

pub children-start-i-requires : goal.children-start-i-requires
children-start-i-requires t c = search children_asked

pub children-slice_bounds-child-start : goal.children-slice_bounds-child-start
children-slice_bounds-child-start t c = search children_asked

pub children-slice_bounds-child-end : goal.children-slice_bounds-child-end
children-slice_bounds-child-end t c = search children_asked

pub children-behind-requires : goal.children-behind-requires
children-behind-requires t c = search children_asked

pub children-child-requires : goal.children-child-requires
children-child-requires t c = search children_asked

pub choice-two_at-requires : goal.choice-two_at-requires
choice-two_at-requires t c = search asked

pub choice-returns-then-two_at : goal.choice-returns-then-two_at
choice-returns-then-two_at t c = rw c.at.ensures (search choice_set)

pub choice-two_at-requires-2 : goal.choice-two_at-requires-2
choice-two_at-requires-2 t c = search asked

pub choice-returns-then-two_at-2 : goal.choice-returns-then-two_at-2
choice-returns-then-two_at-2 t c = rw c.at-then-two_at-2.ensures (search choice_set)

pub choice-returns-then-d-eq0 : goal.choice-returns-then-d-eq0
choice-returns-then-d-eq0 t c = rw c.at-then-d-eq0.ensures (search choice_set)

pub choice-pass-requires : goal.choice-pass-requires
choice-pass-requires t c = search asked

pub choice-returns-in_err-p : goal.choice-returns-in_err-p
choice-returns-in_err-p t c = rw (err_is _ c.from_residual.ensures.1)
    (search (choice_set, c.in_err-p.ensures, refused_is c.in_err-p.field-0.0))

pub choice-overflow_sub-d : goal.choice-overflow_sub-d
choice-overflow_sub-d t c = search (asked, said_ok c.branch-p.ensures c.in_ok-p.is)

pub choice-arms-requires : goal.choice-arms-requires
choice-arms-requires t c = search (asked, said_ok c.branch-p.ensures c.in_ok-p.is)

pub choice-shape_of-t : goal.choice-shape_of-t
choice-shape_of-t t c = search (asked, said_ok c.branch-p.ensures c.in_ok-p.is)

pub choice-returns : goal.choice-returns
choice-returns t c = search (choice_set, said_ok c.branch-p.ensures c.in_ok-p.is)

pub cond-either-requires : goal.cond-either-requires
cond-either-requires t c = search cond_asked

pub cond-shape_of-t-in_err-e : goal.cond-shape_of-t-in_err-e
cond-shape_of-t-in_err-e t c = search cond_asked

pub cond-returns-in_err-e : goal.cond-returns-in_err-e
cond-returns-in_err-e t c = rw (err_is _ c.from_residual.ensures.1)
    (search (cond_set, c.in_err-e.ensures, refused_is c.in_err-e.field-0.0))

pub cond-skip_blanks-requires : goal.cond-skip_blanks-requires
cond-skip_blanks-requires t c = search (cond_asked, counted_ok c.branch-e.ensures c.in_ok-e.is)

pub cond-shape_of-t-in_err-q : goal.cond-shape_of-t-in_err-q
cond-shape_of-t-in_err-q t c = search (cond_asked, counted_ok c.branch-e.ensures c.in_ok-e.is)

pub cond-returns-in_err-q : goal.cond-returns-in_err-q
cond-returns-in_err-q t c = rw (err_is _ c.from_residual-in_err-q.ensures.1)
    (search (cond_set, c.in_err-q.ensures, refused_is c.in_err-q.field-0.0, counted_ok c.branch-e.ensures c.in_ok-e.is))

pub cond-byte-requires : goal.cond-byte-requires
cond-byte-requires t c = search (
  cond_asked,
  counted_ok c.branch-e.ensures c.in_ok-e.is,
  said_ok c.branch-q.ensures c.in_ok-q.is,
)

pub cond-shape_of-t-then-byte-ne-QUESTION : goal.cond-shape_of-t-then-byte-ne-QUESTION
cond-shape_of-t-then-byte-ne-QUESTION t c = search (
  cond_asked,
  counted_ok c.branch-e.ensures c.in_ok-e.is,
  said_ok c.branch-q.ensures c.in_ok-q.is,
)

pub cond-returns-then-byte-ne-QUESTION : goal.cond-returns-then-byte-ne-QUESTION
cond-returns-then-byte-ne-QUESTION t c = search (
  cond_set,
  counted_ok c.branch-e.ensures c.in_ok-e.is,
  said_ok c.branch-q.ensures c.in_ok-q.is,
)

pub cond-overflow_mul-k : goal.cond-overflow_mul-k
cond-overflow_mul-k t c = search (
  cond_asked,
  counted_ok c.branch-e.ensures c.in_ok-e.is,
  said_ok c.branch-q.ensures c.in_ok-q.is,
)

pub cond-start-i-requires : goal.cond-start-i-requires
cond-start-i-requires t c = search (
  cond_asked,
  counted_ok c.branch-e.ensures c.in_ok-e.is,
  said_ok c.branch-q.ensures c.in_ok-q.is,
)

pub cond-offset_bounds-t-i : goal.cond-offset_bounds-t-i
cond-offset_bounds-t-i t c = search (
  cond_asked,
  counted_ok c.branch-e.ensures c.in_ok-e.is,
  said_ok c.branch-q.ensures c.in_ok-q.is,
)

pub cond-slice_bounds-choice-count : goal.cond-slice_bounds-choice-count
cond-slice_bounds-choice-count t c = search (
  cond_asked,
  counted_ok c.branch-e.ensures c.in_ok-e.is,
  said_ok c.branch-q.ensures c.in_ok-q.is,
)

pub cond-slice_bounds-choice-start : goal.cond-slice_bounds-choice-start
cond-slice_bounds-choice-start t c = search (
  cond_asked,
  counted_ok c.branch-e.ensures c.in_ok-e.is,
  said_ok c.branch-q.ensures c.in_ok-q.is,
)

pub cond-slice_bounds-choice-end : goal.cond-slice_bounds-choice-end
cond-slice_bounds-choice-end t c = search (
  cond_asked,
  counted_ok c.branch-e.ensures c.in_ok-e.is,
  said_ok c.branch-q.ensures c.in_ok-q.is,
)

pub cond-behind-requires : goal.cond-behind-requires
cond-behind-requires t c = search (
  cond_asked,
  counted_ok c.branch-e.ensures c.in_ok-e.is,
  said_ok c.branch-q.ensures c.in_ok-q.is,
)

pub cond-choice-requires : goal.cond-choice-requires
cond-choice-requires t c = (
  search (cond_asked, counted_ok c.branch-e.ensures c.in_ok-e.is, said_ok c.branch-q.ensures c.in_ok-q.is),
  (
    made_leaf_room c.requires c.either.ensures (counted_ok c.branch-e.ensures c.in_ok-e.is) c.skip_blanks.ensures (said_ok c.branch-q.ensures c.in_ok-q.is) (omega arith) refl refl
        c.behind.ensures,
    search (question_inside, said_ok c.branch-q.ensures c.in_ok-q.is),
  ),
)

pub cond-shape_of-t-in_err-z : goal.cond-shape_of-t-in_err-z
cond-shape_of-t-in_err-z t c = search (
  cond_asked,
  counted_ok c.branch-e.ensures c.in_ok-e.is,
  said_ok c.branch-q.ensures c.in_ok-q.is,
)

pub cond-returns-in_err-z : goal.cond-returns-in_err-z
cond-returns-in_err-z t c = rw (err_is _ c.from_residual-in_err-z.ensures.1)
    (search (
      cond_set,
      c.in_err-z.ensures,
      refused_is c.in_err-z.field-0.0,
      counted_ok c.branch-e.ensures c.in_ok-e.is,
      said_ok c.branch-q.ensures c.in_ok-q.is,
    ))

pub cond-overflow_add-result : goal.cond-overflow_add-result
cond-overflow_add-result t c = search (
  cond_asked,
  counted_ok c.branch-e.ensures c.in_ok-e.is,
  said_ok c.branch-q.ensures c.in_ok-q.is,
  counted_ok c.branch-z.ensures c.in_ok-z.is,
)

pub cond-shape_of-t : goal.cond-shape_of-t
cond-shape_of-t t c = search (
  cond_asked,
  counted_ok c.branch-e.ensures c.in_ok-e.is,
  said_ok c.branch-q.ensures c.in_ok-q.is,
  counted_ok c.branch-z.ensures c.in_ok-z.is,
)

pub cond-returns : goal.cond-returns
cond-returns t c = search (
  cond_set,
  counted_ok c.branch-e.ensures c.in_ok-e.is,
  said_ok c.branch-q.ensures c.in_ok-q.is,
  counted_ok c.branch-z.ensures c.in_ok-z.is,
)

pub content-overflow_add-v : goal.content-overflow_add-v
content-overflow_add-v t c = search content_asked

pub content-overflow_mul-v : goal.content-overflow_mul-v
content-overflow_mul-v t c = search content_asked

pub content-start-i-requires : goal.content-start-i-requires
content-start-i-requires t c = search content_asked

pub content-offset_bounds-t-i : goal.content-offset_bounds-t-i
content-offset_bounds-t-i t c = search content_asked

pub content-slice_bounds-children-count : goal.content-slice_bounds-children-count
content-slice_bounds-children-count t c = search content_asked

pub content-slice_bounds-children-start : goal.content-slice_bounds-children-start
content-slice_bounds-children-start t c = search content_asked

pub content-slice_bounds-children-end : goal.content-slice_bounds-children-end
content-slice_bounds-children-end t c = search content_asked

pub content-inside-requires : goal.content-inside-requires
content-inside-requires t c = search content_asked

pub content-behind-requires : goal.content-behind-requires
content-behind-requires t c = search content_asked

pub content-children-requires : goal.content-children-requires
content-children-requires t c = search content_asked

pub content-shape_of-t-in_err-c : goal.content-shape_of-t-in_err-c
content-shape_of-t-in_err-c t c = search content_asked

pub content-returns-in_err-c : goal.content-returns-in_err-c
content-returns-in_err-c t c = rw (err_is _ c.from_residual.ensures.1)
    (search (content_set, c.in_err-c.ensures, refused_is c.in_err-c.field-0.0))

pub content-overflow_add-v-2 : goal.content-overflow_add-v-2
content-overflow_add-v-2 t c = search (content_asked, counted_ok c.branch-c.ensures c.in_ok-c.is)

pub content-shut-requires : goal.content-shut-requires
content-shut-requires t c = search (content_asked, counted_ok c.branch-c.ensures c.in_ok-c.is)

pub content-shape_of-t : goal.content-shape_of-t
content-shape_of-t t c = search (content_asked, counted_ok c.branch-c.ensures c.in_ok-c.is)

pub content-returns : goal.content-returns
content-returns t c = search (content_set, counted_ok c.branch-c.ensures c.in_ok-c.is)

pub either-unary-requires : goal.either-unary-requires
either-unary-requires t c = search asked

pub either-shape_of-t-in_err-e : goal.either-shape_of-t-in_err-e
either-shape_of-t-in_err-e t c = search asked

pub either-returns-in_err-e : goal.either-returns-in_err-e
either-returns-in_err-e t c = rw (err_is _ c.from_residual.ensures.1)
    (search (either_set, c.in_err-e.ensures, refused_is c.in_err-e.field-0.0))

pub either-overflow_mul-k : goal.either-overflow_mul-k
either-overflow_mul-k t c = search (asked, counted_ok c.branch-e.ensures c.in_ok-e.is)

pub either-start-i-requires : goal.either-start-i-requires
either-start-i-requires t c = search (asked, counted_ok c.branch-e.ensures c.in_ok-e.is)

pub either-offset_bounds-t-i : goal.either-offset_bounds-t-i
either-offset_bounds-t-i t c = search (asked, counted_ok c.branch-e.ensures c.in_ok-e.is)

pub either-slice_bounds-joins-count : goal.either-slice_bounds-joins-count
either-slice_bounds-joins-count t c = search (asked, counted_ok c.branch-e.ensures c.in_ok-e.is)

pub either-slice_bounds-joins-start : goal.either-slice_bounds-joins-start
either-slice_bounds-joins-start t c = search (asked, counted_ok c.branch-e.ensures c.in_ok-e.is)

pub either-slice_bounds-joins-end : goal.either-slice_bounds-joins-end
either-slice_bounds-joins-end t c = search (asked, counted_ok c.branch-e.ensures c.in_ok-e.is)

pub either-behind-requires : goal.either-behind-requires
either-behind-requires t c = search (asked, counted_ok c.branch-e.ensures c.in_ok-e.is)

pub either-joins-requires : goal.either-joins-requires
either-joins-requires t c = search (asked, counted_ok c.branch-e.ensures c.in_ok-e.is)

pub either-shape_of-t-in_err-z : goal.either-shape_of-t-in_err-z
either-shape_of-t-in_err-z t c = search (asked, counted_ok c.branch-e.ensures c.in_ok-e.is)

pub either-returns-in_err-z : goal.either-returns-in_err-z
either-returns-in_err-z t c = rw (err_is _ c.from_residual-in_err-z.ensures.1)
    (two_refuses_inside (search either_splits) c.requires c.unary.ensures (counted_ok c.branch-e.ensures c.in_ok-e.is) c.start-i.ensures c.behind.ensures
    c.in_err-z.ensures (refused_is _))

pub either-overflow_add-result : goal.either-overflow_add-result
either-overflow_add-result t c = search (
  asked,
  counted_ok c.branch-e.ensures c.in_ok-e.is,
  counted_ok c.branch-z.ensures c.in_ok-z.is,
)

pub either-shape_of-t : goal.either-shape_of-t
either-shape_of-t t c = search (
  asked,
  counted_ok c.branch-e.ensures c.in_ok-e.is,
  counted_ok c.branch-z.ensures c.in_ok-z.is,
)

pub either-returns : goal.either-returns
either-returns t c = search (
  either_set,
  counted_ok c.branch-e.ensures c.in_ok-e.is,
  counted_ok c.branch-z.ensures c.in_ok-z.is,
)

pub elem-too_deep-requires : goal.elem-too_deep-requires
elem-too_deep-requires t c = search element_asked

pub elem-returns-then-d-eq0 : goal.elem-returns-then-d-eq0
elem-returns-then-d-eq0 t c = search element_set

pub elem-byte-requires : goal.elem-byte-requires
elem-byte-requires t c = search element_asked

pub elem-overflow_sub-d : goal.elem-overflow_sub-d
elem-overflow_sub-d t c = search element_asked

pub elem-frag-requires : goal.elem-frag-requires
elem-frag-requires t c = search element_asked

pub elem-shape_of-t-then-byte-eq-GREATER : goal.elem-shape_of-t-then-byte-eq-GREATER
elem-shape_of-t-then-byte-eq-GREATER t c = search element_asked

pub elem-returns-then-byte-eq-GREATER : goal.elem-returns-then-byte-eq-GREATER
elem-returns-then-byte-eq-GREATER t c = search element_set

pub elem-overflow_sub-d-2 : goal.elem-overflow_sub-d-2
elem-overflow_sub-d-2 t c = search element_asked

pub elem-named-requires : goal.elem-named-requires
elem-named-requires t c = search element_asked

pub elem-shape_of-t : goal.elem-shape_of-t
elem-shape_of-t t c = search element_asked

pub elem-returns : goal.elem-returns
elem-returns t c = search element_set

pub expr-start-i-requires : goal.expr-start-i-requires
expr-start-i-requires t c = search node_asked

pub expr-offset_bounds-t-i : goal.expr-offset_bounds-t-i
expr-offset_bounds-t-i t c = search node_asked

pub expr-slice_bounds-cond-count : goal.expr-slice_bounds-cond-count
expr-slice_bounds-cond-count t c = search node_asked

pub expr-slice_bounds-cond-start : goal.expr-slice_bounds-cond-start
expr-slice_bounds-cond-start t c = search node_asked

pub expr-slice_bounds-cond-end : goal.expr-slice_bounds-cond-end
expr-slice_bounds-cond-end t c = search node_asked

pub expr-inside-requires : goal.expr-inside-requires
expr-inside-requires t c = search node_asked

pub expr-cond-requires : goal.expr-cond-requires
expr-cond-requires t c = search node_asked

pub expr-shape_of-t-in_err-e : goal.expr-shape_of-t-in_err-e
expr-shape_of-t-in_err-e t c = search node_asked

pub expr-returns-in_err-e : goal.expr-returns-in_err-e
expr-returns-in_err-e t c = rw (err_is _ c.from_residual.ensures.1)
    (search (expr_set, c.in_err-e.ensures, refused_is c.in_err-e.field-0.0))

pub expr-put_plain-requires : goal.expr-put_plain-requires
expr-put_plain-requires t c = search (node_asked, counted_ok c.branch-e.ensures c.in_ok-e.is)

pub expr-overflow_add-result : goal.expr-overflow_add-result
expr-overflow_add-result t c = search (node_asked, counted_ok c.branch-e.ensures c.in_ok-e.is)

pub expr-shape_of-t : goal.expr-shape_of-t
expr-shape_of-t t c = search (node_asked, counted_ok c.branch-e.ensures c.in_ok-e.is)

pub expr-returns : goal.expr-returns
expr-returns t c = search (expr_set, counted_ok c.branch-e.ensures c.in_ok-e.is)

pub frag-overflow_add-a : goal.frag-overflow_add-a
frag-overflow_add-a t c = search fragment_asked

pub frag-put_opening-requires : goal.frag-put_opening-requires
frag-put_opening-requires t c = search fragment_asked

pub frag-overflow_mul-start : goal.frag-overflow_mul-start
frag-overflow_mul-start t c = search fragment_asked

pub frag-start-i-requires : goal.frag-start-i-requires
frag-start-i-requires t c = search fragment_asked

pub frag-offset_bounds-t-i : goal.frag-offset_bounds-t-i
frag-offset_bounds-t-i t c = search fragment_asked

pub frag-slice_bounds-children-count : goal.frag-slice_bounds-children-count
frag-slice_bounds-children-count t c = search fragment_asked

pub frag-slice_bounds-children-start : goal.frag-slice_bounds-children-start
frag-slice_bounds-children-start t c = search fragment_asked

pub frag-slice_bounds-children-end : goal.frag-slice_bounds-children-end
frag-slice_bounds-children-end t c = search fragment_asked

pub frag-overflow_add-a-2 : goal.frag-overflow_add-a-2
frag-overflow_add-a-2 t c = search fragment_asked

pub frag-inside-requires : goal.frag-inside-requires
frag-inside-requires t c = search fragment_asked

pub frag-behind-requires : goal.frag-behind-requires
frag-behind-requires t c = search fragment_asked

pub frag-children-requires : goal.frag-children-requires
frag-children-requires t c = search fragment_asked

pub frag-shape_of-t-in_err-c : goal.frag-shape_of-t-in_err-c
frag-shape_of-t-in_err-c t c = search fragment_asked

pub frag-returns-in_err-c : goal.frag-returns-in_err-c
frag-returns-in_err-c t c = rw (err_is _ c.from_residual.ensures.1)
    (search (fragment_set, c.in_err-c.ensures, refused_is c.in_err-c.field-0.0))

pub frag-overflow_add-a-3 : goal.frag-overflow_add-a-3
frag-overflow_add-a-3 t c = search (fragment_asked, counted_ok c.branch-c.ensures c.in_ok-c.is)

pub frag-overflow_add-k : goal.frag-overflow_add-k
frag-overflow_add-k t c = search (fragment_asked, counted_ok c.branch-c.ensures c.in_ok-c.is)

pub frag-shut_fragment-requires : goal.frag-shut_fragment-requires
frag-shut_fragment-requires t c = (
  search (fragment_wide, counted_ok c.branch-c.ensures c.in_ok-c.is),
  search (fragment_behind, counted_ok c.branch-c.ensures c.in_ok-c.is),
  search (fragment_shut, counted_ok c.branch-c.ensures c.in_ok-c.is),
  search (fragment_asked, counted_ok c.branch-c.ensures c.in_ok-c.is),
)

pub frag-shape_of-t : goal.frag-shape_of-t
frag-shape_of-t t c = search (fragment_asked, counted_ok c.branch-c.ensures c.in_ok-c.is)

pub frag-returns : goal.frag-returns
frag-returns t c = search (fragment_set, counted_ok c.branch-c.ensures c.in_ok-c.is)

pub group-returns-then-d-eq0 : goal.group-returns-then-d-eq0
group-returns-then-d-eq0 t c = rw c.at.ensures (search group_set)

pub group-pass-requires : goal.group-pass-requires
group-pass-requires t c = search asked

pub group-returns-in_err-p : goal.group-returns-in_err-p
group-returns-in_err-p t c = rw (err_is _ c.from_residual.ensures.1)
    (search (group_set, c.in_err-p.ensures, refused_is c.in_err-p.field-0.0))

pub group-overflow_sub-d : goal.group-overflow_sub-d
group-overflow_sub-d t c = search (asked, said_ok c.branch-p.ensures c.in_ok-p.is)

pub group-cond-requires : goal.group-cond-requires
group-cond-requires t c = search (asked, said_ok c.branch-p.ensures c.in_ok-p.is)

pub group-shape_of-t-in_err-e : goal.group-shape_of-t-in_err-e
group-shape_of-t-in_err-e t c = search (asked, said_ok c.branch-p.ensures c.in_ok-p.is)

pub group-returns-in_err-e : goal.group-returns-in_err-e
group-returns-in_err-e t c = rw (err_is _ c.from_residual-in_err-e.ensures.1)
    (search (group_set, c.in_err-e.ensures, refused_is c.in_err-e.field-0.0, said_ok c.branch-p.ensures c.in_ok-p.is))

pub group-close_by-requires : goal.group-close_by-requires
group-close_by-requires t c = search (
  asked,
  said_ok c.branch-p.ensures c.in_ok-p.is,
  counted_ok c.branch-e.ensures c.in_ok-e.is,
)

pub group-shape_of-t-in_err-z : goal.group-shape_of-t-in_err-z
group-shape_of-t-in_err-z t c = search (
  asked,
  said_ok c.branch-p.ensures c.in_ok-p.is,
  counted_ok c.branch-e.ensures c.in_ok-e.is,
)

pub group-returns-in_err-z : goal.group-returns-in_err-z
group-returns-in_err-z t c = rw (err_is _ c.from_residual-in_err-z.ensures.1)
    (search (
      group_set,
      c.in_err-z.ensures,
      refused_is c.in_err-z.field-0.0,
      said_ok c.branch-p.ensures c.in_ok-p.is,
      counted_ok c.branch-e.ensures c.in_ok-e.is,
    ))

pub group-shape_of-t : goal.group-shape_of-t
group-shape_of-t t c = search (
  asked,
  said_ok c.branch-p.ensures c.in_ok-p.is,
  counted_ok c.branch-e.ensures c.in_ok-e.is,
  said_ok c.branch-z.ensures c.in_ok-z.is,
)

pub group-returns : goal.group-returns
group-returns t c = search (
  group_set,
  said_ok c.branch-p.ensures c.in_ok-p.is,
  counted_ok c.branch-e.ensures c.in_ok-e.is,
  said_ok c.branch-z.ensures c.in_ok-z.is,
)

pub held-start-i-requires : goal.held-start-i-requires
held-start-i-requires t c = search node_asked

pub held-offset_bounds-t-i : goal.held-offset_bounds-t-i
held-offset_bounds-t-i t c = search node_asked

pub held-slice_bounds-in_held-count : goal.held-slice_bounds-in_held-count
held-slice_bounds-in_held-count t c = search node_asked

pub held-slice_bounds-in_held-start : goal.held-slice_bounds-in_held-start
held-slice_bounds-in_held-start t c = search node_asked

pub held-slice_bounds-in_held-end : goal.held-slice_bounds-in_held-end
held-slice_bounds-in_held-end t c = search node_asked

pub held-inside-requires : goal.held-inside-requires
held-inside-requires t c = search node_asked

pub held-in_held-requires : goal.held-in_held-requires
held-in_held-requires t c = search node_asked

pub held-shape_of-t-in_err-z : goal.held-shape_of-t-in_err-z
held-shape_of-t-in_err-z t c = search node_asked

pub held-returns-in_err-z : goal.held-returns-in_err-z
held-returns-in_err-z t c = rw (err_is _ c.from_residual.ensures.1)
    (search (held_set, c.in_err-z.ensures, refused_is c.in_err-z.field-0.0))

pub held-put_plain-requires : goal.held-put_plain-requires
held-put_plain-requires t c = search (node_asked, counted_ok c.branch-z.ensures c.in_ok-z.is)

pub held-overflow_add-result : goal.held-overflow_add-result
held-overflow_add-result t c = search (node_asked, counted_ok c.branch-z.ensures c.in_ok-z.is)

pub held-shape_of-t : goal.held-shape_of-t
held-shape_of-t t c = search (node_asked, counted_ok c.branch-z.ensures c.in_ok-z.is)

pub held-returns : goal.held-returns
held-returns t c = search (held_set, counted_ok c.branch-z.ensures c.in_ok-z.is)

pub in_attr-parse_jsx_attribute_name-requires : goal.in_attr-parse_jsx_attribute_name-requires
in_attr-parse_jsx_attribute_name-requires t c = search asked

pub in_attr-shape_of-t-in_err-e : goal.in_attr-shape_of-t-in_err-e
in_attr-shape_of-t-in_err-e t c = search asked

pub in_attr-returns-in_err-e : goal.in_attr-returns-in_err-e
in_attr-returns-in_err-e t c = rw (err_is _ c.from_residual.ensures.1)
    (search (in_attr_set, c.in_err-e.ensures, refused_is c.in_err-e.field-0.0))

pub in_attr-assign-requires : goal.in_attr-assign-requires
in_attr-assign-requires t c = search (asked, counted_ok c.branch-e.ensures c.in_ok-e.is)

pub in_attr-shape_of-t-in_err-p : goal.in_attr-shape_of-t-in_err-p
in_attr-shape_of-t-in_err-p t c = search (asked, counted_ok c.branch-e.ensures c.in_ok-e.is)

pub in_attr-returns-in_err-p : goal.in_attr-returns-in_err-p
in_attr-returns-in_err-p t c = rw (err_is _ c.from_residual-in_err-p.ensures.1)
    (search (
      in_attr_set,
      c.in_err-p.ensures,
      refused_is c.in_err-p.field-0.0,
      counted_ok c.branch-e.ensures c.in_ok-e.is,
    ))

pub in_attr-shape_of-t-in_default : goal.in_attr-shape_of-t-in_default
in_attr-shape_of-t-in_default t c = search (
  asked,
  counted_ok c.branch-e.ensures c.in_ok-e.is,
  offered_none c.in_ok-e.e c.branch-p.ensures c.in_ok-p.is c.in_default.is,
)

pub in_attr-returns-in_default : goal.in_attr-returns-in_default
in_attr-returns-in_default t c = search (
  in_attr_set,
  counted_ok c.branch-e.ensures c.in_ok-e.is,
  offered_none c.in_ok-e.e c.branch-p.ensures c.in_ok-p.is c.in_default.is,
)

pub in_attr-overflow_mul-k : goal.in_attr-overflow_mul-k
in_attr-overflow_mul-k t c = search (
  asked,
  counted_ok c.branch-e.ensures c.in_ok-e.is,
  offered_some c.in_ok-e.e c.branch-p.ensures c.in_ok-p.is c.in-Some.is,
)

pub in_attr-start-i-requires : goal.in_attr-start-i-requires
in_attr-start-i-requires t c = search (
  asked,
  counted_ok c.branch-e.ensures c.in_ok-e.is,
  offered_some c.in_ok-e.e c.branch-p.ensures c.in_ok-p.is c.in-Some.is,
)

pub in_attr-offset_bounds-t-i : goal.in_attr-offset_bounds-t-i
in_attr-offset_bounds-t-i t c = search (
  asked,
  counted_ok c.branch-e.ensures c.in_ok-e.is,
  offered_some c.in_ok-e.e c.branch-p.ensures c.in_ok-p.is c.in-Some.is,
)

pub in_attr-slice_bounds-value-count : goal.in_attr-slice_bounds-value-count
in_attr-slice_bounds-value-count t c = search (
  asked,
  counted_ok c.branch-e.ensures c.in_ok-e.is,
  offered_some c.in_ok-e.e c.branch-p.ensures c.in_ok-p.is c.in-Some.is,
)

pub in_attr-slice_bounds-value-start : goal.in_attr-slice_bounds-value-start
in_attr-slice_bounds-value-start t c = search (
  asked,
  counted_ok c.branch-e.ensures c.in_ok-e.is,
  offered_some c.in_ok-e.e c.branch-p.ensures c.in_ok-p.is c.in-Some.is,
)

pub in_attr-slice_bounds-value-end : goal.in_attr-slice_bounds-value-end
in_attr-slice_bounds-value-end t c = search (
  asked,
  counted_ok c.branch-e.ensures c.in_ok-e.is,
  offered_some c.in_ok-e.e c.branch-p.ensures c.in_ok-p.is c.in-Some.is,
)

pub in_attr-behind-requires : goal.in_attr-behind-requires
in_attr-behind-requires t c = search (
  asked,
  counted_ok c.branch-e.ensures c.in_ok-e.is,
  offered_some c.in_ok-e.e c.branch-p.ensures c.in_ok-p.is c.in-Some.is,
)

pub in_attr-value-requires : goal.in_attr-value-requires
in_attr-value-requires t c = search (
  asked,
  counted_ok c.branch-e.ensures c.in_ok-e.is,
  offered_some c.in_ok-e.e c.branch-p.ensures c.in_ok-p.is c.in-Some.is,
)

pub in_attr-shape_of-t-in_err-z : goal.in_attr-shape_of-t-in_err-z
in_attr-shape_of-t-in_err-z t c = search (
  asked,
  counted_ok c.branch-e.ensures c.in_ok-e.is,
  offered_some c.in_ok-e.e c.branch-p.ensures c.in_ok-p.is c.in-Some.is,
)

pub in_attr-returns-in_err-z : goal.in_attr-returns-in_err-z
in_attr-returns-in_err-z t c = rw (err_is _ c.from_residual-in_err-z.ensures.1)
    (search (
      in_attr_set,
      c.in_err-z.ensures,
      refused_is c.in_err-z.field-0.0,
      counted_ok c.branch-e.ensures c.in_ok-e.is,
      offered_some c.in_ok-e.e c.branch-p.ensures c.in_ok-p.is c.in-Some.is,
    ))

pub in_attr-overflow_add-result : goal.in_attr-overflow_add-result
in_attr-overflow_add-result t c = search (
  asked,
  counted_ok c.branch-e.ensures c.in_ok-e.is,
  offered_some c.in_ok-e.e c.branch-p.ensures c.in_ok-p.is c.in-Some.is,
  counted_ok c.branch-z.ensures c.in_ok-z.is,
)

pub in_attr-shape_of-t : goal.in_attr-shape_of-t
in_attr-shape_of-t t c = search (
  asked,
  counted_ok c.branch-e.ensures c.in_ok-e.is,
  offered_some c.in_ok-e.e c.branch-p.ensures c.in_ok-p.is c.in-Some.is,
  counted_ok c.branch-z.ensures c.in_ok-z.is,
)

pub in_attr-returns : goal.in_attr-returns
in_attr-returns t c = search (
  in_attr_set,
  counted_ok c.branch-e.ensures c.in_ok-e.is,
  offered_some c.in_ok-e.e c.branch-p.ensures c.in_ok-p.is c.in-Some.is,
  counted_ok c.branch-z.ensures c.in_ok-z.is,
)

pub in_held-expr-requires : goal.in_held-expr-requires
in_held-expr-requires t c = search asked

pub in_held-shape_of-t-in_err-e : goal.in_held-shape_of-t-in_err-e
in_held-shape_of-t-in_err-e t c = search asked

pub in_held-returns-in_err-e : goal.in_held-returns-in_err-e
in_held-returns-in_err-e t c = rw (err_is _ c.from_residual.ensures.1)
    (search (in_held_set, c.in_err-e.ensures, refused_is c.in_err-e.field-0.0))

pub in_held-shut_braces-requires : goal.in_held-shut_braces-requires
in_held-shut_braces-requires t c = search (asked, counted_ok c.branch-e.ensures c.in_ok-e.is)

pub in_held-shape_of-t-in_err-z : goal.in_held-shape_of-t-in_err-z
in_held-shape_of-t-in_err-z t c = search (asked, counted_ok c.branch-e.ensures c.in_ok-e.is)

pub in_held-returns-in_err-z : goal.in_held-returns-in_err-z
in_held-returns-in_err-z t c = rw (err_is _ c.from_residual-in_err-z.ensures.1)
    (search (
      in_held_set,
      c.in_err-z.ensures,
      refused_is c.in_err-z.field-0.0,
      counted_ok c.branch-e.ensures c.in_ok-e.is,
    ))

pub in_held-shape_of-t : goal.in_held-shape_of-t
in_held-shape_of-t t c = search (
  asked,
  counted_ok c.branch-e.ensures c.in_ok-e.is,
  said_ok c.branch-z.ensures c.in_ok-z.is,
)

pub in_held-returns : goal.in_held-returns
in_held-returns t c = search (
  in_held_set,
  counted_ok c.branch-e.ensures c.in_ok-e.is,
  said_ok c.branch-z.ensures c.in_ok-z.is,
)

pub in_rest-dots-requires : goal.in_rest-dots-requires
in_rest-dots-requires t c = search asked

pub in_rest-returns-in_err-p : goal.in_rest-returns-in_err-p
in_rest-returns-in_err-p t c = rw (err_is _ c.from_residual.ensures.1)
    (search (in_spread_set, c.in_err-p.ensures, refused_is c.in_err-p.field-0.0))

pub in_rest-expr-requires : goal.in_rest-expr-requires
in_rest-expr-requires t c = search (asked, said_ok c.branch-p.ensures c.in_ok-p.is)

pub in_rest-shape_of-t-in_err-e : goal.in_rest-shape_of-t-in_err-e
in_rest-shape_of-t-in_err-e t c = search (asked, said_ok c.branch-p.ensures c.in_ok-p.is)

pub in_rest-returns-in_err-e : goal.in_rest-returns-in_err-e
in_rest-returns-in_err-e t c = rw (err_is _ c.from_residual-in_err-e.ensures.1)
    (search (
      in_spread_set,
      c.in_err-e.ensures,
      refused_is c.in_err-e.field-0.0,
      said_ok c.branch-p.ensures c.in_ok-p.is,
    ))

pub in_rest-close_by-requires : goal.in_rest-close_by-requires
in_rest-close_by-requires t c = search (
  asked,
  said_ok c.branch-p.ensures c.in_ok-p.is,
  counted_ok c.branch-e.ensures c.in_ok-e.is,
)

pub in_rest-shape_of-t-in_err-z : goal.in_rest-shape_of-t-in_err-z
in_rest-shape_of-t-in_err-z t c = search (
  asked,
  said_ok c.branch-p.ensures c.in_ok-p.is,
  counted_ok c.branch-e.ensures c.in_ok-e.is,
)

pub in_rest-returns-in_err-z : goal.in_rest-returns-in_err-z
in_rest-returns-in_err-z t c = rw (err_is _ c.from_residual-in_err-z.ensures.1)
    (search (
      in_spread_set,
      c.in_err-z.ensures,
      refused_is c.in_err-z.field-0.0,
      said_ok c.branch-p.ensures c.in_ok-p.is,
      counted_ok c.branch-e.ensures c.in_ok-e.is,
    ))

pub in_rest-shape_of-t : goal.in_rest-shape_of-t
in_rest-shape_of-t t c = search (
  asked,
  said_ok c.branch-p.ensures c.in_ok-p.is,
  counted_ok c.branch-e.ensures c.in_ok-e.is,
  said_ok c.branch-z.ensures c.in_ok-z.is,
)

pub in_rest-returns : goal.in_rest-returns
in_rest-returns t c = search (
  in_spread_set,
  said_ok c.branch-p.ensures c.in_ok-p.is,
  counted_ok c.branch-e.ensures c.in_ok-e.is,
  said_ok c.branch-z.ensures c.in_ok-z.is,
)

pub in_tag-parse_jsx_element_name-requires : goal.in_tag-parse_jsx_element_name-requires
in_tag-parse_jsx_element_name-requires t c = search in_tag_asked

pub in_tag-shape_of-t-in_err-e : goal.in_tag-shape_of-t-in_err-e
in_tag-shape_of-t-in_err-e t c = search in_tag_asked

pub in_tag-returns-in_err-e : goal.in_tag-returns-in_err-e
in_tag-returns-in_err-e t c = rw (err_is _ c.from_residual.ensures.1)
    (search (
      in_tag_set,
      c.in_err-e.ensures,
      refused_is c.in_err-e.field-0.0,
      plain_refused c.in_err-e.field-0.0,
    ))

pub in_tag-overflow_mul-k : goal.in_tag-overflow_mul-k
in_tag-overflow_mul-k t c = search (in_tag_asked, counted_ok c.branch-e.ensures c.in_ok-e.is)

pub in_tag-start-i-requires : goal.in_tag-start-i-requires
in_tag-start-i-requires t c = search (in_tag_asked, counted_ok c.branch-e.ensures c.in_ok-e.is)

pub in_tag-offset_bounds-t-i : goal.in_tag-offset_bounds-t-i
in_tag-offset_bounds-t-i t c = search (in_tag_asked, counted_ok c.branch-e.ensures c.in_ok-e.is)

pub in_tag-slice_bounds-attrs-count : goal.in_tag-slice_bounds-attrs-count
in_tag-slice_bounds-attrs-count t c = search (in_tag_asked, counted_ok c.branch-e.ensures c.in_ok-e.is)

pub in_tag-slice_bounds-attrs-start : goal.in_tag-slice_bounds-attrs-start
in_tag-slice_bounds-attrs-start t c = search (in_tag_asked, counted_ok c.branch-e.ensures c.in_ok-e.is)

pub in_tag-slice_bounds-attrs-end : goal.in_tag-slice_bounds-attrs-end
in_tag-slice_bounds-attrs-end t c = search (in_tag_asked, counted_ok c.branch-e.ensures c.in_ok-e.is)

pub in_tag-behind-requires : goal.in_tag-behind-requires
in_tag-behind-requires t c = search (in_tag_asked, counted_ok c.branch-e.ensures c.in_ok-e.is)

pub in_tag-attrs-requires : goal.in_tag-attrs-requires
in_tag-attrs-requires t c = search (in_tag_asked, counted_ok c.branch-e.ensures c.in_ok-e.is)

pub in_tag-shape_of-t-in_err-p : goal.in_tag-shape_of-t-in_err-p
in_tag-shape_of-t-in_err-p t c = search (in_tag_asked, counted_ok c.branch-e.ensures c.in_ok-e.is)

pub in_tag-returns-in_err-p : goal.in_tag-returns-in_err-p
in_tag-returns-in_err-p t c = rw (err_is _ c.from_residual-in_err-p.ensures.1)
    (search (
      in_tag_set,
      c.in_err-p.ensures,
      refused_is c.in_err-p.field-0.0,
      plain_refused c.in_err-p.field-0.0,
      counted_ok c.branch-e.ensures c.in_ok-e.is,
    ))

pub in_tag-tag_end-requires : goal.in_tag-tag_end-requires
in_tag-tag_end-requires t c = search (
  made_inside,
  counted_ok c.branch-e.ensures c.in_ok-e.is,
  counted_ok c.branch-p.ensures c.in_ok-p.is,
)

pub in_tag-shape_of-t-in_err-z : goal.in_tag-shape_of-t-in_err-z
in_tag-shape_of-t-in_err-z t c = search (
  in_tag_asked,
  counted_ok c.branch-e.ensures c.in_ok-e.is,
  counted_ok c.branch-p.ensures c.in_ok-p.is,
)

pub in_tag-returns-in_err-z : goal.in_tag-returns-in_err-z
in_tag-returns-in_err-z t c = rw (err_is _ c.from_residual-in_err-z.ensures.1)
    (search (
      in_tag_set,
      c.in_err-z.ensures,
      refused_is c.in_err-z.field-0.0,
      plain_refused c.in_err-z.field-0.0,
      counted_ok c.branch-e.ensures c.in_ok-e.is,
      counted_ok c.branch-p.ensures c.in_ok-p.is,
    ))

pub in_tag-overflow_add-result : goal.in_tag-overflow_add-result
in_tag-overflow_add-result t c = search (
  in_tag_asked,
  counted_ok c.branch-e.ensures c.in_ok-e.is,
  counted_ok c.branch-p.ensures c.in_ok-p.is,
  told_ok c.branch-z.ensures c.in_ok-z.is,
)

pub in_tag-shape_of-t : goal.in_tag-shape_of-t
in_tag-shape_of-t t c = search (
  in_tag_asked,
  counted_ok c.branch-e.ensures c.in_ok-e.is,
  counted_ok c.branch-p.ensures c.in_ok-p.is,
  told_ok c.branch-z.ensures c.in_ok-z.is,
)

pub in_tag-returns : goal.in_tag-returns
in_tag-returns t c = search (
  in_tag_set,
  counted_ok c.branch-e.ensures c.in_ok-e.is,
  counted_ok c.branch-p.ensures c.in_ok-p.is,
  told_ok c.branch-z.ensures c.in_ok-z.is,
)

pub joins-loop-q-init : goal.joins-loop-q-init
joins-loop-q-init t c = search joins_set

pub joins-operator-requires : goal.joins-operator-requires
joins-operator-requires t c = search loop_asked

pub joins-shape_of-t-in_err-q : goal.joins-shape_of-t-in_err-q
joins-shape_of-t-in_err-q t c = search loop_asked

pub joins-returns-in_err-q : goal.joins-returns-in_err-q
joins-returns-in_err-q t c = rw (err_is _ c.from_residual.ensures.1)
    (search (joins_set, c.in_err-q.ensures, refused_is c.in_err-q.field-0.0))

pub joins-shape_of-t-in_default : goal.joins-shape_of-t-in_default
joins-shape_of-t-in_default t c = search (
  loop_asked,
  offered_none c.loop-q.p c.branch-q.ensures c.in_ok-q.is c.in_default.is,
)

pub joins-returns-in_default : goal.joins-returns-in_default
joins-returns-in_default t c = search (
  joins_set,
  offered_none c.loop-q.p c.branch-q.ensures c.in_ok-q.is c.in_default.is,
)

pub joins-overflow_mul-m : goal.joins-overflow_mul-m
joins-overflow_mul-m t c = search (loop_asked, offered_some c.loop-q.p c.branch-q.ensures c.in_ok-q.is c.in-Some.is)

pub joins-start-i-requires : goal.joins-start-i-requires
joins-start-i-requires t c = search (loop_asked, offered_some c.loop-q.p c.branch-q.ensures c.in_ok-q.is c.in-Some.is)

pub joins-offset_bounds-t-i : goal.joins-offset_bounds-t-i
joins-offset_bounds-t-i t c = search (loop_asked, offered_some c.loop-q.p c.branch-q.ensures c.in_ok-q.is c.in-Some.is)

pub joins-slice_bounds-unary-count : goal.joins-slice_bounds-unary-count
joins-slice_bounds-unary-count t c = search (
  loop_asked,
  offered_some c.loop-q.p c.branch-q.ensures c.in_ok-q.is c.in-Some.is,
)

pub joins-slice_bounds-unary-start : goal.joins-slice_bounds-unary-start
joins-slice_bounds-unary-start t c = search (
  loop_asked,
  offered_some c.loop-q.p c.branch-q.ensures c.in_ok-q.is c.in-Some.is,
)

pub joins-slice_bounds-unary-end : goal.joins-slice_bounds-unary-end
joins-slice_bounds-unary-end t c = search (
  loop_asked,
  offered_some c.loop-q.p c.branch-q.ensures c.in_ok-q.is c.in-Some.is,
)

pub joins-behind-requires : goal.joins-behind-requires
joins-behind-requires t c = search (loop_asked, offered_some c.loop-q.p c.branch-q.ensures c.in_ok-q.is c.in-Some.is)

pub joins-unary-requires : goal.joins-unary-requires
joins-unary-requires t c = search (loop_asked, offered_some c.loop-q.p c.branch-q.ensures c.in_ok-q.is c.in-Some.is)

pub joins-shape_of-t-in_err-z : goal.joins-shape_of-t-in_err-z
joins-shape_of-t-in_err-z t c = search (
  loop_asked,
  offered_some c.loop-q.p c.branch-q.ensures c.in_ok-q.is c.in-Some.is,
)

pub joins-returns-in_err-z : goal.joins-returns-in_err-z
joins-returns-in_err-z t c = rw (err_is _ c.from_residual-in_err-z.ensures.1)
    (search (
      joins_set,
      c.in_err-z.ensures,
      refused_is c.in_err-z.field-0.0,
      offered_some c.loop-q.p c.branch-q.ensures c.in_ok-q.is c.in-Some.is,
    ))

pub joins-overflow_add-m : goal.joins-overflow_add-m
joins-overflow_add-m t c = search (
  loop_asked,
  offered_some c.loop-q.p c.branch-q.ensures c.in_ok-q.is c.in-Some.is,
  counted_ok c.branch-z.ensures c.in_ok-z.is,
)

pub joins-loop-q-smaller : goal.joins-loop-q-smaller
joins-loop-q-smaller t c = search (
  loop_asked,
  offered_some c.loop-q.p c.branch-q.ensures c.in_ok-q.is c.in-Some.is,
  counted_ok c.branch-z.ensures c.in_ok-z.is,
)

pub joins-loop-q-preserved : goal.joins-loop-q-preserved
joins-loop-q-preserved t c = search (
  joins_set,
  offered_some c.loop-q.p c.branch-q.ensures c.in_ok-q.is c.in-Some.is,
  counted_ok c.branch-z.ensures c.in_ok-z.is,
)

pub lone-pass-requires : goal.lone-pass-requires
lone-pass-requires t c = search lone_asked

pub lone-returns-in_err-a : goal.lone-returns-in_err-a
lone-returns-in_err-a t c = rw (err_is _ c.from_residual.ensures.1)
    (search (lone_set, c.in_err-a.ensures, refused_is c.in_err-a.field-0.0))

pub lone-elem-requires : goal.lone-elem-requires
lone-elem-requires t c = search (lone_asked, said_ok c.branch-a.ensures c.in_ok-a.is)

pub lone-shape_of-t-in_err-e : goal.lone-shape_of-t-in_err-e
lone-shape_of-t-in_err-e t c = search (lone_asked, said_ok c.branch-a.ensures c.in_ok-a.is)

pub lone-returns-in_err-e : goal.lone-returns-in_err-e
lone-returns-in_err-e t c = rw (err_is _ c.from_residual-in_err-e.ensures.1)
    (search (lone_set, c.in_err-e.ensures, refused_is c.in_err-e.field-0.0, said_ok c.branch-a.ensures c.in_ok-a.is))

pub lone-no_sibling-requires : goal.lone-no_sibling-requires
lone-no_sibling-requires t c = search (
  lone_asked,
  said_ok c.branch-a.ensures c.in_ok-a.is,
  counted_ok c.branch-e.ensures c.in_ok-e.is,
)

pub lone-shape_of-t-in_err-z : goal.lone-shape_of-t-in_err-z
lone-shape_of-t-in_err-z t c = search (
  lone_asked,
  said_ok c.branch-a.ensures c.in_ok-a.is,
  counted_ok c.branch-e.ensures c.in_ok-e.is,
)

pub lone-returns-in_err-z : goal.lone-returns-in_err-z
lone-returns-in_err-z t c = rw (err_says counts c.from_residual-in_err-z.result c.from_residual-in_err-z.ensures.1)
    (search (
      lone_set,
      c.in_err-z.ensures,
      refused_as_is number c.in_err-z.field-0.0,
      said_ok c.branch-a.ensures c.in_ok-a.is,
      counted_ok c.branch-e.ensures c.in_ok-e.is,
    ))

pub lone-shape_of-t : goal.lone-shape_of-t
lone-shape_of-t t c = search (
  lone_asked,
  said_ok c.branch-a.ensures c.in_ok-a.is,
  counted_ok c.branch-e.ensures c.in_ok-e.is,
  said_as_ok number c.branch-z.ensures c.in_ok-z.is,
)

pub lone-returns : goal.lone-returns
lone-returns t c = search (
  lone_set,
  said_ok c.branch-a.ensures c.in_ok-a.is,
  counted_ok c.branch-e.ensures c.in_ok-e.is,
  said_as_ok number c.branch-z.ensures c.in_ok-z.is,
)

pub more-loop-q-init : goal.more-loop-q-init
more-loop-q-init t c = search more_set

pub more-comma-requires : goal.more-comma-requires
more-comma-requires t c = search loop_asked

pub more-shape_of-t-in_err-q : goal.more-shape_of-t-in_err-q
more-shape_of-t-in_err-q t c = search loop_asked

pub more-returns-in_err-q : goal.more-returns-in_err-q
more-returns-in_err-q t c = rw (err_is _ c.from_residual.ensures.1)
    (search (more_set, c.in_err-q.ensures, refused_is c.in_err-q.field-0.0))

pub more-shape_of-t-then-not-next : goal.more-shape_of-t-then-not-next
more-shape_of-t-then-not-next t c = search (loop_asked, told_ok c.branch-q.ensures c.in_ok-q.is)

pub more-returns-then-not-next : goal.more-returns-then-not-next
more-returns-then-not-next t c = search (more_set, told_ok c.branch-q.ensures c.in_ok-q.is)

pub more-overflow_mul-m : goal.more-overflow_mul-m
more-overflow_mul-m t c = search (loop_asked, told_ok c.branch-q.ensures c.in_ok-q.is)

pub more-start-i-requires : goal.more-start-i-requires
more-start-i-requires t c = search (loop_asked, told_ok c.branch-q.ensures c.in_ok-q.is)

pub more-offset_bounds-t-i : goal.more-offset_bounds-t-i
more-offset_bounds-t-i t c = search (loop_asked, told_ok c.branch-q.ensures c.in_ok-q.is)

pub more-slice_bounds-cond-count : goal.more-slice_bounds-cond-count
more-slice_bounds-cond-count t c = search (loop_asked, told_ok c.branch-q.ensures c.in_ok-q.is)

pub more-slice_bounds-cond-start : goal.more-slice_bounds-cond-start
more-slice_bounds-cond-start t c = search (loop_asked, told_ok c.branch-q.ensures c.in_ok-q.is)

pub more-slice_bounds-cond-end : goal.more-slice_bounds-cond-end
more-slice_bounds-cond-end t c = search (loop_asked, told_ok c.branch-q.ensures c.in_ok-q.is)

pub more-behind-requires : goal.more-behind-requires
more-behind-requires t c = search (loop_asked, told_ok c.branch-q.ensures c.in_ok-q.is)

pub more-cond-requires : goal.more-cond-requires
more-cond-requires t c = search (loop_asked, told_ok c.branch-q.ensures c.in_ok-q.is)

pub more-shape_of-t-in_err-z : goal.more-shape_of-t-in_err-z
more-shape_of-t-in_err-z t c = search (loop_asked, told_ok c.branch-q.ensures c.in_ok-q.is)

pub more-returns-in_err-z : goal.more-returns-in_err-z
more-returns-in_err-z t c = rw (err_is _ c.from_residual-in_err-z.ensures.1)
    (search (more_set, c.in_err-z.ensures, refused_is c.in_err-z.field-0.0, told_ok c.branch-q.ensures c.in_ok-q.is))

pub more-overflow_add-m : goal.more-overflow_add-m
more-overflow_add-m t c = search (
  loop_asked,
  told_ok c.branch-q.ensures c.in_ok-q.is,
  counted_ok c.branch-z.ensures c.in_ok-z.is,
)

pub more-loop-q-smaller : goal.more-loop-q-smaller
more-loop-q-smaller t c = search (
  loop_asked,
  told_ok c.branch-q.ensures c.in_ok-q.is,
  counted_ok c.branch-z.ensures c.in_ok-z.is,
)

pub more-loop-q-preserved : goal.more-loop-q-preserved
more-loop-q-preserved t c = search (
  more_set,
  told_ok c.branch-q.ensures c.in_ok-q.is,
  counted_ok c.branch-z.ensures c.in_ok-z.is,
)

pub named-overflow_mul-start : goal.named-overflow_mul-start
named-overflow_mul-start t c = search named_asked

pub named-start-i-requires : goal.named-start-i-requires
named-start-i-requires t c = search named_asked

pub named-offset_bounds-t-i : goal.named-offset_bounds-t-i
named-offset_bounds-t-i t c = search named_asked

pub named-slice_bounds-in_tag-count : goal.named-slice_bounds-in_tag-count
named-slice_bounds-in_tag-count t c = search named_asked

pub named-slice_bounds-in_tag-start : goal.named-slice_bounds-in_tag-start
named-slice_bounds-in_tag-start t c = search named_asked

pub named-slice_bounds-in_tag-end : goal.named-slice_bounds-in_tag-end
named-slice_bounds-in_tag-end t c = search named_asked

pub named-inside-requires : goal.named-inside-requires
named-inside-requires t c = search named_asked

pub named-inside-requires-2 : goal.named-inside-requires-2
named-inside-requires-2 t c = search named_asked

pub named-in_tag-requires : goal.named-in_tag-requires
named-in_tag-requires t c = search named_asked

pub named-shape_of-t-in_err-tag : goal.named-shape_of-t-in_err-tag
named-shape_of-t-in_err-tag t c = search named_asked

pub named-returns-in_err-tag : goal.named-returns-in_err-tag
named-returns-in_err-tag t c = rw (err_is _ c.from_residual.ensures.1)
    (named_refuses _ c.requires.1 _ _ c.start-i.ensures c.inside.ensures c.inside-2.ensures c.in_err-tag.ensures
    (tag_refused_is _) (refused_plain _))

pub named-put_opening-requires : goal.named-put_opening-requires
named-put_opening-requires t c = search (named_asked, tag_ok c.branch-tag.ensures c.in_ok-tag.is)

pub named-overflow_add-tag : goal.named-overflow_add-tag
named-overflow_add-tag t c = search (named_asked, tag_ok c.branch-tag.ensures c.in_ok-tag.is)

pub named-put_plain-requires : goal.named-put_plain-requires
named-put_plain-requires t c = search (named_asked, tag_ok c.branch-tag.ensures c.in_ok-tag.is)

pub named-overflow_add-result : goal.named-overflow_add-result
named-overflow_add-result t c = search (named_asked, tag_ok c.branch-tag.ensures c.in_ok-tag.is)

pub named-shape_of-t-then-not-tag : goal.named-shape_of-t-then-not-tag
named-shape_of-t-then-not-tag t c = search (named_asked, tag_ok c.branch-tag.ensures c.in_ok-tag.is)

pub named-returns-then-not-tag : goal.named-returns-then-not-tag
named-returns-then-not-tag t c =
    named_single _ c.requires.1 _ _ c.start-i.ensures c.inside.ensures c.inside-2.ensures c.in_tag.ensures (tag_ok c.branch-tag.ensures c.in_ok-tag.is)
    refl c.put_opening.ensures (tag_stops _ c.if-not-tag.true) c.put_plain.ensures refl refl refl

pub named-overflow_add-tag-2 : goal.named-overflow_add-tag-2
named-overflow_add-tag-2 t c = search (named_asked, tag_ok c.branch-tag.ensures c.in_ok-tag.is)

pub named-content-requires : goal.named-content-requires
named-content-requires t c = search (named_asked, tag_ok c.branch-tag.ensures c.in_ok-tag.is)

pub named-shape_of-t : goal.named-shape_of-t
named-shape_of-t t c = search (named_asked, tag_ok c.branch-tag.ensures c.in_ok-tag.is)

pub named-returns : goal.named-returns
named-returns t c =
    named_is _ c.requires.1 _ _ c.start-i.ensures c.inside.ensures c.inside-2.ensures c.in_tag.ensures (tag_ok c.branch-tag.ensures c.in_ok-tag.is)
    refl c.put_opening.ensures (tag_goes _ c.if-not-tag.false) refl c.content.ensures refl

pub postfix-prim-requires : goal.postfix-prim-requires
postfix-prim-requires t c = search asked

pub postfix-shape_of-t-in_err-e : goal.postfix-shape_of-t-in_err-e
postfix-shape_of-t-in_err-e t c = search asked

pub postfix-returns-in_err-e : goal.postfix-returns-in_err-e
postfix-returns-in_err-e t c = rw (err_is _ c.from_residual.ensures.1)
    (search (postfix_set, c.in_err-e.ensures, refused_is c.in_err-e.field-0.0))

pub postfix-overflow_mul-k : goal.postfix-overflow_mul-k
postfix-overflow_mul-k t c = search (asked, counted_ok c.branch-e.ensures c.in_ok-e.is)

pub postfix-start-i-requires : goal.postfix-start-i-requires
postfix-start-i-requires t c = search (asked, counted_ok c.branch-e.ensures c.in_ok-e.is)

pub postfix-offset_bounds-t-i : goal.postfix-offset_bounds-t-i
postfix-offset_bounds-t-i t c = search (asked, counted_ok c.branch-e.ensures c.in_ok-e.is)

pub postfix-slice_bounds-tails-count : goal.postfix-slice_bounds-tails-count
postfix-slice_bounds-tails-count t c = search (asked, counted_ok c.branch-e.ensures c.in_ok-e.is)

pub postfix-slice_bounds-tails-start : goal.postfix-slice_bounds-tails-start
postfix-slice_bounds-tails-start t c = search (asked, counted_ok c.branch-e.ensures c.in_ok-e.is)

pub postfix-slice_bounds-tails-end : goal.postfix-slice_bounds-tails-end
postfix-slice_bounds-tails-end t c = search (asked, counted_ok c.branch-e.ensures c.in_ok-e.is)

pub postfix-behind-requires : goal.postfix-behind-requires
postfix-behind-requires t c = search (asked, counted_ok c.branch-e.ensures c.in_ok-e.is)

pub postfix-tails-requires : goal.postfix-tails-requires
postfix-tails-requires t c = search (asked, counted_ok c.branch-e.ensures c.in_ok-e.is)

pub postfix-shape_of-t-in_err-z : goal.postfix-shape_of-t-in_err-z
postfix-shape_of-t-in_err-z t c = search (asked, counted_ok c.branch-e.ensures c.in_ok-e.is)

pub postfix-returns-in_err-z : goal.postfix-returns-in_err-z
postfix-returns-in_err-z t c = rw (err_is _ c.from_residual-in_err-z.ensures.1)
    (two_refuses_inside (search postfix_splits) c.requires c.prim.ensures (counted_ok c.branch-e.ensures c.in_ok-e.is) c.start-i.ensures c.behind.ensures
    c.in_err-z.ensures (refused_is _))

pub postfix-overflow_add-result : goal.postfix-overflow_add-result
postfix-overflow_add-result t c = search (
  asked,
  counted_ok c.branch-e.ensures c.in_ok-e.is,
  counted_ok c.branch-z.ensures c.in_ok-z.is,
)

pub postfix-shape_of-t : goal.postfix-shape_of-t
postfix-shape_of-t t c = search (
  asked,
  counted_ok c.branch-e.ensures c.in_ok-e.is,
  counted_ok c.branch-z.ensures c.in_ok-z.is,
)

pub postfix-returns : goal.postfix-returns
postfix-returns t c = search (
  postfix_set,
  counted_ok c.branch-e.ensures c.in_ok-e.is,
  counted_ok c.branch-z.ensures c.in_ok-z.is,
)

pub prefix-returns-then-d-eq0 : goal.prefix-returns-then-d-eq0
prefix-returns-then-d-eq0 t c = rw c.at.ensures (search prefix_set)

pub prefix-pass-requires : goal.prefix-pass-requires
prefix-pass-requires t c = search asked

pub prefix-returns-in_err-p : goal.prefix-returns-in_err-p
prefix-returns-in_err-p t c = rw (err_is _ c.from_residual.ensures.1)
    (search (prefix_set, c.in_err-p.ensures, refused_is c.in_err-p.field-0.0))

pub prefix-overflow_sub-d : goal.prefix-overflow_sub-d
prefix-overflow_sub-d t c = search (asked, said_ok c.branch-p.ensures c.in_ok-p.is)

pub prefix-unary-requires : goal.prefix-unary-requires
prefix-unary-requires t c = search (asked, said_ok c.branch-p.ensures c.in_ok-p.is)

pub prefix-shape_of-t : goal.prefix-shape_of-t
prefix-shape_of-t t c = search (asked, said_ok c.branch-p.ensures c.in_ok-p.is)

pub prefix-returns : goal.prefix-returns
prefix-returns t c = search (prefix_set, said_ok c.branch-p.ensures c.in_ok-p.is)

pub prim-byte-b-requires : goal.prim-byte-b-requires
prim-byte-b-requires t c = search primary_asked

pub prim-opens_name-requires : goal.prim-opens_name-requires
prim-opens_name-requires t c = search primary_asked

pub prim-primary_word-requires : goal.prim-primary_word-requires
prim-primary_word-requires t c = search primary_asked

pub prim-returns-in_err-primary_word : goal.prim-returns-in_err-primary_word
prim-returns-in_err-primary_word t c = rw (err_is _ c.from_residual.ensures.1)
    (search (primary_set, c.in_err-primary_word.ensures, refused_is c.in_err-primary_word.field-0.0))

pub prim-returns-then-opens_name : goal.prim-returns-then-opens_name
prim-returns-then-opens_name t c = search (primary_set, c.in_ok-primary_word.ensures)

pub prim-is_digit-requires : goal.prim-is_digit-requires
prim-is_digit-requires t c = search primary_asked

pub prim-read_number-requires : goal.prim-read_number-requires
prim-read_number-requires t c = search primary_asked

pub prim-returns-in_err-read_number : goal.prim-returns-in_err-read_number
prim-returns-in_err-read_number t c = rw (err_is _ c.from_residual-in_err-read_number.ensures.1)
    (search (primary_set, c.in_err-read_number.ensures, refused_is c.in_err-read_number.field-0.0))

pub prim-returns-then-is_digit : goal.prim-returns-then-is_digit
prim-returns-then-is_digit t c = search (primary_set, c.in_ok-read_number.ensures)

pub prim-is_quote-requires : goal.prim-is_quote-requires
prim-is_quote-requires t c = search primary_asked

pub prim-read_string-requires : goal.prim-read_string-requires
prim-read_string-requires t c = search primary_asked

pub prim-returns-in_err-read_string : goal.prim-returns-in_err-read_string
prim-returns-in_err-read_string t c = rw (err_is _ c.from_residual-in_err-read_string.ensures.1)
    (search (primary_set, c.in_err-read_string.ensures, refused_is c.in_err-read_string.field-0.0))

pub prim-returns-then-is_quote : goal.prim-returns-then-is_quote
prim-returns-then-is_quote t c = search (primary_set, c.in_ok-read_string.ensures)

pub prim-group-requires : goal.prim-group-requires
prim-group-requires t c = (search primary_asked, (search primary_asked, search paren_inside, search primary_asked))

pub prim-shape_of-t-then-b-eq-OPEN_PAREN : goal.prim-shape_of-t-then-b-eq-OPEN_PAREN
prim-shape_of-t-then-b-eq-OPEN_PAREN t c = search primary_asked

pub prim-returns-then-b-eq-OPEN_PAREN : goal.prim-returns-then-b-eq-OPEN_PAREN
prim-returns-then-b-eq-OPEN_PAREN t c = search primary_set

pub prim-unexpected-requires : goal.prim-unexpected-requires
prim-unexpected-requires t c = search primary_asked

pub prim-returns : goal.prim-returns
prim-returns t c = search primary_set

pub spread-start-i-requires : goal.spread-start-i-requires
spread-start-i-requires t c = search node_asked

pub spread-offset_bounds-t-i : goal.spread-offset_bounds-t-i
spread-offset_bounds-t-i t c = search node_asked

pub spread-slice_bounds-in_rest-count : goal.spread-slice_bounds-in_rest-count
spread-slice_bounds-in_rest-count t c = search node_asked

pub spread-slice_bounds-in_rest-start : goal.spread-slice_bounds-in_rest-start
spread-slice_bounds-in_rest-start t c = search node_asked

pub spread-slice_bounds-in_rest-end : goal.spread-slice_bounds-in_rest-end
spread-slice_bounds-in_rest-end t c = search node_asked

pub spread-inside-requires : goal.spread-inside-requires
spread-inside-requires t c = search node_asked

pub spread-in_rest-requires : goal.spread-in_rest-requires
spread-in_rest-requires t c = search node_asked

pub spread-shape_of-t-in_err-z : goal.spread-shape_of-t-in_err-z
spread-shape_of-t-in_err-z t c = search node_asked

pub spread-returns-in_err-z : goal.spread-returns-in_err-z
spread-returns-in_err-z t c = rw (err_is _ c.from_residual.ensures.1)
    (search (spread_set, c.in_err-z.ensures, refused_is c.in_err-z.field-0.0))

pub spread-put_plain-requires : goal.spread-put_plain-requires
spread-put_plain-requires t c = search (node_asked, counted_ok c.branch-z.ensures c.in_ok-z.is)

pub spread-overflow_add-result : goal.spread-overflow_add-result
spread-overflow_add-result t c = search (node_asked, counted_ok c.branch-z.ensures c.in_ok-z.is)

pub spread-shape_of-t : goal.spread-shape_of-t
spread-shape_of-t t c = search (node_asked, counted_ok c.branch-z.ensures c.in_ok-z.is)

pub spread-returns : goal.spread-returns
spread-returns t c = search (spread_set, counted_ok c.branch-z.ensures c.in_ok-z.is)

pub tail-byte-b-requires : goal.tail-byte-b-requires
tail-byte-b-requires t c = search tail_asked

pub tail-dot_word-requires : goal.tail-dot_word-requires
tail-dot_word-requires t c = search tail_asked

pub tail-returns-in_err-dot_word : goal.tail-returns-in_err-dot_word
tail-returns-in_err-dot_word t c = rw (err_is _ c.from_residual.ensures.1)
    (search (tail_set, c.in_err-dot_word.ensures, refused_is c.in_err-dot_word.field-0.0))

pub tail-returns-then-b-eq-DOT : goal.tail-returns-then-b-eq-DOT
tail-returns-then-b-eq-DOT t c = search (tail_set, c.in_ok-dot_word.ensures)

pub tail-group-requires : goal.tail-group-requires
tail-group-requires t c = (search tail_asked, (search tail_asked, search bracket_inside, search tail_asked))

pub tail-shape_of-t-then-b-eq-OPEN_BRACKET : goal.tail-shape_of-t-then-b-eq-OPEN_BRACKET
tail-shape_of-t-then-b-eq-OPEN_BRACKET t c = search tail_asked

pub tail-returns-then-b-eq-OPEN_BRACKET : goal.tail-returns-then-b-eq-OPEN_BRACKET
tail-returns-then-b-eq-OPEN_BRACKET t c = search tail_set

pub tail-call-requires : goal.tail-call-requires
tail-call-requires t c = (search tail_asked, (search tail_asked, search paren_inside))

pub tail-shape_of-t-then-b-eq-OPEN_PAREN : goal.tail-shape_of-t-then-b-eq-OPEN_PAREN
tail-shape_of-t-then-b-eq-OPEN_PAREN t c = search tail_asked

pub tail-returns-then-b-eq-OPEN_PAREN : goal.tail-returns-then-b-eq-OPEN_PAREN
tail-returns-then-b-eq-OPEN_PAREN t c = search tail_set

pub tail-unexpected-requires : goal.tail-unexpected-requires
tail-unexpected-requires t c = search tail_asked

pub tail-returns : goal.tail-returns
tail-returns t c = search tail_set

pub tails-loop-q-init : goal.tails-loop-q-init
tails-loop-q-init t c = search tails_set

pub tails-suffix-requires : goal.tails-suffix-requires
tails-suffix-requires t c = search loop_asked

pub tails-shape_of-t-in_err-q : goal.tails-shape_of-t-in_err-q
tails-shape_of-t-in_err-q t c = search loop_asked

pub tails-returns-in_err-q : goal.tails-returns-in_err-q
tails-returns-in_err-q t c = rw (err_is _ c.from_residual.ensures.1)
    (search (tails_set, c.in_err-q.ensures, refused_is c.in_err-q.field-0.0))

pub tails-shape_of-t-in_default : goal.tails-shape_of-t-in_default
tails-shape_of-t-in_default t c = search (
  loop_asked,
  offered_none c.loop-q.p c.branch-q.ensures c.in_ok-q.is c.in_default.is,
)

pub tails-returns-in_default : goal.tails-returns-in_default
tails-returns-in_default t c = search (
  tails_set,
  offered_none c.loop-q.p c.branch-q.ensures c.in_ok-q.is c.in_default.is,
)

pub tails-overflow_mul-m : goal.tails-overflow_mul-m
tails-overflow_mul-m t c = search (loop_asked, offered_some c.loop-q.p c.branch-q.ensures c.in_ok-q.is c.in-Some.is)

pub tails-start-i-requires : goal.tails-start-i-requires
tails-start-i-requires t c = search (loop_asked, offered_some c.loop-q.p c.branch-q.ensures c.in_ok-q.is c.in-Some.is)

pub tails-offset_bounds-t-i : goal.tails-offset_bounds-t-i
tails-offset_bounds-t-i t c = search (loop_asked, offered_some c.loop-q.p c.branch-q.ensures c.in_ok-q.is c.in-Some.is)

pub tails-slice_bounds-tail-count : goal.tails-slice_bounds-tail-count
tails-slice_bounds-tail-count t c = search (
  loop_asked,
  offered_some c.loop-q.p c.branch-q.ensures c.in_ok-q.is c.in-Some.is,
)

pub tails-slice_bounds-tail-start : goal.tails-slice_bounds-tail-start
tails-slice_bounds-tail-start t c = search (
  loop_asked,
  offered_some c.loop-q.p c.branch-q.ensures c.in_ok-q.is c.in-Some.is,
)

pub tails-slice_bounds-tail-end : goal.tails-slice_bounds-tail-end
tails-slice_bounds-tail-end t c = search (
  loop_asked,
  offered_some c.loop-q.p c.branch-q.ensures c.in_ok-q.is c.in-Some.is,
)

pub tails-behind-requires : goal.tails-behind-requires
tails-behind-requires t c = search (loop_asked, offered_some c.loop-q.p c.branch-q.ensures c.in_ok-q.is c.in-Some.is)

pub tails-tail-requires : goal.tails-tail-requires
tails-tail-requires t c = search (loop_asked, offered_some c.loop-q.p c.branch-q.ensures c.in_ok-q.is c.in-Some.is)

pub tails-shape_of-t-in_err-z : goal.tails-shape_of-t-in_err-z
tails-shape_of-t-in_err-z t c = search (
  loop_asked,
  offered_some c.loop-q.p c.branch-q.ensures c.in_ok-q.is c.in-Some.is,
)

pub tails-returns-in_err-z : goal.tails-returns-in_err-z
tails-returns-in_err-z t c = rw (err_is _ c.from_residual-in_err-z.ensures.1)
    (search (
      tails_set,
      c.in_err-z.ensures,
      refused_is c.in_err-z.field-0.0,
      offered_some c.loop-q.p c.branch-q.ensures c.in_ok-q.is c.in-Some.is,
    ))

pub tails-overflow_add-m : goal.tails-overflow_add-m
tails-overflow_add-m t c = search (
  loop_asked,
  offered_some c.loop-q.p c.branch-q.ensures c.in_ok-q.is c.in-Some.is,
  counted_ok c.branch-z.ensures c.in_ok-z.is,
)

pub tails-loop-q-smaller : goal.tails-loop-q-smaller
tails-loop-q-smaller t c = search (
  loop_asked,
  offered_some c.loop-q.p c.branch-q.ensures c.in_ok-q.is c.in-Some.is,
  counted_ok c.branch-z.ensures c.in_ok-z.is,
)

pub tails-loop-q-preserved : goal.tails-loop-q-preserved
tails-loop-q-preserved t c = search (
  tails_set,
  offered_some c.loop-q.p c.branch-q.ensures c.in_ok-q.is c.in-Some.is,
  counted_ok c.branch-z.ensures c.in_ok-z.is,
)

pub unary-byte-b-requires : goal.unary-byte-b-requires
unary-byte-b-requires t c = search unary_asked

pub unary-prefix-requires : goal.unary-prefix-requires
unary-prefix-requires t c = search unary_asked

pub unary-shape_of-t-then-b-eq-BANG : goal.unary-shape_of-t-then-b-eq-BANG
unary-shape_of-t-then-b-eq-BANG t c = search unary_asked

pub unary-returns-then-b-eq-BANG : goal.unary-returns-then-b-eq-BANG
unary-returns-then-b-eq-BANG t c = search unary_set

pub unary-two_at-requires : goal.unary-two_at-requires
unary-two_at-requires t c = search unary_asked

pub unary-returns-then-two_at : goal.unary-returns-then-two_at
unary-returns-then-two_at t c = rw c.at.ensures (search unary_set)

pub unary-prefix-requires-then-b-eq-DASH : goal.unary-prefix-requires-then-b-eq-DASH
unary-prefix-requires-then-b-eq-DASH t c = (search unary_asked, (search unary_asked, search dash_inside))

pub unary-shape_of-t-then-b-eq-DASH : goal.unary-shape_of-t-then-b-eq-DASH
unary-shape_of-t-then-b-eq-DASH t c = search unary_asked

pub unary-returns-then-b-eq-DASH : goal.unary-returns-then-b-eq-DASH
unary-returns-then-b-eq-DASH t c = search unary_set

pub unary-lone-requires : goal.unary-lone-requires
unary-lone-requires t c = (search unary_asked, (search unary_asked, search less_inside))

pub unary-shape_of-t-then-b-eq-LESS : goal.unary-shape_of-t-then-b-eq-LESS
unary-shape_of-t-then-b-eq-LESS t c = search unary_asked

pub unary-returns-then-b-eq-LESS : goal.unary-returns-then-b-eq-LESS
unary-returns-then-b-eq-LESS t c = search unary_set

pub unary-postfix-requires : goal.unary-postfix-requires
unary-postfix-requires t c = search unary_asked

pub unary-shape_of-t : goal.unary-shape_of-t
unary-shape_of-t t c = search unary_asked

pub unary-returns : goal.unary-returns
unary-returns t c = search unary_set

pub value-byte-b-requires : goal.value-byte-b-requires
value-byte-b-requires t c = search value_asked

pub value-is_quote-requires : goal.value-is_quote-requires
value-is_quote-requires t c = search value_asked

pub value-quoted_value-requires : goal.value-quoted_value-requires
value-quoted_value-requires t c = search value_asked

pub value-shape_of-t-then-is_quote : goal.value-shape_of-t-then-is_quote
value-shape_of-t-then-is_quote t c = search value_asked

pub value-returns-then-is_quote : goal.value-returns-then-is_quote
value-returns-then-is_quote t c = search value_set

pub value-returns-then-d-eq0 : goal.value-returns-then-d-eq0
value-returns-then-d-eq0 t c = rw c.at.ensures (search value_set)

pub value-pass-requires : goal.value-pass-requires
value-pass-requires t c = search value_asked

pub value-returns-in_err-q : goal.value-returns-in_err-q
value-returns-in_err-q t c = rw (err_is _ c.from_residual.ensures.1)
    (search (value_set, c.in_err-q.ensures, refused_is c.in_err-q.field-0.0))

pub value-byte-requires : goal.value-byte-requires
value-byte-requires t c = search (value_asked, said_ok c.branch-q.ensures c.in_ok-q.is)

pub value-overflow_add-q : goal.value-overflow_add-q
value-overflow_add-q t c = search (value_asked, said_ok c.branch-q.ensures c.in_ok-q.is)

pub value-returns-then-byte-eq-CLOSE_BRACE : goal.value-returns-then-byte-eq-CLOSE_BRACE
value-returns-then-byte-eq-CLOSE_BRACE t c = rw c.over.ensures (search (value_set, said_ok c.branch-q.ensures c.in_ok-q.is))

pub value-overflow_sub-d : goal.value-overflow_sub-d
value-overflow_sub-d t c = search (value_asked, said_ok c.branch-q.ensures c.in_ok-q.is)

pub value-held-requires : goal.value-held-requires
value-held-requires t c = search (value_asked, said_ok c.branch-q.ensures c.in_ok-q.is)

pub value-shape_of-t-then-b-eq-OPEN_BRACE : goal.value-shape_of-t-then-b-eq-OPEN_BRACE
value-shape_of-t-then-b-eq-OPEN_BRACE t c = search (value_asked, said_ok c.branch-q.ensures c.in_ok-q.is)

pub value-returns-then-b-eq-OPEN_BRACE : goal.value-returns-then-b-eq-OPEN_BRACE
value-returns-then-b-eq-OPEN_BRACE t c = search (value_set, said_ok c.branch-q.ensures c.in_ok-q.is)

pub value-lone-requires : goal.value-lone-requires
value-lone-requires t c = (search value_asked, (search value_asked, search less_inside))

pub value-shape_of-t-then-b-eq-LESS : goal.value-shape_of-t-then-b-eq-LESS
value-shape_of-t-then-b-eq-LESS t c = search value_asked

pub value-returns-then-b-eq-LESS : goal.value-returns-then-b-eq-LESS
value-returns-then-b-eq-LESS t c = search value_set

pub value-unexpected-requires : goal.value-unexpected-requires
value-unexpected-requires t c = search value_asked

pub value-returns : goal.value-returns
value-returns t c = search value_set
