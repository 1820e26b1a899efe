-- The laws that answer the needs of each reader: its steps, and what its calls ask.
use Rattle.lex.proofs.Results.{results}
use Rattle.reader.proofs.Steps as S
use Rattle.reader.proofs.Cuts as C
use Rattle.reader.proofs.ExpressionSteps as E
use Rattle.reader.proofs.BracesSteps as B
use Rattle.reader.proofs.ElementSteps as L
use Rattle.reader.proofs.ChildSteps as H
use Rattle.reader.proofs.TagSteps as T
use Rattle.reader.proofs.Asked as A

-- ---- expressions

pub ruleset group_set = (results, E.group_steps)

pub ruleset call_set = (results, E.call_steps)

pub ruleset args_set = (results, E.args_steps)

pub ruleset more_set = (results, S.loop_steps, C.more_loops, C.more_turns)

pub ruleset primary_set = (results, E.primary_steps)

pub ruleset tail_set = (results, E.tail_steps)

pub ruleset tails_set = (results, S.loop_steps, C.tails_loops, C.tails_turns)

pub ruleset postfix_set = (results, S.two_steps, C.postfix_splits, C.postfix_begins)

pub ruleset prefix_set = (results, E.prefix_steps)

pub ruleset lone_set = (results, L.lone_steps)

pub ruleset unary_set = (results, E.unary_steps)

pub ruleset joins_set = (results, S.loop_steps, C.joins_loops, C.joins_turns)

pub ruleset either_set = (results, S.two_steps, C.either_splits, C.either_begins)

pub ruleset cond_set = (results, E.cond_steps)

pub ruleset choice_set = (results, E.choice_steps)

pub ruleset arms_set = (results, E.arms_steps)

pub ruleset expr_set = (results, S.node_steps, B.expr_wraps, B.expr_holds)

-- ---- braces and attributes

pub ruleset in_held_set = (results, B.in_held_steps)

pub ruleset held_set = (results, S.node_refuses, B.held_holds, B.held_made)

pub ruleset in_spread_set = (results, B.in_spread_steps)

pub ruleset spread_set = (results, S.node_refuses, B.spread_holds, B.spread_made)

pub ruleset value_set = (results, B.value_steps)

pub ruleset in_attr_set = (results, B.in_attr_steps)

pub ruleset attr_set = (results, S.node_steps, B.attr_wraps, B.attr_holds, B.attr_spread_steps)

pub ruleset attrs_set = (results, S.loop_steps, C.attrs_loops, C.attrs_turns)

-- ---- elements

pub ruleset in_tag_set = (results, T.in_tag_steps)

pub ruleset content_set = (results, T.content_steps)

pub ruleset named_set = (results, T.named_steps)

pub ruleset fragment_set = (results, T.fragment_steps)

pub ruleset element_set = (results, L.element_steps)

pub ruleset child_set = (results, H.child_steps)

pub ruleset children_set = (results, H.kids_steps)

-- ---- what their calls ask

pub ruleset asked = (A.asked)

pub ruleset primary_asked = (A.primary_asked)

pub ruleset tail_asked = (A.tail_asked)

pub ruleset unary_asked = (A.unary_asked)

pub ruleset lone_asked = (A.lone_asked)

pub ruleset cond_asked = (A.cond_asked)

pub ruleset value_asked = (A.value_asked)

pub ruleset attr_asked = (A.attr_asked)

pub ruleset element_asked = (A.element_asked)

pub ruleset child_asked = (A.child_asked)

pub ruleset node_asked = (A.wrapped_asked)

pub ruleset loop_asked = (S.loop_asked, C.more_loops, C.tails_loops, C.joins_loops, C.attrs_loops)

pub ruleset children_asked = (S.loop_asked, H.kids_asked)

pub ruleset in_tag_asked = (A.asked, T.tag_room)

pub ruleset content_asked = (A.content_asked)

pub ruleset named_asked = (A.named_asked)

pub ruleset fragment_asked = (A.fragment_asked)
