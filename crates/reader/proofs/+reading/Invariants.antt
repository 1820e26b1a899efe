-- A level of depth counts 16: between two readers that call each other with the same depth, the measure falls by one
-- or more.
use Prim.Native.Nat.{◌+◌, ◌*◌, ◌-◌}
use lib.ListN.{length}
use Rattle.rules.specs.Rule.{many}
use Rattle.jsx.specs.Expression.{postfix_turn, argument_turn}
use Rattle.jsx.specs.Tag.{attributes}
use Rattle.jsx.specs.Element.{children as children_rule}
use Rattle.jsx.specs.Depth.{within}
use Rattle.table.specs.Slot.{seat}
use Rattle.reader.specs.Cut.{operand_turn}
use Rattle.reader.proofs.Steps.{Loop}
use Rattle.reader.proofs.+reading.Given as goal

abbrev pub decreases-args : goal.decreases-args
decreases-args l = 16 * l.d + 9

abbrev pub decreases-arms : goal.decreases-arms
decreases-arms l = 16 * l.d + 8

abbrev pub decreases-attr : goal.decreases-attr
decreases-attr l = 16 * l.d + 4

abbrev pub decreases-attrs : goal.decreases-attrs
decreases-attrs l = 16 * l.d + 5

abbrev pub decreases-call : goal.decreases-call
decreases-call l = 16 * l.d + 0

abbrev pub decreases-child : goal.decreases-child
decreases-child l = 16 * l.d + 1

abbrev pub decreases-children : goal.decreases-children
decreases-children l = 16 * l.d + 2

abbrev pub decreases-choice : goal.decreases-choice
decreases-choice l = 16 * l.d + 0

abbrev pub decreases-cond : goal.decreases-cond
decreases-cond l = 16 * l.d + 7

abbrev pub decreases-content : goal.decreases-content
decreases-content l = 16 * l.d + 3

abbrev pub decreases-either : goal.decreases-either
decreases-either l = 16 * l.d + 6

abbrev pub decreases-elem : goal.decreases-elem
decreases-elem l = 16 * l.d + 0

abbrev pub decreases-expr : goal.decreases-expr
decreases-expr l = 16 * l.d + 8

abbrev pub decreases-frag : goal.decreases-frag
decreases-frag l = 16 * l.d + 4

abbrev pub decreases-group : goal.decreases-group
decreases-group l = 16 * l.d + 0

abbrev pub decreases-held : goal.decreases-held
decreases-held l = 16 * l.d + 10

abbrev pub decreases-in_attr : goal.decreases-in_attr
decreases-in_attr l = 16 * l.d + 3

abbrev pub decreases-in_held : goal.decreases-in_held
decreases-in_held l = 16 * l.d + 9

abbrev pub decreases-in_rest : goal.decreases-in_rest
decreases-in_rest l = 16 * l.d + 9

abbrev pub decreases-in_tag : goal.decreases-in_tag
decreases-in_tag l = 16 * l.d + 6

abbrev pub decreases-joins : goal.decreases-joins
decreases-joins l = 16 * l.d + 5

abbrev pub decreases-lone : goal.decreases-lone
decreases-lone l = 16 * l.d + 1

abbrev pub decreases-more : goal.decreases-more
decreases-more l = 16 * l.d + 8

abbrev pub decreases-named : goal.decreases-named
decreases-named l = 16 * l.d + 7

abbrev pub decreases-postfix : goal.decreases-postfix
decreases-postfix l = 16 * l.d + 3

abbrev pub decreases-prefix : goal.decreases-prefix
decreases-prefix l = 16 * l.d + 0

abbrev pub decreases-prim : goal.decreases-prim
decreases-prim l = 16 * l.d + 1

abbrev pub decreases-spread : goal.decreases-spread
decreases-spread l = 16 * l.d + 10

abbrev pub decreases-tail : goal.decreases-tail
decreases-tail l = 16 * l.d + 1

abbrev pub decreases-tails : goal.decreases-tails
decreases-tails l = 16 * l.d + 2

abbrev pub decreases-unary : goal.decreases-unary
decreases-unary l = 16 * l.d + 4

abbrev pub decreases-value : goal.decreases-value
decreases-value l = 16 * l.d + 2

abbrev pub invariant-attrs-loop-q : goal.invariant-attrs-loop-q
invariant-attrs-loop-q l = Loop 2 l.s (attributes (within l.d)) l.at (seat l.slot) l.initial.t l.p l.m l.t

abbrev pub decreases-attrs-loop-q : goal.decreases-attrs-loop-q
decreases-attrs-loop-q l = length l.s - l.p

abbrev pub invariant-children-loop-z : goal.invariant-children-loop-z
invariant-children-loop-z l = Loop 3 l.s (children_rule (within l.d)) l.at (seat l.slot) l.initial.t l.p l.m l.t

abbrev pub decreases-children-loop-z : goal.decreases-children-loop-z
decreases-children-loop-z l = length l.s - l.p

abbrev pub invariant-joins-loop-q : goal.invariant-joins-loop-q
invariant-joins-loop-q l = Loop 3 l.s (many (operand_turn (within l.d))) l.at (seat l.slot) l.initial.t l.p l.m l.t

abbrev pub decreases-joins-loop-q : goal.decreases-joins-loop-q
decreases-joins-loop-q l = length l.s - l.p

abbrev pub invariant-more-loop-q : goal.invariant-more-loop-q
invariant-more-loop-q l = Loop 3 l.s (many (argument_turn (within l.d))) l.at (seat l.slot) l.initial.t l.p l.m l.t

abbrev pub decreases-more-loop-q : goal.decreases-more-loop-q
decreases-more-loop-q l = length l.s - l.p

abbrev pub invariant-tails-loop-q : goal.invariant-tails-loop-q
invariant-tails-loop-q l = Loop 3 l.s (many (postfix_turn (within l.d))) l.at (seat l.slot) l.initial.t l.p l.m l.t

abbrev pub decreases-tails-loop-q : goal.decreases-tails-loop-q
decreases-tails-loop-q l = length l.s - l.p
