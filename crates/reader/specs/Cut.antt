-- Pieces of the rules of expressions, braces and tags that a reader of the cycle reads.
-- Each is a part of a rule of the definition, cut out where the code is cut.
use Rattle.std.specs.Prelude.{ℕ, zero, suc}
use Rattle.rules.specs.Rule.{Rule, refuse, when, many, here, ◌⨾◌, ◌⇒◌∣◌}
use Rattle.jsx.specs.Refusal.{too_deep}
use Rattle.jsx.specs.Byte.{is, need, expect}
use Rattle.jsx.specs.Blank.{pass}
use Rattle.jsx.specs.Name.{element_name, attribute_name}
use Rattle.jsx.specs.Expression.{Inner, unary, conditional, expression, argument_turn}
use Rattle.jsx.specs.Tag.{initializer, attributes, tag_end}
use Rattle.jsx.specs.Depth.{within}
use Rattle.tag.specs.Token.{close_by}
use Rattle.token.specs.Token.{operator, parted, dots_on, shut_braces, dot_word}

-- A conditional between a byte and the byte c, one level deeper: `(conditional)`, `[conditional]`.
unfoldable pub group_by : (c d : ℕ) → Rule
group_by c zero = refuse too_deep here
group_by c (suc d) = pass ⨾ conditional (within d) ⨾ close_by c

-- The inside of a call that is not empty, and its `)`.
unfoldable pub arguments : Inner → Rule
arguments n = conditional n ⨾ many (argument_turn n) ⨾ expect ")"

-- What stands behind a primary.
unfoldable pub tail_of : Inner → Rule
tail_of n =
    when (is ".") ⇒ dot_word
    ∣ when (is "[") ⇒ n.bracket
    ∣ when (is "(") ⇒ n.call
    ∣ need

-- One more unary behind an operator.
unfoldable pub operand_turn : Inner → Rule
operand_turn n = operator ⨾ unary n

-- A choice behind its `?`.
unfoldable pub arms_of : Inner → Rule
arms_of n = conditional n ⨾ parted ⨾ conditional n

-- The inside of `{expression}`, and of `{...expression}`, behind the blanks, up to the end.
unfoldable pub in_container : Inner → Rule
in_container n = expression n ⨾ shut_braces

unfoldable pub in_spread : Inner → Rule
in_spread n = dots_on ⨾ expression n ⨾ close_by 125

-- The inside of an attribute that has a name.
unfoldable pub in_attribute : Inner → Rule
in_attribute n = attribute_name ⨾ initializer n

-- The inside of an opening tag, from its name on.
unfoldable pub in_tag : Inner → Rule
in_tag n = element_name ⨾ attributes n ⨾ tag_end
