-- What stands in braces. Chapters 'Markup' and 'The table'.
use Rattle.std.specs.Prelude.{ℕ}
use Rattle.rules.specs.Rule.{Rule, step, refuse, when, starts, after, marked, here, from_mark, this_byte, node_of, ◌⨾◌}
use Rattle.rules.specs.Rule.{◌⇒◌∣◌}
use Rattle.jsx.specs.Refusal.{unexpected, empty_value, comma_in_braces}
use Rattle.jsx.specs.Kind as Kind
use Rattle.jsx.specs.Byte.{bytes_of, is, need, expect}
use Rattle.jsx.specs.Blank.{blanks, pass}
use Rattle.jsx.specs.Expression.{Inner, expression}

-- `{expression}`. D: "comma after the expression of `{expression}`" is 16 at "that byte: p, p + 1".
unfoldable pub close_container : Rule
close_container =
    when (is ",") ⇒ refuse comma_in_braces this_byte
    ∣ expect "}"

unfoldable pub container : Inner → Rule
container n = node_of Kind.container (pass ⨾ expression n ⨾ blanks ⨾ close_container)

-- `{}` with or without blanks. D: "A 12 spans all between the braces."
unfoldable pub empty_braces : Rule
empty_braces = node_of Kind.container (step ⨾ node_of Kind.empty_expression blanks ⨾ expect "}")

-- D: "one or two dots where `...` may stand: refusal 3 at the first byte, at the end of input too".
unfoldable pub dots : Rule
dots =
    starts (bytes_of "...") ⇒ step ⨾ step ⨾ step
    ∣ when (is ".") ⇒ refuse unexpected here
    ∣ need

-- `{...expression}`, as a child (13) or among attributes (9).
unfoldable pub spread : ℕ → Inner → Rule
spread k n = node_of k (pass ⨾ dots ⨾ blanks ⨾ expression n ⨾ blanks ⨾ expect "}")

-- D: "Children: .. `{expression}`, `{}` with or without blanks, `{...expression}`."
unfoldable pub child_braces_in : Inner → Rule
child_braces_in n =
    after pass (is "}") ⇒ empty_braces
    ∣ after pass (is ".") ⇒ spread Kind.spread_child n
    ∣ container n

-- D: "attribute `={}` with nothing or blanks inside" is 11 at "the braces".
unfoldable pub empty_value_braces : Rule
empty_value_braces = marked (pass ⨾ expect "}" ⨾ refuse empty_value from_mark)

unfoldable pub value_braces_in : Inner → Rule
value_braces_in n =
    after pass (is "}") ⇒ empty_value_braces
    ∣ container n
