-- Attributes and tags. Chapters 'Markup' and 'The table'.
use Rattle.rules.specs.Rule.{Rule, done, stop, when, after, many, node_of, ◌⨾◌, ◌⇒◌∣◌}
use Rattle.jsx.specs.Refusal.{unexpected}
use Rattle.jsx.specs.Kind as Kind
use Rattle.jsx.specs.Byte.{is, quote, need, expect, ◌or◌}
use Rattle.jsx.specs.Blank.{blanks, pass}
use Rattle.jsx.specs.Name.{element_name, attribute_name}
use Rattle.jsx.specs.Text.{quoted}
use Rattle.jsx.specs.Expression.{Inner, no_sibling}

-- D: "a quoted string, `{expression}`, an element or a fragment".
unfoldable pub value : Inner → Rule
value n =
    when quote ⇒ quoted
    ∣ when (is "{") ⇒ n.value_braces
    ∣ when (is "<") ⇒ n.element ⨾ no_sibling unexpected
    ∣ need

-- D: "name (part or `part:part`), optionally `=` and" a value.
unfoldable pub initializer : Inner → Rule
initializer n =
    after blanks (is "=") ⇒ blanks ⨾ expect "=" ⨾ blanks ⨾ value n
    ∣ done

unfoldable pub named_attribute : Inner → Rule
named_attribute n = node_of Kind.attribute (attribute_name ⨾ initializer n)

-- D: "or `{...expression}`".
unfoldable pub attribute : Inner → Rule
attribute n =
    when (is "{") ⇒ n.spread_braces
    ∣ named_attribute n

-- D: "No blank is needed between them. Repeats are allowed."
unfoldable pub attribute_turn : Inner → Rule
attribute_turn n = blanks ⨾ (when (is "/" or is ">") ⇒ stop ∣ attribute n)

unfoldable pub attributes : Inner → Rule
attributes n = many (attribute_turn n)

-- `/>`, where the tag stops and has no content; or `>`.
unfoldable pub tag_end : Rule
tag_end =
    when (is "/") ⇒ pass ⨾ expect ">" ⨾ stop
    ∣ expect ">"

-- D: "18 holds its name, then attributes".
unfoldable pub open_tag : Inner → Rule
open_tag n = node_of Kind.opening_tag (pass ⨾ element_name ⨾ attributes n ⨾ tag_end)

unfoldable pub open_fragment : Rule
open_fragment = node_of Kind.opening_tag (pass ⨾ expect ">")

-- D: "17 its name if any".
unfoldable pub close_name : Rule
close_name =
    when (is ">") ⇒ done
    ∣ element_name

unfoldable pub close_tag : Rule
close_tag = node_of Kind.closing_tag (expect "<" ⨾ blanks ⨾ expect "/" ⨾ blanks ⨾ close_name ⨾ blanks ⨾ expect ">")
