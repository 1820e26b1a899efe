-- Texts and quoted attribute strings. Chapter 'Markup'.
use Prim.Native.Char.{Char}
use Rattle.rules.specs.Rule.{Test, Rule, stop, step, refuse, when, many, marked, mark, node_of, ◌⨾◌, ◌⇒◌∣◌}
use Rattle.jsx.specs.Refusal.{quoted_never_closed}
use Rattle.jsx.specs.Kind as Kind
use Rattle.jsx.specs.Byte.{is, end, ◌or◌, none}

-- D: "text (the longest nonempty run without `<` `>` `{` `}`)". Behind its first byte, which the child's rule has seen:
unfoldable pub in_text : Test
in_text = none (is "<" or is ">" or is "{" or is "}" or end)

unfoldable pub text : Rule
text = node_of Kind.text (step ⨾ many (when in_text ⇒ step ∣ stop))

-- D: "A quoted attribute string ends at the first same quote. No escapes; line ends allowed." Never closed, 5 at "its
-- first byte".
unfoldable pub quoted_turn : Char → Rule
quoted_turn q =
    when end ⇒ refuse quoted_never_closed mark
    ∣ when (is q) ⇒ stop
    ∣ step

unfoldable pub quoted_by : Char → Rule
quoted_by q = marked (step ⨾ many (quoted_turn q) ⨾ step)

-- D: "10 quoted string with its quotes".
unfoldable pub quoted : Rule
quoted = node_of Kind.quoted (when (is "'") ⇒ quoted_by "'" ∣ quoted_by "\"")
