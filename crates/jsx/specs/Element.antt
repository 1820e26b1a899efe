-- Children, elements and fragments. Chapters 'Markup' and 'The table'.
use Rattle.std.specs.Prelude.{ℕ}
use Rattle.rules.specs.Forest.{node, content, Forest, nil, byte, group}
use Rattle.rules.specs.Rule.{Rule, stop, refuse, when, after, many, wrap, paired, here, node_of, ◌⇒◌∣◌}
use Rattle.jsx.specs.Refusal.{stray_in_text}
use Rattle.jsx.specs.Kind as Kind
use Rattle.jsx.specs.Byte.{is, end}
use Rattle.jsx.specs.Blank.{pass}
use Rattle.jsx.specs.Text.{in_text, text}
use Rattle.jsx.specs.Expression.{Inner}
use Rattle.jsx.specs.Tag.{open_tag, open_fragment, close_tag}
use Rattle.jsx.specs.Closing.{verdict}

-- D: "Children: text .., elements, fragments, `{expression}`, `{}` .., `{...expression}`." They end at the end, and
-- at a `<` that a `/` follows.
-- D: "`>` or `}` in child text" is 6 at "its offset".
unfoldable pub child : Inner → Rule
child n =
    when end ⇒ stop
    ∣ when (is "<") ⇒ (after pass (is "/") ⇒ stop ∣ n.element)
    ∣ when (is "{") ⇒ n.child_braces
    ∣ when in_text ⇒ text
    ∣ refuse stray_in_text here

unfoldable pub children : Inner → Rule
children n = many (child n)

-- D: "extra 1 paired, 0 self-closed".
unfoldable pub paired_or_not : Forest → ℕ
paired_or_not nil = 0
paired_or_not (byte b u) = paired_or_not u
paired_or_not (group (node k x) c u) = paired_or_not u
paired_or_not (group (content d) c u) = 1

-- D: "Element and fragment hold 18, children, then 17 where paired." With d levels left inside, which n has.
unfoldable pub fragment_in : ℕ → Inner → Rule
fragment_in d n = node_of Kind.fragment (paired open_fragment d (children n) close_tag verdict)

unfoldable pub named_in : ℕ → Inner → Rule
named_in d n = wrap (λ o. node Kind.element (paired_or_not o)) (paired (open_tag n) d (children n) close_tag verdict)

unfoldable pub element_in : ℕ → Inner → Rule
element_in d n =
    after pass (is ">") ⇒ fragment_in d n
    ∣ named_in d n
