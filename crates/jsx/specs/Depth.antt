-- The levels. Chapter 'Inside braces', **Depth**.
use Rattle.std.specs.Prelude.{ℕ, zero, suc}
use Rattle.rules.specs.Rule.{Rule, refuse, when, when_char, marked, here, mark, ◌⨾◌, ◌⇒◌∣◌}
use Rattle.jsx.specs.Refusal.{too_deep}
use Rattle.jsx.specs.Kind as Kind
use Rattle.jsx.specs.Byte.{is, need}
use Rattle.jsx.specs.Blank.{pass}
use Rattle.jsx.specs.Name.{opens_part}
use Rattle.jsx.specs.Expression.{Inner, paren_in, bracket_in, call_in, prefix_in, choice_in}
use Rattle.jsx.specs.Braces.{child_braces_in, value_braces_in, spread}
use Rattle.jsx.specs.Element.{element_in}

-- D: "For `<` it is tested once a name or `>` is seen after it."
unfoldable pub element_too_deep : Rule
element_too_deep =
    marked (pass ⨾ (when (is ">") ⇒ refuse too_deep mark ∣ when_char opens_part ⇒ refuse too_deep mark ∣ need))

-- No level is left. D: "65 is refusal 14 at its first byte".
unfoldable pub no_level : Inner
no_level = record {
  element = element_too_deep;
  child_braces = refuse too_deep here;
  value_braces = refuse too_deep here;
  spread_braces = refuse too_deep here;
  paren = refuse too_deep here;
  bracket = refuse too_deep here;
  call = refuse too_deep here;
  prefix = refuse too_deep here;
  choice = refuse too_deep here;
}

-- One level, with d more below it, which n has.
unfoldable pub level : ℕ → Inner → Inner
level d n = record {
  element = element_in d n;
  child_braces = child_braces_in n;
  value_braces = value_braces_in n;
  spread_braces = spread Kind.spread_attribute n;
  paren = paren_in n;
  bracket = bracket_in n;
  call = call_in n;
  prefix = prefix_in n;
  choice = choice_in n;
}

unfoldable pub within : ℕ → Inner
within zero = no_level
within (suc d) = let n = within d in level d n
