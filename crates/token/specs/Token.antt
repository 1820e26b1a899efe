-- Pieces of the rules of expressions, braces and tags: what stands between two readers of the cycle.
-- Each is a part of a rule of the definition, cut out where the code is cut.
use Rattle.std.specs.Prelude.{ℕ, [], ◌∷◌}
use Rattle.rules.specs.Rule.{Rule, done, stop, step, refuse, when, starts, after, here, ◌⨾◌, ◌⇒◌∣◌}
use Rattle.jsx.specs.Refusal.{unexpected}
use Rattle.jsx.specs.Byte.{is, expect, ◌or◌}
use Rattle.jsx.specs.Blank.{blanks, pass}
use Rattle.jsx.specs.Word.{word}
use Rattle.jsx.specs.Expression.{times, plus_minus, and_and, or_or}
use Rattle.jsx.specs.Braces.{dots, close_container}

-- This byte, refused where it stands twice; the same byte twice, refused where it stands once.
unfoldable pub once : ℕ → Rule
once b =
    starts (b ∷ b ∷ []) ⇒ refuse unexpected here
    ∣ step

unfoldable pub twice : ℕ → Rule
twice b =
    starts (b ∷ b ∷ []) ⇒ step ⨾ step
    ∣ refuse unexpected here

-- An operator, if one begins here.
unfoldable pub operator_here : Rule
operator_here =
    when (is "*") ⇒ times
    ∣ when (is "+" or is "-") ⇒ plus_minus
    ∣ when (is "&") ⇒ and_and
    ∣ when (is "|") ⇒ or_or
    ∣ stop

-- An operator with the blanks around it, if one follows.
unfoldable pub operator : Rule
operator =
    after blanks (is "*") ⇒ blanks ⨾ times ⨾ blanks
    ∣ after blanks (is "+" or is "-") ⇒ blanks ⨾ plus_minus ⨾ blanks
    ∣ after blanks (is "&") ⇒ blanks ⨾ and_and ⨾ blanks
    ∣ after blanks (is "|") ⇒ blanks ⨾ or_or ⨾ blanks
    ∣ stop

-- The blanks before `.name`, `[conditional]` or a call, if one follows.
unfoldable pub suffixed : Rule
suffixed =
    after blanks (is "." or is "[" or is "(") ⇒ blanks
    ∣ stop

-- A comma with the blanks around it, if one follows.
unfoldable pub comma : Rule
comma = blanks ⨾ (when (is ",") ⇒ pass ∣ stop)

-- An attribute's `=` with the blanks around it, if one follows.
unfoldable pub assigned : Rule
assigned =
    after blanks (is "=") ⇒ blanks ⨾ expect "=" ⨾ blanks
    ∣ stop

-- The blanks before an attribute, if the tag does not end behind them.
unfoldable pub attribute_at : Rule
attribute_at = blanks ⨾ (when (is "/" or is ">") ⇒ stop ∣ done)

-- A conditional's `:` with the blanks around it.
unfoldable pub parted : Rule
parted = blanks ⨾ expect ":" ⨾ blanks

-- The dots of a spread, and blanks.
unfoldable pub dots_on : Rule
dots_on = dots ⨾ blanks

-- The end of `{expression}`.
unfoldable pub shut_braces : Rule
shut_braces = blanks ⨾ close_container

-- `.name`
unfoldable pub dot_word : Rule
dot_word = expect "." ⨾ blanks ⨾ word
