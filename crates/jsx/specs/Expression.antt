-- Expressions. Chapter 'Inside braces'. The levels are document 01's, each over what may be entered one level deeper.
use Rattle.std.specs.Prelude.{ℕ}
use Rattle.rules.specs.Rule.{Test, Rule, done, stop, step, refuse, when, starts, after, many, here, this_byte, node_of}
use Rattle.rules.specs.Rule.{◌⨾◌, ◌⇒◌∣◌}
use Rattle.jsx.specs.Refusal.{unexpected, adjacent}
use Rattle.jsx.specs.Kind as Kind
use Rattle.jsx.specs.Byte.{bytes_of, is, digit, quote, need, expect, ◌or◌}
use Rattle.jsx.specs.Blank.{blanks, pass}
use Rattle.jsx.specs.Name.{opens_name}
use Rattle.jsx.specs.Word.{word, primary_word, number, string}

-- What counts a level of depth. D: "an element, fragment, brace pair, parenthesis, bracket, call, prefix operator (to
-- the end of its operand) and conditional (from its `?` to its end) each count one".
pub record Inner : Type 0 where
  pub element : Rule
  pub child_braces : Rule
  pub value_braces : Rule
  pub spread_braces : Rule
  pub paren : Rule
  pub bracket : Rule
  pub call : Rule
  pub prefix : Rule
  pub choice : Rule

-- Behind an element that isn't a child. D: "`<` not followed by `<` or `=`" is 12 at "that byte: p, p + 1"; before
-- those two it is the number n that anything else gets here.
unfoldable pub sibling : ℕ → Rule
sibling n =
    starts (bytes_of "<<") ⇒ refuse n here
    ∣ starts (bytes_of "<=") ⇒ refuse n here
    ∣ refuse adjacent this_byte

unfoldable pub no_sibling : ℕ → Rule
no_sibling n =
    after blanks (is "<") ⇒ blanks ⨾ sibling n
    ∣ done

-- D: "Primary: name, number, string, `(conditional)`."
unfoldable pub primary : Inner → Rule
primary n =
    when opens_name ⇒ primary_word
    ∣ when digit ⇒ number
    ∣ when quote ⇒ string
    ∣ when (is "(") ⇒ n.paren
    ∣ need

-- D: "Postfix: a primary, then any of `.name`, `[conditional]`, `(zero or more conditionals with commas between)`."
unfoldable pub postfix_turn : Inner → Rule
postfix_turn n =
    after blanks (is ".") ⇒ blanks ⨾ expect "." ⨾ blanks ⨾ word
    ∣ after blanks (is "[") ⇒ blanks ⨾ n.bracket
    ∣ after blanks (is "(") ⇒ blanks ⨾ n.call
    ∣ stop

unfoldable pub postfix : Inner → Rule
postfix n = primary n ⨾ many (postfix_turn n)

-- D: "Unary: `!` or `-` before a unary, or an element, a fragment or a postfix." D: "`++`, `--`, .. : refusal 3 at
-- the first byte".
unfoldable pub unary : Inner → Rule
unary n =
    when (is "!") ⇒ n.prefix
    ∣ starts (bytes_of "--") ⇒ refuse unexpected here
    ∣ when (is "-") ⇒ n.prefix
    ∣ when (is "<") ⇒ n.element ⨾ no_sibling unexpected
    ∣ postfix n

-- One or more of the next level, with an operator that begins so between them.
unfoldable pub joined_turn : Test → Rule → Rule → Rule
joined_turn begins operator next =
    after blanks begins ⇒ blanks ⨾ operator ⨾ blanks ⨾ next
    ∣ stop

unfoldable pub joined : Test → Rule → Rule → Rule
joined begins operator next = next ⨾ many (joined_turn begins operator next)

-- D: "`**` .. : refusal 3 at the first byte".
unfoldable pub times : Rule
times =
    starts (bytes_of "**") ⇒ refuse unexpected here
    ∣ step

-- D: "`++`, `--`, .. : refusal 3 at the first byte".
unfoldable pub plus_minus : Rule
plus_minus =
    starts (bytes_of "++") ⇒ refuse unexpected here
    ∣ starts (bytes_of "--") ⇒ refuse unexpected here
    ∣ step

-- D: "`|` and `&` alone .. : refusal 3 at the first byte".
unfoldable pub and_and : Rule
and_and =
    starts (bytes_of "&&") ⇒ step ⨾ step
    ∣ refuse unexpected here

unfoldable pub or_or : Rule
or_or =
    starts (bytes_of "||") ⇒ step ⨾ step
    ∣ refuse unexpected here

-- D: "Product: unaries joined by `*`."
unfoldable pub product : Inner → Rule
product n = joined (is "*") times (unary n)

-- D: "Sum: products joined by `+` or `-`."
unfoldable pub sum : Inner → Rule
sum n = joined (is "+" or is "-") plus_minus (product n)

-- D: "Both: sums joined by `&&`."
unfoldable pub both : Inner → Rule
both n = joined (is "&") and_and (sum n)

-- D: "Either: boths joined by `||`."
unfoldable pub either : Inner → Rule
either n = joined (is "|") or_or (both n)

-- D: "`?.`, `??`, .. : refusal 3 at the first byte".
unfoldable pub question : Inner → Rule
question n =
    starts (bytes_of "?.") ⇒ refuse unexpected here
    ∣ starts (bytes_of "??") ⇒ refuse unexpected here
    ∣ n.choice

-- D: "Conditional: either, or either `?` conditional `:` conditional."
unfoldable pub conditional : Inner → Rule
conditional n = either n ⨾ (after blanks (is "?") ⇒ blanks ⨾ question n ∣ done)

-- D: "A 15 spans first to last token".
unfoldable pub expression : Inner → Rule
expression n = node_of Kind.expression (conditional n)

-- The levels inside an expression, each from its first byte, with n inside it.

-- `(conditional)`
unfoldable pub paren_in : Inner → Rule
paren_in n = pass ⨾ conditional n ⨾ blanks ⨾ expect ")"

-- `[conditional]`
unfoldable pub bracket_in : Inner → Rule
bracket_in n = pass ⨾ conditional n ⨾ blanks ⨾ expect "]"

-- `(zero or more conditionals with commas between)`
unfoldable pub argument_turn : Inner → Rule
argument_turn n = blanks ⨾ (when (is ",") ⇒ pass ⨾ conditional n ∣ stop)

unfoldable pub call_in : Inner → Rule
call_in n = pass ⨾ (when (is ")") ⇒ step ∣ conditional n ⨾ many (argument_turn n) ⨾ expect ")")

-- "`!` or `-` before a unary"
unfoldable pub prefix_in : Inner → Rule
prefix_in n = pass ⨾ unary n

-- "`?` conditional `:` conditional"
unfoldable pub choice_in : Inner → Rule
choice_in n = pass ⨾ conditional n ⨾ blanks ⨾ expect ":" ⨾ blanks ⨾ conditional n
