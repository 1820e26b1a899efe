-- Rules that go on, and rules that read bytes alone.
-- (An operator, a suffix, a comma, `=` and the blanks before an attribute stop where none follows.)
use mathlib.Core.Path.{◌≡◌, refl}
use mathlib.Core.Bool.{true}
use Prim.Native.Nat.{ℕ}
use Rattle.rules.proofs.Run.{goes}
use Rattle.jsx.specs.Byte.{need, expect}
use Rattle.jsx.specs.Blank.{blank, blanks, comment, comment_turn, line_comment, line_turn, pass}
use Rattle.jsx.specs.Word.{word}
use Rattle.jsx.specs.Text.{text}
use Rattle.jsx.specs.Expression.{times, plus_minus, and_and, or_or}
use Rattle.jsx.specs.Braces.{close_container, dots, empty_braces}
use Rattle.jsx.specs.Depth.{element_too_deep}
use Rattle.lex.proofs.Bare.{bare}
use Rattle.token.specs.Token.{once, twice, operator_here, operator, suffixed, comma, assigned}
use Rattle.token.specs.Token.{attribute_at, parted, dots_on, shut_braces, dot_word}

-- ---- a level

-- A byte and the blanks behind it go on,
pub goes_pass : goes pass ≡ true
unfolding goes pass blanks
goes_pass = refl

-- and are bytes alone.
pub bare_pass : bare pass ≡ true
unfolding bare pass blanks blank comment comment_turn line_comment line_turn
bare_pass = refl

-- An element with no level left goes on: it is refused,
pub goes_too_deep : goes element_too_deep ≡ true
unfolding goes element_too_deep pass blanks need
goes_too_deep = refl

-- and is bytes alone.
pub bare_too_deep : bare element_too_deep ≡ true
unfolding bare element_too_deep need pass blanks blank comment comment_turn line_comment line_turn
bare_too_deep = refl

-- ---- an operator

-- A byte that stands once goes on,
pub goes_once : (b : ℕ) → goes (once b) ≡ true
unfolding goes once
goes_once b = refl

-- and is bytes alone.
pub bare_once : (b : ℕ) → bare (once b) ≡ true
unfolding bare once
bare_once b = refl

-- So does one that stands twice,
pub goes_twice : (b : ℕ) → goes (twice b) ≡ true
unfolding goes twice
goes_twice b = refl

-- which is bytes alone too.
pub bare_twice : (b : ℕ) → bare (twice b) ≡ true
unfolding bare twice
bare_twice b = refl

-- `*` goes on,
pub goes_times : goes times ≡ true
unfolding goes times
goes_times = refl

-- and so do `+` and `-`,
pub goes_plus_minus : goes plus_minus ≡ true
unfolding goes plus_minus
goes_plus_minus = refl

-- `&&`,
pub goes_and : goes and_and ≡ true
unfolding goes and_and
goes_and = refl

-- and `||`.
pub goes_or : goes or_or ≡ true
unfolding goes or_or
goes_or = refl

-- An operator that may begin here is bytes alone,
pub bare_operator_here : bare operator_here ≡ true
unfolding bare operator_here times plus_minus and_and or_or
bare_operator_here = refl

-- and so is one with the blanks around it.
pub bare_operator : bare operator ≡ true
unfolding bare operator times plus_minus and_and or_or blanks blank comment comment_turn line_comment line_turn
bare_operator = refl

-- ---- what may follow

-- The blanks before a suffix are bytes alone,
pub bare_suffixed : bare suffixed ≡ true
unfolding bare suffixed blanks blank comment comment_turn line_comment line_turn
bare_suffixed = refl

-- and so are a comma,
pub bare_comma : bare comma ≡ true
unfolding bare comma pass blanks blank comment comment_turn line_comment line_turn
bare_comma = refl

-- an attribute's `=`,
pub bare_assigned : bare assigned ≡ true
unfolding bare assigned expect need blanks blank comment comment_turn line_comment line_turn
bare_assigned = refl

-- and the blanks before an attribute.
pub bare_attribute_at : bare attribute_at ≡ true
unfolding bare attribute_at blanks blank comment comment_turn line_comment line_turn
bare_attribute_at = refl

-- ---- what must follow

-- A conditional's `:` goes on,
pub goes_parted : goes parted ≡ true
unfolding goes parted expect need blanks
goes_parted = refl

-- and is bytes alone.
pub bare_parted : bare parted ≡ true
unfolding bare parted expect need blanks blank comment comment_turn line_comment line_turn
bare_parted = refl

-- The dots of a spread go on,
pub goes_dots : goes dots_on ≡ true
unfolding goes dots_on dots need blanks
goes_dots = refl

-- and are bytes alone.
pub bare_dots : bare dots_on ≡ true
unfolding bare dots_on dots need blanks blank comment comment_turn line_comment line_turn
bare_dots = refl

-- The end of braces goes on,
pub goes_shut_braces : goes shut_braces ≡ true
unfolding goes shut_braces close_container expect need blanks
goes_shut_braces = refl

-- and is bytes alone.
pub bare_shut_braces : bare shut_braces ≡ true
unfolding bare shut_braces close_container expect need blanks blank comment comment_turn line_comment line_turn
bare_shut_braces = refl

-- `.name` goes on,
pub goes_dot_word : goes dot_word ≡ true
unfolding goes dot_word expect need blanks word
goes_dot_word = refl

-- and is bytes alone.
pub bare_dot_word : bare dot_word ≡ true
unfolding bare dot_word word expect need blanks blank comment comment_turn line_comment line_turn
bare_dot_word = refl

-- ---- children

-- A text goes on.
pub goes_text : goes text ≡ true
unfolding goes text
goes_text = refl

-- So do empty braces.
pub goes_empty_braces : goes empty_braces ≡ true
unfolding goes empty_braces expect need blanks
goes_empty_braces = refl
