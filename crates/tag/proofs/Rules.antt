-- Rules that go on, and rules that read bytes alone.
use mathlib.Core.Path.{◌≡◌, refl}
use mathlib.Core.Bool.{true}
use Prim.Native.Char.{code}
use Prim.Native.Nat.{ℕ}
use Rattle.rules.specs.Rule.{Rule, when}
use Rattle.rules.proofs.Run.{goes}
use Rattle.rules.proofs.Moves.{moves}
use Rattle.jsx.specs.Byte.{is, need, expect}
use Rattle.jsx.specs.Blank.{blank, blanks, comment, comment_turn, line_comment, line_turn, pass}
use Rattle.jsx.specs.Text.{quoted, quoted_by, quoted_turn}
use Rattle.jsx.specs.Expression.{no_sibling, sibling}
use Rattle.jsx.specs.Name.{part, one_part, other_part, namespaced, object, member, element_name}
use Rattle.jsx.specs.Tag.{tag_end, close_name}
use Rattle.lex.specs.Contract.{expect_byte}
use Rattle.lex.proofs.Bare.{bare}
use Rattle.tag.specs.Token.{open_by, close_by, close_open}

-- A byte goes on.
pub goes_expect : (c : ℕ) → goes (expect_byte c) ≡ true
unfolding goes need
goes_expect c = refl

-- So do a byte and blanks,
pub goes_open : (c : ℕ) → goes (open_by c) ≡ true
unfolding goes open_by need blanks
goes_open c = refl

-- which are bytes alone,
pub bare_open : (c : ℕ) → bare (open_by c) ≡ true
unfolding bare open_by need blanks blank comment comment_turn line_comment line_turn
bare_open c = refl

-- and blanks and a byte,
pub goes_close : (c : ℕ) → goes (close_by c) ≡ true
unfolding goes close_by need blanks
goes_close c = refl

-- which are bytes alone too.
pub bare_close : (c : ℕ) → bare (close_by c) ≡ true
unfolding bare close_by need blanks blank comment comment_turn line_comment line_turn
bare_close c = refl

-- A tag's end is bytes alone. (It stops where the tag has no content.)
pub bare_end : bare tag_end ≡ true
unfolding bare tag_end pass expect need blanks blank comment comment_turn line_comment line_turn
bare_end = refl

-- What is behind an element that is no child goes on,
pub goes_sibling : (n : ℕ) → goes (no_sibling n) ≡ true
unfolding goes no_sibling sibling blanks
goes_sibling n = refl

-- and is bytes alone.
pub bare_sibling : (n : ℕ) → bare (no_sibling n) ≡ true
unfolding bare no_sibling sibling blanks blank comment comment_turn line_comment line_turn
bare_sibling n = refl

-- What is inside a quoted value.
abbrev pub in_quotes : Rule
in_quotes = when (is "'") (quoted_by "'") (quoted_by "\"")

-- A quoted value goes on;
pub goes_quoted : goes quoted ≡ true
unfolding goes quoted quoted_by
goes_quoted = refl

-- inside it are bytes alone.
pub bare_quoted : bare in_quotes ≡ true
unfolding bare quoted_by quoted_turn
bare_quoted = refl

-- What opens a closing tag goes on,
pub goes_close_open : goes close_open ≡ true
unfolding goes close_open
goes_close_open = rw (goes_open (code "<"), goes_open (code "/"))

-- and is bytes alone.
pub bare_close_open : bare close_open ≡ true
unfolding bare close_open
bare_close_open = rw (bare_open (code "<"), bare_open (code "/"))

-- An element's name goes on,
pub goes_element_name : goes element_name ≡ true
unfolding goes element_name namespaced other_part member object one_part part blanks expect need
goes_element_name = refl

-- and passes a byte.
pub moves_element_name : moves element_name ≡ true
unfolding moves element_name namespaced other_part member object one_part part blanks expect need
moves_element_name = refl

-- A closing tag's name goes on.
pub goes_close_name : goes close_name ≡ true
unfolding goes close_name
goes_close_name = goes_element_name
