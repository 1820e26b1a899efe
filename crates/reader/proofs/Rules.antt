-- Rules that go on, and rules that read bytes alone: those of the definition that a reader reads, and the pieces of
-- them.
use mathlib.Core.Path.{◌≡◌, refl}
use mathlib.Core.Bool.{true}
use Prim.Native.Nat.{ℕ, zero, suc}
use Rattle.rules.proofs.Run.{goes}
use Rattle.jsx.specs.Byte.{need, expect}
use Rattle.jsx.specs.Blank.{blanks, pass}
use Rattle.jsx.specs.Name.{part, other_part, namespaced, attribute_name}
use Rattle.jsx.specs.Text.{quoted, quoted_by}
use Rattle.jsx.specs.Word.{word, primary_word, number, whole, fraction, digits, string, string_by, string_turn}
use Rattle.jsx.specs.Expression.{Inner, no_sibling, sibling, primary, unary, either, both, sum}
use Rattle.jsx.specs.Expression.{product, joined, question, conditional, expression}
use Rattle.jsx.specs.Braces.{dots, close_container, container, spread}
use Rattle.jsx.specs.Tag.{value, initializer, named_attribute, attribute, attributes}
use Rattle.jsx.specs.Element.{children}
use Rattle.jsx.specs.Depth.{within}
use Rattle.jsx.proofs.Goes.{InnerGoes, unary_goes, conditional_goes, within_goes}
use Rattle.lex.specs.Contract.{expect_byte}
use Rattle.lex.proofs.Bare.{bare}
use Rattle.tag.specs.Token.{close_by}
use Rattle.token.proofs.Rules.{goes_dots, goes_shut_braces}
use Rattle.token.specs.Token.{parted, dot_word}
use Rattle.reader.specs.Cut.{group_by, arguments, tail_of, arms_of, in_container, in_spread, in_attribute}

-- ---- bytes alone

-- A name that is a primary is bytes alone,
pub bare_primary_word : bare primary_word ≡ true
unfolding bare primary_word word need
bare_primary_word = refl

-- so is a number,
pub bare_number : bare number ≡ true
unfolding bare number whole fraction digits
bare_number = refl

-- and a string.
pub bare_string : bare string ≡ true
unfolding bare string string_by string_turn
bare_string = refl

-- So is a byte.
pub bare_expect : (c : ℕ) → bare (expect_byte c) ≡ true
unfolding bare need
bare_expect c = refl

-- So is what refuses.
pub bare_need : bare need ≡ true
unfolding bare need
bare_need = refl

-- ---- rules that go on, with whatever may be entered

-- An attribute's name goes on.
pub goes_attribute_name : goes attribute_name ≡ true
unfolding goes attribute_name namespaced other_part part blanks expect need
goes_attribute_name = refl

module _ (d : ℕ) where
  abbrev n : Inner
  n = within d

  abbrev h : InnerGoes (within d)
  h = within_goes d

  -- A unary goes on,
  pub goes_unary : goes (unary (within d)) ≡ true
  goes_unary = unary_goes n h

  -- a conditional,
  pub goes_cond : goes (conditional (within d)) ≡ true
  goes_cond = conditional_goes n h

  -- a primary,
  pub goes_primary : goes (primary (within d)) ≡ true
  unfolding goes primary primary_word word number whole fraction digits string string_by need
  goes_primary = rw h.paren

  -- an either,
  pub goes_either : goes (either (within d)) ≡ true
  unfolding goes either both sum product joined
  goes_either = rw goes_unary

  -- what stands behind a `?`,
  pub goes_question : goes (question (within d)) ≡ true
  unfolding goes question
  goes_question = rw h.choice

  -- an expression,
  pub goes_expression : goes (expression (within d)) ≡ true
  unfolding goes expression
  goes_expression = goes_cond

  -- a group,
  pub goes_group : (c : ℕ) → goes (group_by c d) ≡ true
  unfolding goes group_by close_by pass blanks need
  goes_group c = go d
    where
      go : (x : ℕ) → goes (group_by c x) ≡ true
      go zero = refl
      go (suc x) = rw (conditional_goes (within x) (within_goes x))

  -- the inside of a call,
  pub goes_arguments : goes (arguments (within d)) ≡ true
  unfolding goes arguments expect need
  goes_arguments = rw goes_cond

  -- what stands behind a primary,
  pub goes_tail : goes (tail_of (within d)) ≡ true
  unfolding goes tail_of dot_word expect need word blanks
  goes_tail = rw (h.bracket, h.call)

  -- the arms of a choice,
  pub goes_arms : goes (arms_of (within d)) ≡ true
  unfolding goes arms_of parted expect need blanks
  goes_arms = rw goes_cond

  -- the inside of `{expression}`,
  pub goes_in_container : goes (in_container (within d)) ≡ true
  unfolding goes in_container
  goes_in_container = rw (goes_expression, goes_shut_braces)

  -- and of `{...expression}`,
  pub goes_in_spread : goes (in_spread (within d)) ≡ true
  unfolding goes in_spread close_by need blanks
  goes_in_spread = rw (goes_dots, goes_expression)

  -- `{expression}` itself,
  pub goes_container : goes (container (within d)) ≡ true
  unfolding goes container close_container pass blanks expect need
  goes_container = rw goes_expression

  -- and `{...expression}`,
  pub goes_spread : (x : ℕ) → goes (spread x (within d)) ≡ true
  unfolding goes spread dots pass blanks expect need
  goes_spread x = rw goes_expression

  -- an attribute's value,
  pub goes_value : goes (value (within d)) ≡ true
  unfolding goes value quoted quoted_by no_sibling sibling blanks need
  goes_value = rw (h.value_braces, h.element)

  -- its inside,
  pub goes_in_attribute : goes (in_attribute (within d)) ≡ true
  unfolding goes in_attribute initializer blanks expect need
  goes_in_attribute = rw (goes_attribute_name, goes_value)

  -- an attribute,
  pub goes_attribute : goes (attribute (within d)) ≡ true
  unfolding goes attribute named_attribute initializer blanks expect need
  goes_attribute = rw (h.spread_braces, goes_attribute_name, goes_value)

  -- attributes,
  pub goes_attributes : goes (attributes (within d)) ≡ true
  unfolding goes attributes
  goes_attributes = refl

  -- children,
  pub goes_children : goes (children (within d)) ≡ true
  unfolding goes children
  goes_children = refl

  -- and an element that is no child.
  pub goes_lone : (x : ℕ) → goes (Rattle.rules.specs.Rule.seq (within d).element (no_sibling x)) ≡ true
  unfolding goes no_sibling sibling blanks
  goes_lone x = rw h.element
