-- What may be entered one level deeper always goes on: only a loop's own turn stops.
use mathlib.Core.Path.{◌≡◌, refl}
use mathlib.Core.Bool.{true}
use Prim.Native.Nat.{ℕ, zero, suc}
use Rattle.rules.proofs.Run.{goes}
use Rattle.jsx.specs.Kind as Kind
use Rattle.jsx.specs.Byte.{need, expect}
use Rattle.jsx.specs.Blank.{blanks, pass}
use Rattle.jsx.specs.Word.{word, primary_word, digits, whole, fraction, number, string_by, string}
use Rattle.jsx.specs.Expression.{Inner, sibling, no_sibling, primary, postfix, unary, joined, product, sum, both}
use Rattle.jsx.specs.Expression.{either, question, conditional, expression, paren_in, bracket_in, call_in, prefix_in}
use Rattle.jsx.specs.Expression.{choice_in}
use Rattle.jsx.specs.Braces.{close_container, container, empty_braces, dots, spread, child_braces_in}
use Rattle.jsx.specs.Braces.{empty_value_braces, value_braces_in}
use Rattle.jsx.specs.Element.{fragment_in, named_in, element_in}
use Rattle.jsx.specs.Depth.{element_too_deep, no_level, level, within}

-- All of them go on.
pub record InnerGoes (n : Inner) : Type 0 where
  pub element : goes n.element ≡ true
  pub child_braces : goes n.child_braces ≡ true
  pub value_braces : goes n.value_braces ≡ true
  pub spread_braces : goes n.spread_braces ≡ true
  pub paren : goes n.paren ≡ true
  pub bracket : goes n.bracket ≡ true
  pub call : goes n.call ≡ true
  pub prefix : goes n.prefix ≡ true
  pub choice : goes n.choice ≡ true

module _ (n : Inner) (h : InnerGoes n) where
  -- So does an operand,
  pub unary_goes : goes (unary n) ≡ true
  unfolding goes unary postfix primary no_sibling sibling blanks need primary_word word number whole fraction digits
      string string_by
  unary_goes = rw (h.prefix, h.element, h.paren)

  -- and a conditional.
  pub conditional_goes : goes (conditional n) ≡ true
  unfolding goes conditional question either both sum product joined blanks
  conditional_goes = rw (unary_goes, h.choice)

  expression_goes : goes (expression n) ≡ true
  unfolding goes expression
  expression_goes = conditional_goes

  spread_goes : (x : ℕ) → goes (spread x n) ≡ true
  unfolding goes spread dots pass blanks expect need
  spread_goes x = rw expression_goes

  container_goes : goes (container n) ≡ true
  unfolding goes container close_container pass blanks expect need
  container_goes = rw expression_goes

  level_goes : (d : ℕ) → InnerGoes (level d n)
  unfolding goes level element_in fragment_in named_in child_braces_in empty_braces value_braces_in empty_value_braces
      paren_in
      bracket_in call_in prefix_in choice_in pass blanks expect need
  level_goes d = record {
    element = refl;
    child_braces = rw (spread_goes Kind.spread_child, container_goes);
    value_braces = rw container_goes;
    spread_braces = spread_goes Kind.spread_attribute;
    paren = rw conditional_goes;
    bracket = rw conditional_goes;
    call = rw conditional_goes;
    prefix = rw unary_goes;
    choice = rw conditional_goes;
  }

none_goes : InnerGoes no_level
unfolding goes no_level element_too_deep pass blanks need
none_goes =
    record {
      element = refl;
      child_braces = refl;
      value_braces = refl;
      spread_braces = refl;
      paren = refl;
      bracket = refl;
      call = refl;
      prefix = refl;
      choice = refl;
    }

-- So it is at every depth.
pub within_goes : (d : ℕ) → InnerGoes (within d)
unfolding within
within_goes zero = none_goes
within_goes (suc d) = level_goes (within d) (within_goes d) d
