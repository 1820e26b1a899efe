-- Tests of a byte: what each answer of the code follows from.
use mathlib.Core.Path.{◌≡◌, refl, sym, ap}
use mathlib.Core.Bool.{Bool, true, false}
use mathlib.Core.List.{List, [], ◌∷◌}
use mathlib.Core.Logic.{inl, inr}
use Prim.Native.Nat.{ℕ}
use Prim.Native.Char.{code}
use lib.Dec.{eqb}
use borrow.Author.Tests.{eq-eqb, ne_eqb}
use types.Run.{OneOf}
use Rattle.rules.specs.Rule.{Test}
use Rattle.rules.specs.Parse.{pick}
use Rattle.jsx.specs.Byte.{quote}
use Rattle.jsx.specs.Text.{in_text}
use Rattle.lex.proofs.Laws.{is_first, is_second}

-- ---- one of some bytes

unfoldable any : List ℕ → Test
any [] b = false
any (k ∷ []) b = eqb b k
any (k ∷ j ∷ ks) b = pick (eqb b k) true (any (j ∷ ks) b)

or_true : (x : Bool) {y : Bool} → y ≡ true → pick x true y ≡ true
or_true true e = refl
or_true false e = e

any_yes : (ks : List ℕ) (b : ℕ) → OneOf ks b → any ks b ≡ true
unfolding any
any_yes [] b h = absurd h
any_yes (k ∷ []) b h = eq-eqb b k h
any_yes (k ∷ j ∷ ks) b (inl h) = rw (eq-eqb b k h)
any_yes (k ∷ j ∷ ks) b (inr h) = or_true (eqb b k) (any_yes (j ∷ ks) b h)

any_no : (ks : List ℕ) (b : ℕ) → (OneOf ks b → ⊥) → any ks b ≡ false
unfolding any
any_no [] b h = refl
any_no (k ∷ []) b h = ne_eqb b k h
any_no (k ∷ j ∷ ks) b h = rw (ne_eqb b k (λ e. h (inl e))) (any_no (j ∷ ks) b (λ e. h (inr e)))

-- The quotes, and the bytes that end a text.
abbrev quotes : List ℕ
quotes = code "\"" ∷ code "'" ∷ []

abbrev stops : List ℕ
stops = code "<" ∷ code ">" ∷ code "{" ∷ code "}" ∷ 256 ∷ []

module _ {b : ℕ} where
  -- A quote.
  pub quote_is : OneOf quotes b → true ≡ quote b
  unfolding quote any
  quote_is h = sym (any_yes quotes b h)

  -- No quote.
  pub quote_not : (OneOf quotes b → ⊥) → false ≡ quote b
  unfolding quote any
  quote_not h = sym (any_no quotes b h)

  -- No byte of a text.
  pub text_not : OneOf stops b → false ≡ in_text b
  unfolding in_text any
  text_not h = ap (λ (x : Bool). pick x false true) (sym (any_yes stops b h))

  -- A byte of a text.
  pub text_is : (OneOf stops b → ⊥) → true ≡ in_text b
  unfolding in_text any
  text_is h = ap (λ (x : Bool). pick x false true) (sym (any_no stops b h))

pub ruleset test_steps = (is_first, is_second, quote_is, quote_not, text_not, text_is)
