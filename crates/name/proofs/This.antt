-- Whether bytes of an input are `this`.
use mathlib.Core.Path.{◌≡◌, refl, sym, ap, ◌∙◌}
use mathlib.Core.Bool.{Bool, true, false}
use mathlib.Core.List.{List, [], ◌∷◌}
use Prim.Native.Nat.{ℕ, ◌+◌, ◌-◌}
use native.Mathlib.Omega.{arith}
use lib.Dec.{eqb}
use borrow.Author.Rules.{rules}
use Rattle.rules.specs.Parse.{pick, byte_at, opens}
use Rattle.jsx.specs.Name.{same, is_this}
use Rattle.lex.proofs.SameBytes.{length_part, same_lengths}
use Rattle.lex.specs.Contract.{bytes_from}

-- Other than four bytes are not `this`.
pub this_other : (s : List ℕ) (a n : ℕ) → (n ≡ 4 → ⊥) → is_this (bytes_from s a n) ≡ false
unfolding is_this
this_other s a n h = same_lengths (bytes_from s a n) (116 ∷ 104 ∷ 105 ∷ 115 ∷ []) (λ e. h (sym (length_part s a n) ∙ e))

-- Four bytes are `this` if the first two and the last two are.
pub this_is : (s : List ℕ) (a : ℕ)
    → is_this (bytes_from s a 4) ≡ pick (opens s (116 ∷ 104 ∷ []) a) (opens s (105 ∷ 115 ∷ []) (a + 2)) false
unfolding is_this same bytes_from opens
this_is s a =
    ap (λ (n : ℕ). pick (eqb (byte_at s a) 116) (pick (eqb (byte_at s (a + 1)) 104)
    (pick (eqb (byte_at s n) 105) (pick (eqb (byte_at s (n + 1)) 115) true false) false) false) false) two
    ∙ by (eqb (byte_at s a) 116) (eqb (byte_at s (a + 1)) 104) _
  where
    two : a + 1 + 1 ≡ a + 2
    two = omega arith

    by : (x y z : Bool) → pick x (pick y z false) false ≡ pick (pick x (pick y true false) false) z false
    by true true z = refl
    by true false z = refl
    by false y z = refl

-- The bytes from a to b are not `this` if they are not four.
pub this_long : (s : List ℕ) (a b : ℕ) → (b - a ≡ 4 → ⊥) → false ≡ is_this (bytes_from s a (b - a))
this_long s a b h = sym (this_other s a (b - a) h)

module _ (s : List ℕ) (a b : ℕ) (n : b - a ≡ 4) {x : Bool} (h : x ≡ opens s (116 ∷ 104 ∷ []) a) where
  by_first : {y : Bool} → x ≡ y → is_this (bytes_from s a (b - a)) ≡ pick y (opens s (105 ∷ 115 ∷ []) (a + 2)) false
  by_first e =
      ap (λ (m : ℕ). is_this (bytes_from s a m)) n
      ∙ this_is s a
      ∙ ap (λ (y : Bool). pick y (opens s (105 ∷ 115 ∷ []) (a + 2)) false) (sym h ∙ e)

  -- Four bytes that begin with `th` are `this` just if `is` stands behind that.
  pub this_told : {y : Bool} → x ≡ true → y ≡ opens s (105 ∷ 115 ∷ []) (a + 2) → y ≡ is_this (bytes_from s a (b - a))
  this_told e k = k ∙ sym (by_first e)

  -- Four bytes that do not begin with `th` are not `this`.
  pub this_not_begun : x ≡ false → false ≡ is_this (bytes_from s a (b - a))
  this_not_begun e = sym (by_first e)

pub ruleset this_steps = (rules, this_long, this_told, this_not_begun)
