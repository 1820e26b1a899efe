-- A slot's two words, and the seat that they say.
use mathlib.Core.Path.{◌≡◌, refl, ap, ◌∙◌}
use mathlib.Core.List.{List, [], ◌∷◌}
use Prim.Native.Nat.{ℕ, ◌+◌, ◌/◌, ◌%◌, ◌<◌, ◌^◌}
use native.Mathlib.Omega.{arith}
use lib.ListN.{set}
use lib.Seq.{sets}
use borrow.Author.Rules.{rules}
use mir.Syntax.{w32}
use mir.Val.{Fits}
use Rattle.table.specs.declared.Slot.{Slot}
use Rattle.table.specs.Slot.{level, seat, seat_inside, seat_behind}
use Rattle.table.specs.Contract.{Enterable, Words, Put, Stored}

-- The low half is the number,
pub low_half : (q : Slot) {n : ℕ} → n ≡ q.here % level → n ≡ (seat q).number
unfolding seat
low_half q e = e

-- and the high half is the depth.
pub high_half : (q : Slot) {n : ℕ} → n ≡ q.here / level → n ≡ (seat q).depth
unfolding seat
high_half q e = e

module _ (q : Slot) (h : q.here < 2 ^ 64) where
  -- One record on and one level deeper is a number that fits,
  pub inside_word : Enterable (seat q) → {x : ℕ} → x ≡ q.here → x + (level + 1) < 2 ^ 64
  unfolding seat
  inside_word e f = let a = e.small in let b = e.shallow in omega arith

  -- and so is m records on.
  pub behind_word : {m x y : ℕ} → (seat q).number + m < 2 ^ 32 → x ≡ q.here → y ≡ m → x + y < 2 ^ 64
  unfolding seat
  behind_word f a b = omega arith

-- One record on and one level deeper is the seat inside.
pub seat_inside_lem : (q r : Slot)
    → Enterable (seat q)
    → r.here ≡ q.here + (level + 1)
    → r.parent ≡ q.here % level
    → seat r ≡ seat_inside (seat q)
unfolding seat
seat_inside_lem q r e f g =
    let a = e.small in
    let n : r.here % level ≡ q.here % level + 1 = omega arith in
    let d : r.here / level ≡ q.here / level + 1 = omega arith in
    λ i. record { number = n i; parent = g i; depth = d i }

-- m records on is the seat behind them.
pub seat_behind_lem : (q r : Slot) (m : ℕ)
    → (seat q).number + m < 2 ^ 32
    → r.here ≡ q.here + m
    → r.parent ≡ q.parent
    → seat r ≡ seat_behind m (seat q)
unfolding seat
seat_behind_lem q r m e f g =
    let n : r.here % level ≡ q.here % level + m = omega arith in
    let d : r.here / level ≡ q.here / level = omega arith in
    λ i. record { number = n i; parent = g i; depth = d i }

-- ---- a row in the seat of a slot

module _ (q : Slot) {k a z x : ℕ} (m : ℕ) (w : Words (seat q) k a z x m) where
  -- The parent is a word,
  pub parent_word : {y : ℕ} → y ≡ q.parent → y < 2 ^ 32
  unfolding seat
  parent_word e = let h = w.3 in omega arith

  -- as a cast asks for it;
  pub parent_fits : Fits w32 q.parent
  parent_fits = let h = parent_word refl in omega arith

  -- the depth is,
  pub depth_word : {q₁ : Slot} {d y : ℕ} → d ≡ (seat q₁).depth → q₁ ≡ q → y ≡ d → y < 2 ^ 32
  depth_word e f g =
      let h = w.6 in
      let i = e ∙ ap (λ (q : Slot). (seat q).depth) f in
      omega arith

  module _ {q₁ : Slot} {j : ℕ} (n : j ≡ (seat q₁).number) (e : q₁ ≡ q) where
    at_number : j ≡ (seat q).number
    at_number = n ∙ ap (λ (q : Slot). (seat q).number) e

    -- and so is the first number past the row's records.
    pub after_word : {y b : ℕ} → y ≡ j → b ≡ m → y + (1 + b) < 2 ^ 32
    after_word f g = let h = w.4 in let i = at_number in omega arith

    -- A row is stored word by word;
    pub whole_stored : {d y : ℕ} {q₂ : Slot} {t t' : List ℕ}
        → y ≡ k
        → d ≡ (seat q₂).depth
        → q₂ ≡ q
        → t' ≡ set (set (set (set (set (set (set t 0 y) 1 a) 2 z) 3 q.parent) 4 (j + (1 + m))) 5 x) 6 d
        → Stored 0 (seat q) k a z x m t t'
    unfolding seat
    whole_stored {t = t} e₁ e₄ e₅ h =
        let after = ap (λ (n : ℕ). n + (1 + m)) at_number in
        let deep = e₄ ∙ ap (λ (q : Slot). (seat q).depth) e₅ in
        record {
          is = h
              ∙ (λ i. set (set (set (set (set (set (set t 0 (e₁ i)) 1 a) 2 z) 3 q.parent) 4 (after i)) 5 x) 6 (deep i));
          small = w.4;
        }

    -- or as three words, three and one, where it is not known whether they fit.
    pub row_stored : {t t₁ t₂ t₃ : List ℕ} {kind par g y d v : ℕ} {q₂ : Slot}
        → Put 0 (kind ∷ a ∷ z ∷ []) t t₁
        → Put 3 (par ∷ g ∷ y ∷ []) t₁ t₂
        → kind ≡ k
        → par ≡ q.parent
        → g ≡ j + (1 + m)
        → y ≡ x
        → d ≡ (seat q₂).depth
        → q₂ ≡ q
        → Put 6 (v ∷ []) t₂ t₃
        → v ≡ d
        → Stored 0 (seat q) k a z x m t t₃
    unfolding seat
    row_stored {t = t} h₁ h₂ e₀ e₁ e₂ e₃ e₄ e₅ h₃ e₆ =
        let after = e₂ ∙ ap (λ (n : ℕ). n + (1 + m)) at_number in
        let deep = e₆ ∙ e₄ ∙ ap (λ (q : Slot). (seat q).depth) e₅ in
        record {
          is = h₃.is
              ∙ (λ i. sets (h₂.is i) 6 (deep i ∷ []))
              ∙ (λ i. sets (sets (h₁.is i) 3 (e₁ i ∷ after i ∷ e₃ i ∷ [])) 6 ((seat q).depth ∷ []))
              ∙ (λ i. sets (sets (sets t 0 (e₀ i ∷ a ∷ z ∷ [])) 3 (q.parent ∷ ((seat q).number + (1 + m)) ∷ x ∷ [])) 6
              ((seat q).depth ∷ []));
          small = w.4;
        }

pub ruleset row_steps = (rules, parent_word, after_word, depth_word, row_stored)

pub ruleset seat_steps = (rules, low_half, high_half, inside_word, behind_word, seat_inside_lem, seat_behind_lem)
