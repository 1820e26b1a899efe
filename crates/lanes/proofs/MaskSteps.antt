-- The masks: which lanes they mark.
use mathlib.Core.Path.{◌≡◌, refl, ap, ◌∙◌}
use mathlib.Core.Bool.{Bool, true, false}
use Prim.Native.Nat.{ℕ, ◌+◌, ◌*◌, ◌^◌, ◌<◌}
use native.Mathlib.Omega.{arith}
use lib.Dec.{eqb, lit<}
use lib.Bits.{bit_and, bit_or, bit_xor, and_le_l, and_le_r, or_lt, xor_lt, xor_self, xor_add_and}
use borrow.Author.Tests.{eqb-true, eqb-false, eq-eqb, ne_eqb}
use Rattle.rules.specs.Rule.{Test}
use Rattle.rules.specs.Parse.{pick}
use Rattle.lex.proofs.Ranges.{each}
use Rattle.lanes.specs.Lanes.{Marked, Cleared, beyond, only, any_of}
use Rattle.lanes.proofs.Spread.{Small, all_same_lem}
use Rattle.lanes.proofs.Spread.{lanes_self, lanes_copies, lanes_change, lanes_lanes}
use Rattle.lanes.proofs.Spread.{lanes_and, lanes_or, lanes_xor, lanes_sum}

-- ---- bytes beyond ASCII

pub beyond_marked : (w : ℕ) → Marked beyond w (bit_and w 0x8080808080808080)
unfolding each
beyond_marked w =
    let a = lanes_and (λ b k. k) (λ b k. lit< tt) (lanes_self w) (lanes_copies 0x80 w) in
    record { lanes = lanes_change (all_same_lem (λ b. bit_and b 0x80) (λ b. pick (beyond b) 0x80 0) refl) a }

-- ---- lanes that are 0

-- The sum is a word.
pub zeros_fit : (x : ℕ) → bit_and x 0x7F7F7F7F7F7F7F7F + 0x7F7F7F7F7F7F7F7F < 2 ^ 64
zeros_fit x = let l = and_le_r x 0x7F7F7F7F7F7F7F7F in omega arith

pub zeros_cleared : (x : ℕ)
    → Cleared (only 0) x (bit_or (bit_or (bit_and x 0x7F7F7F7F7F7F7F7F + 0x7F7F7F7F7F7F7F7F) x) 0x7F7F7F7F7F7F7F7F)
unfolding each
zeros_cleared x =
    let low : (b : ℕ) → bit_and b 0x7F + 0x7F < 256 = λ b. let l = and_le_r b 0x7F in omega arith in
    let ones = lanes_copies 0x7F x in
    let a = lanes_and (λ b k. k) (λ b k. lit< tt) (lanes_self x) ones in
    let b = lanes_sum (λ b k. let l = low b in omega arith) (λ b k. lit< tt) a ones in
    let c = lanes_or (λ b k. low b) (λ b k. k) b (lanes_self x) in
    let d = lanes_or (λ b k. or_lt 8 (bit_and b 0x7F + 0x7F) b (low b) k) (λ b k. lit< tt) c ones in
    let e = all_same_lem (λ b. bit_or (bit_or (bit_and b 0x7F + 0x7F) b) 0x7F) (λ b. pick (eqb b 0) 0x7F 0xFF) refl in
    record { lanes = lanes_change e d }

-- ---- lanes whose byte is a

-- Two numbers are the same just if no bit differs.
xor_zero : (a b : ℕ) → eqb (bit_xor b a) 0 ≡ eqb b a
xor_zero a b = go (eqb b a) refl
  where
    go : (x : Bool) → eqb b a ≡ x → eqb (bit_xor b a) 0 ≡ x
    go true e = eq-eqb (bit_xor b a) 0 (ap (λ (x : ℕ). bit_xor x a) (eqb-true b a e) ∙ xor_self a)
    go false e =
        ne_eqb (bit_xor b a) 0
        (λ z. eqb-false b a e
        (let f = xor_add_and b a in
        let l = and_le_l b a in
        let r = and_le_r b a in
        omega arith))

pub equal_cleared : (a w : ℕ) {b r : ℕ} → a < 256 → b ≡ a
    → Cleared (only 0) (bit_xor w (b * 0x0101010101010101)) r → Cleared (only a) w r
equal_cleared a w {b} {r} i e m =
    let l : Cleared (only 0) (bit_xor w (a * 0x0101010101010101)) r = rw e at m in
    let x = lanes_xor (λ b k. k) (λ b k. i) (lanes_self w) (lanes_copies a w) in
    record {
      lanes = lanes_change (λ b k. ap (λ (x : Bool). pick x 0x7F 0xFF) (xor_zero a b))
          (lanes_lanes (λ b k. xor_lt 8 b a k i) x l.lanes);
    }

-- ---- cleared lanes turned round, and marks together

small : (f : Test) → Small (λ b. pick (f b) 0x7F 0xFF)
small f b k = go (f b)
  where
    go : (x : Bool) → pick x 0x7F 0xFF < 256
    go true = lit< tt
    go false = lit< tt

module _ {f : Test} {w u : ℕ} (l : Cleared f w u) where
  -- The lanes that are cleared are marked.
  pub cleared_marked : Marked f w (bit_xor u 0xFFFFFFFFFFFFFFFF)
  cleared_marked = record {
    lanes = lanes_change (λ b k. go (f b)) (lanes_xor (small f) (λ b k. lit< tt) l.lanes (lanes_copies 0xFF w));
  }
    where
      go : (x : Bool) → bit_xor (pick x 0x7F 0xFF) 0xFF ≡ pick x 0x80 0
      go true = refl
      go false = refl

-- Marks together.
pub both_marked : {f g : Test} {w u v : ℕ} → Marked f w u → Marked g w v
    → Marked (λ b. pick (f b) true (g b)) w (bit_or u v)
both_marked {f} {g} l m = record {
  lanes = lanes_change (λ b k. go (f b) (g b)) (lanes_or (small_mark f) (small_mark g) l.lanes m.lanes);
}
  where
    small_mark : (h : Test) → Small (λ b. pick (h b) 0x80 0)
    small_mark h b k = bound (h b)
      where
        bound : (x : Bool) → pick x 0x80 0 < 256
        bound true = lit< tt
        bound false = lit< tt

    go : (x y : Bool) → bit_or (pick x 0x80 0) (pick y 0x80 0) ≡ pick (pick x true y) 0x80 0
    go true true = refl
    go true false = refl
    go false true = refl
    go false false = refl

-- One of four bytes.
pub any_marked : (a b c d : ℕ) {w r₁ r₂ r₃ r₄ : ℕ}
    → Marked (only a) w r₁ → Marked (only b) w r₂ → Marked (only c) w r₃ → Marked (only d) w r₄
    → Marked (any_of a b c d) w (bit_or (bit_or (bit_or r₁ r₂) r₃) r₄)
any_marked a b c d u v x y =
    let m = both_marked (both_marked (both_marked u v) x) y in
    record { lanes = lanes_change (λ n k. go (only a n) (only b n) (only c n) (only d n)) m.lanes }
  where
    mark : Bool → ℕ
    mark x = pick x 0x80 0

    go : (p q r s : Bool) → mark (pick (pick (pick p true q) true r) true s)
        ≡ mark (pick p true (pick q true (pick r true s)))
    go true q r s = refl
    go false true r s = refl
    go false false true s = refl
    go false false false s = refl

pub ruleset mask_steps = (beyond_marked, zeros_cleared, equal_cleared, cleared_marked, any_marked)
