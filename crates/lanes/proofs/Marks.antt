-- The first lane that is marked.
use mathlib.Core.Path.{◌≡◌, refl, sym, ap, ◌∙◌}
use mathlib.Core.Bool.{Bool, true, false}
use mathlib.Core.List.{List, [], ◌∷◌}
use Prim.Native.Nat.{ℕ, zero, suc, ◌+◌, ◌*◌, ◌/◌, ◌%◌}
use native.Mathlib.Omega.{arith}
use lib.ListN.{length}
use lib.Count.{count_trailing_zeros}
use Rattle.rules.specs.Rule.{Test}
use Rattle.rules.specs.Parse.{pick}
use Rattle.lanes.specs.Lanes.{spread}

-- ---- zeros below a mark

tz_even : (d n : ℕ) → count_trailing_zeros (suc d) (n * 2) ≡ suc (count_trailing_zeros d n)
unfolding count_trailing_zeros
tz_even d n =
    let e : n * 2 % 2 ≡ 0 = omega arith in
    let h : n * 2 / 2 ≡ n = omega arith in
    rw (e, h)

tz_odd : (d n : ℕ) → count_trailing_zeros (suc d) (n * 2 + 1) ≡ 0
unfolding count_trailing_zeros
tz_odd d n = let e : (n * 2 + 1) % 2 ≡ 1 = omega arith in rw e

-- k more binary digits.
unfoldable more : ℕ → ℕ → ℕ
more zero d = d
more (suc k) d = suc (more k d)

-- A number with k zeros behind it.
unfoldable doubled : ℕ → ℕ → ℕ
doubled zero a = a
doubled (suc k) a = doubled k a * 2

tz_more : (k d a : ℕ) → count_trailing_zeros (more k d) (doubled k a) ≡ more k (count_trailing_zeros d a)
unfolding more doubled
tz_more zero d a = refl
tz_more (suc k) d a = tz_even (more k d) (doubled k a) ∙ ap suc (tz_more k d a)

-- A lane that is 0.
tz_clear : (d a : ℕ) → count_trailing_zeros (more 8 d) (a * 256) ≡ more 8 (count_trailing_zeros d a)
unfolding doubled
tz_clear d a =
    let e : a * 256 ≡ doubled 8 a = omega arith in
    ap (count_trailing_zeros (more 8 d)) e ∙ tz_more 8 d a

-- A lane that is marked.
tz_mark : (d a : ℕ) → count_trailing_zeros (more 8 d) (a * 256 + 0x80) ≡ 7
unfolding more doubled
tz_mark d a =
    let e : a * 256 + 0x80 ≡ doubled 7 (a * 2 + 1) = omega arith in
    ap (count_trailing_zeros (more 8 d)) e
    ∙ tz_more 7 (suc d) (a * 2 + 1)
    ∙ ap (more 7) (tz_odd d a)

-- The digits of n lanes.
unfoldable digits : ℕ → ℕ
digits zero = 0
digits (suc n) = more 8 (digits n)

-- ---- the first byte that passes a test

-- How many bytes stand before it.
unfoldable pub before : Test → List ℕ → ℕ
before f [] = 0
before f (b ∷ bs) = pick (f b) 0 (suc (before f bs))

-- The marks of the bytes that pass it.
abbrev pub marks : Test → List ℕ → ℕ
marks f bs = spread (λ b. pick (f b) 0x80 0) bs

module _ (f : Test) where
  first_mark : (bs : List ℕ) → (marks f bs ≡ 0 → ⊥)
      → count_trailing_zeros (digits (length bs)) (marks f bs) / 8 ≡ before f bs
  unfolding spread before digits more
  first_mark [] z = absurd (z refl)
  first_mark (b ∷ bs) z = go (f b) z (first_mark bs)
    where
      M : ℕ
      M = marks f bs

      D : ℕ
      D = digits (length bs)

      go : (x : Bool) → (M * 256 + pick x 0x80 0 ≡ 0 → ⊥)
          → ((M ≡ 0 → ⊥) → count_trailing_zeros D M / 8 ≡ before f bs)
          → count_trailing_zeros (more 8 D) (M * 256 + pick x 0x80 0) / 8 ≡ pick x 0 (suc (before f bs))
      go true n r = ap (λ (t : ℕ). t / 8) (tz_mark D M)
      go false n r =
          let t = count_trailing_zeros D M in
          let e : M * 256 + 0 ≡ M * 256 = omega arith in
          let k : more 8 t / 8 ≡ suc (t / 8) = omega arith in
          ap (λ (x : ℕ). count_trailing_zeros (more 8 D) x / 8) e
          ∙ ap (λ (x : ℕ). x / 8) (tz_clear D M)
          ∙ k
          ∙ ap suc (r (λ y. n (omega arith)))

  -- Of eight bytes.
  pub first_of_eight : (bs : List ℕ) → length bs ≡ 8 → (marks f bs ≡ 0 → ⊥)
      → count_trailing_zeros 64 (marks f bs) / 8 ≡ before f bs
  unfolding digits more
  first_of_eight bs n z =
      ap (λ (d : ℕ). count_trailing_zeros (digits d) (marks f bs) / 8) (sym n) ∙ first_mark bs z
