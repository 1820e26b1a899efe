-- A place in a forest where a content stands, and another content put there.
use mathlib.Core.Path.{◌≡◌, refl, sym, ap}
use mathlib.Core.List.{List, ◌∷◌}
use Prim.Native.Nat.{ℕ, suc, ◌+◌, ◌≤◌}
use native.Mathlib.Omega.{arith}
use Rattle.rules.specs.Forest.{node, content, Forest, nil, byte, group, ◌⋈◌, width, direct, inside}
use Rattle.rules.specs.Record.{count}
pub use Rattle.rules.specs.Replaced.{Spot, arrived, under, past, skip}
unfoldable pub use Rattle.rules.specs.Replaced.{fill, bytes_before}

module _ {d : ℕ} {c₀ : Forest} where
  -- The content that stands there, put there, changes nothing.
  pub fill_same : {u : Forest} (ω : Spot d c₀ u) → fill ω c₀ ≡ u
  unfolding fill
  fill_same (arrived {l = l} {v = v} p q) = ap (λ (c : Forest). group l c v) (sym q)
  fill_same (under {l = l} {v = v} ω) = ap (λ (c : Forest). group l c v) (fill_same ω)
  fill_same (past {l = l} {c = c} ω) = ap (group l c) (fill_same ω)
  fill_same (skip {b = b} ω) = ap (byte b) (fill_same ω)

  -- A spot of one forest behind the other is in the one or in the other.
  pub data Side (u v : Forest) (ω : Spot d c₀ (u ⋈ v)) : Type 0 where
    left : (ω₁ : Spot d c₀ u)
        → ((c₁ : Forest) → fill ω c₁ ≡ fill ω₁ c₁ ⋈ v)
        → bytes_before ω ≡ bytes_before ω₁
        → Side u v ω
    right : (ω₂ : Spot d c₀ v)
        → ((c₁ : Forest) → fill ω c₁ ≡ u ⋈ fill ω₂ c₁)
        → bytes_before ω ≡ width u + bytes_before ω₂
        → Side u v ω

  -- One of the two holds.
  pub side : (u v : Forest) (ω : Spot d c₀ (u ⋈ v)) → Side u v ω
  unfolding ◌⋈◌ fill bytes_before width
  side nil v ω = right ω (λ c₁. refl) (omega arith)
  side (byte b u) v (skip ω) = go (side u v ω)
    where
      go : Side u v ω → Side (byte b u) v (skip ω)
      go (left ω₁ f s) = left (skip ω₁) (λ c₁. ap (byte b) (f c₁)) (ap suc s)
      go (right ω₂ f s) = right ω₂ (λ c₁. ap (byte b) (f c₁)) (omega arith)
  side (group l c u) v (arrived p q) = left (arrived p q) (λ c₁. refl) refl
  side (group l c u) v (under ω) = left (under ω) (λ c₁. refl) refl
  side (group l c u) v (past ω) = go (side u v ω)
    where
      go : Side u v ω → Side (group l c u) v (past ω)
      go (left ω₁ f s) = left (past ω₁) (λ c₁. ap (group l c) (f c₁)) (omega arith)
      go (right ω₂ f s) = right ω₂ (λ c₁. ap (group l c) (f c₁)) (omega arith)

  -- Nothing has no content in it.
  pub no_spot_nil : Spot d c₀ nil → ⊥
  no_spot_nil ω = elim ω [ ]

  -- A content ends before what it stands in ends.
  pub fits : {u : Forest} (ω : Spot d c₀ u) → bytes_before ω + width c₀ ≤ width u
  unfolding bytes_before width
  fits (arrived p q) = omega (arith, ap width q)
  fits (under ω) = omega (arith, fits ω)
  fits (past ω) = omega (arith, fits ω)
  fits (skip ω) = omega (arith, fits ω)

  -- The width changes by the difference of the contents' widths.
  pub width_fill : {u : Forest} (ω : Spot d c₀ u) (v : Forest) → width (fill ω v) + width c₀ ≡ width u + width v
  unfolding fill width
  width_fill (arrived p q) v = omega (arith, ap width q)
  width_fill (under ω) v = omega (arith, width_fill ω v)
  width_fill (past ω) v = omega (arith, width_fill ω v)
  width_fill (skip ω) v = omega (arith, width_fill ω v)

  -- And so does the count.
  pub count_fill : {u : Forest} (ω : Spot d c₀ u) (v : Forest) → count (fill ω v) + count c₀ ≡ count u + count v
  unfolding fill count
  count_fill (arrived {l = node k x} p q) v = omega (arith, ap count q)
  count_fill (arrived {l = content d'} p q) v = omega (arith, ap count q)
  count_fill (under {l = node k x} ω) v = omega (arith, count_fill ω v)
  count_fill (under {l = content d'} ω) v = omega (arith, count_fill ω v)
  count_fill (past {l = node k x} ω) v = omega (arith, count_fill ω v)
  count_fill (past {l = content d'} ω) v = omega (arith, count_fill ω v)
  count_fill (skip ω) v = count_fill ω v

  -- The bytes in no group stay.
  pub direct_fill : {u : Forest} (ω : Spot d c₀ u) (v : Forest) → direct (fill ω v) ≡ direct u
  unfolding fill direct
  direct_fill (arrived p q) v = refl
  direct_fill (under ω) v = refl
  direct_fill (past ω) v = direct_fill ω v
  direct_fill (skip {b = b} ω) v = ap (λ (w : List ℕ). b ∷ w) (direct_fill ω v)

  -- What is inside the first node stays, or has the spot in it.
  pub data Inside {u : Forest} (ω : Spot d c₀ u) : Type 0 where
    outer : ((v : Forest) → inside (fill ω v) ≡ inside u) → Inside ω
    inner : (ω' : Spot d c₀ (inside u)) → ((v : Forest) → inside (fill ω v) ≡ fill ω' v) → Inside ω

  -- One of the two holds.
  pub inside_fill : {u : Forest} (ω : Spot d c₀ u) → Inside ω
  unfolding fill inside
  inside_fill (arrived {l = node k x} p q) = let z : ◌≡◌ {A = ℕ} 0 1 = cc in absurd (omega arith)
  inside_fill (arrived {l = content d'} p q) = outer (λ v. refl)
  inside_fill (under {l = node k x} ω) = inner ω (λ v. refl)
  inside_fill (under {l = content d'} ω) = outer (λ v. refl)
  inside_fill (past {l = node k x} ω) = outer (λ v. refl)
  inside_fill (past {l = content d'} {c = c} ω) = go (inside_fill ω)
    where
      go : Inside ω → Inside (past {l = content d'} {c = c} ω)
      go (outer f) = outer f
      go (inner ω' f) = inner ω' f
  inside_fill (skip {b = b} ω) = go (inside_fill ω)
    where
      go : Inside ω → Inside (skip {b = b} ω)
      go (outer f) = outer f
      go (inner ω' f) = inner ω' f
