-- Characters for which no table is searched, and the two tables: what each answer follows from.
use mathlib.Core.Path.{◌≡◌, refl, sym, ap, ◌∙◌}
use mathlib.Core.Bool.{Bool, true, false}
use mathlib.Core.List.{List, [], ◌∷◌}
use Prim.Native.Nat.{ℕ, ◌≤◌}
use native.Mathlib.Omega.{arith}
use lib.Dec.{leb, ltb, eqb}
use borrow.Author.Tests.{leb-true, ltb-true, eqb-true, lt-ltb, lt-leb}
use Rattle.rules.specs.Parse.{pick}
use Rattle.rules.proofs.Run.{never, both}
use Rattle.jsx.specs.Byte.{◌‥◌}
use Rattle.jsx.specs.Ranges.{start_ranges, continue_ranges}
use Rattle.jsx.specs.Unicode.{in_ranges}
use Rattle.jsx.proofs.Unicode.{holds_range, in_range}
use Rattle.identifier.specs.Script.{greek, european, east_asian, common, gap}

-- A test that one of two holds, where each alone gives what is wanted.
either : {A : Type 0} (x y : Bool) → pick x true y ≡ true → (x ≡ true → A) → (y ≡ true → A) → A
either true y h f g = f refl
either false y h f g = g h

-- A range within one range of ID_Start.
in_start : (lo hi c : ℕ) → holds_range start_ranges lo hi ≡ true → (lo ‥ hi) c ≡ true → in_ranges start_ranges c ≡ true
in_start lo hi c h k =
    let b = both (leb lo c) (leb c hi) k in
    in_range start_ranges lo hi c h (leb-true lo c b.0) (leb-true c hi b.1)

-- A character of its own in ID_Start.
one_start : (k c : ℕ) → in_ranges start_ranges k ≡ true → eqb c k ≡ true → in_ranges start_ranges c ≡ true
one_start k c h e = ap (in_ranges start_ranges) (eqb-true c k e) ∙ h

module _ (c : ℕ) where
  greek_starts : greek c ≡ true → in_ranges start_ranges c ≡ true
  unfolding greek holds_range start_ranges
  greek_starts h = in_start 0x3A3 0x3F5 c refl h

  european_starts : european c ≡ true → in_ranges start_ranges c ≡ true
  unfolding european holds_range in_ranges start_ranges
  european_starts h =
      either ((0x38E ‥ 0x3A1) c) _ h (in_start 0x38E 0x3A1 c refl) (λ h.
      either ((0x388 ‥ 0x38A) c) _ h (in_start 0x388 0x38A c refl) (λ h.
      either (eqb c 0x386) _ h (one_start 0x386 c refl) (λ h.
      either (eqb c 0x38C) _ h (one_start 0x38C c refl) (λ h.
      either ((0xF8 ‥ 0x2C1) c) _ h (in_start 0xF8 0x2C1 c refl) (λ h.
      either ((0xD8 ‥ 0xF6) c) _ h (in_start 0xD8 0xF6 c refl) (λ h.
      either ((0xC0 ‥ 0xD6) c) _ h (in_start 0xC0 0xD6 c refl) (λ h.
      either ((0x3F7 ‥ 0x481) c) _ h (in_start 0x3F7 0x481 c refl) (in_start 0x48A 0x52F c refl))))))))

  east_asian_starts : east_asian c ≡ true → in_ranges start_ranges c ≡ true
  unfolding east_asian holds_range start_ranges
  east_asian_starts h =
      either ((0xAC00 ‥ 0xD7A3) c) _ h (in_start 0xAC00 0xD7A3 c refl) (λ h.
      either ((0x4E00 ‥ 0xA48C) c) _ h (in_start 0x4E00 0xA48C c refl) (λ h.
      either ((0x3041 ‥ 0x3096) c) _ h (in_start 0x3041 0x3096 c refl) (in_start 0x30A1 0x30FA c refl)))

  -- A letter of a common script is in ID_Start.
  pub common_starts : common c ≡ true → in_ranges start_ranges c ≡ true
  unfolding common
  common_starts h =
      either (greek c) _ h greek_starts (λ h. either (east_asian c) (european c) h east_asian_starts european_starts)

-- ---- between names

-- Whether no range of the table meets those from lo to hi.
unfoldable clears : List ℕ → (lo hi : ℕ) → Bool
clears [] lo hi = true
clears (a ∷ []) lo hi = true
clears (a ∷ z ∷ rest) lo hi = pick (ltb hi a) true (pick (ltb z lo) (clears rest lo hi) false)

cleared : (t : List ℕ) (lo hi c : ℕ) → clears t lo hi ≡ true → lo ≤ c → c ≤ hi → in_ranges t c ≡ false
unfolding clears in_ranges
cleared [] lo hi c h l u = refl
cleared (a ∷ []) lo hi c h l u = refl
cleared (a ∷ z ∷ rest) lo hi c h l u = go (ltb hi a) refl (ltb z lo) refl h (λ k. cleared rest lo hi c k l u)
  where
    go : (x : Bool) → ltb hi a ≡ x → (y : Bool) → ltb z lo ≡ y
        → pick x true (pick y (clears rest lo hi) false) ≡ true
        → (clears rest lo hi ≡ true → in_ranges rest c ≡ false)
        → pick (ltb c a) false (pick (leb c z) true (in_ranges rest c)) ≡ false
    go true e y f k ih = let i = ltb-true hi a e in rw (lt-ltb c a (omega arith))
    go false e true f k ih =
        let i = ltb-true z lo f in
        rw (lt-leb c z (omega arith), ih k) (same (ltb c a))
      where
        same : (b : Bool) → pick b false false ≡ false
        same true = refl
        same false = refl
    go false e false f k ih = never k

in_gap : (lo hi c : ℕ) → clears continue_ranges lo hi ≡ true → (lo ‥ hi) c ≡ true → in_ranges continue_ranges c ≡ false
in_gap lo hi c h k =
    let b = both (leb lo c) (leb c hi) k in
    cleared continue_ranges lo hi c h (leb-true lo c b.0) (leb-true c hi b.1)

-- What stands between names is not in ID_Continue.
pub gap_continues_none : (c : ℕ) → gap c ≡ true → in_ranges continue_ranges c ≡ false
unfolding gap clears continue_ranges
gap_continues_none c h =
    either ((0x80 ‥ 0xA9) c) _ h (in_gap 0x80 0xA9 c refl) (λ h.
    either ((0x2000 ‥ 0x200B) c) _ h (in_gap 0x2000 0x200B c refl) (λ h.
    either ((0x200E ‥ 0x203E) c) _ h (in_gap 0x200E 0x203E c refl) (λ h.
    either ((0x2E00 ‥ 0x3004) c) _ h (in_gap 0x2E00 0x3004 c refl) (in_gap 0xFEFD 0xFF0F c refl))))

-- ---- the answers

-- A letter of a common script begins a name.
pub start_common : (c : ℕ) {t : Bool} → t ≡ common c → t ≡ true → t ≡ in_ranges start_ranges c
start_common c i x = x ∙ sym (common_starts c (sym i ∙ x))
