-- A table of ranges that is searched: what its answer follows from.
use mathlib.Core.Path.{◌≡◌, refl, sym, ap, ◌∙◌}
use mathlib.Core.Bool.{Bool, true, false}
use mathlib.Core.List.{List, [], ◌∷◌}
use Prim.Native.Nat.{ℕ, zero, suc, ◌+◌, ◌*◌, ◌≤◌, ◌<◌}
use native.Mathlib.Omega.{arith}
use native.Mathlib.Decide.{dec_lt}
use lib.ListN.{length, get_or}
use lib.Dec.{leb, ltb}
use borrow.Author.Tests.{lt-ltb, le-ltb, le-leb, lt-leb, ltb-true, ltb-false}
use Rattle.std.specs.Prelude.{Result, Ok, Err, is_ok}
use Rattle.std.specs.Ordering.{ordering_index}
use Rattle.std.specs.List.Sorted.{IsBinarySearchResult, IsSearchInRange, IsPartitionPoint}
use Rattle.std.specs.declared.cmp.Ordering.{Ordering}
use Rattle.std.specs.declared.cmp.Ordering.TheVariants.{Less, Equal, Greater}
use Rattle.rules.specs.Parse.{pick}
use Rattle.jsx.specs.Unicode.{in_ranges, first_of, last_of, ordered_from, Ordered}
use Rattle.jsx.proofs.Unicode.{first_more, last_more, is_ordered}
use Rattle.identifier.specs.Table.{flat}

-- ---- what decides

-- A code that stands in no range is not in the table.
in_none : (r : List ℕ) (c : ℕ)
    → ((i : ℕ) → 2 * i + 1 < length r → (first_of r i ≤ c → c ≤ last_of r i → ⊥))
    → in_ranges r c ≡ false
unfolding in_ranges
in_none [] c h = refl
in_none (lo ∷ []) c h = refl
in_none (lo ∷ hi ∷ more) c h =
    go (dec_lt c lo) (dec_lt hi c)
    (in_none more c (λ i l f g. h (suc i) (omega arith) (omega (arith, first_more lo hi more i))
    (omega (arith, last_more lo hi more i))))
  where
    go : Dec (c < lo) → Dec (hi < c) → in_ranges more c ≡ false
        → pick (ltb c lo) false (pick (leb c hi) true (in_ranges more c)) ≡ false
    go (yes k) x rest = rw (lt-ltb c lo k)
    go (no k) (yes l) rest = rw (le-ltb c lo (omega arith), lt-leb c hi l) rest
    go (no k) (no l) rest = absurd (h 0 (omega arith) (omega arith) (omega arith))

-- A code in one range, and not before any range in front of it, is in the table.
in_one : (r : List ℕ) (c m : ℕ)
    → 2 * m + 1 < length r
    → ((i : ℕ) → i ≤ m → first_of r i ≤ c)
    → c ≤ last_of r m
    → in_ranges r c ≡ true
unfolding in_ranges
in_one [] c m l f g = absurd (omega arith)
in_one (lo ∷ []) c m l f g = absurd (omega arith)
in_one (lo ∷ hi ∷ more) c zero l f g =
    let k = f 0 (omega arith) in
    rw (le-ltb c lo k, le-leb c hi g)
in_one (lo ∷ hi ∷ more) c (suc m) l f g =
    let k = f 0 (omega arith) in
    let rest =
    in_one more c m (omega arith)
    (λ i k. let z = f (suc i) (omega arith) in omega (arith, z, first_more lo hi more i))
    (omega (arith, g, last_more lo hi more m)) in
    rw (le-ltb c lo k, rest) (go (leb c hi))
  where
    go : (b : Bool) → pick b true true ≡ true
    go true = refl
    go false = refl

-- ---- the search

-- On which side of a code a range stands.
abbrev pub side : ℕ → ℕ × ℕ → Ordering
side c range = pick (ltb c range.0) Greater (pick (ltb range.1 c) Less Equal)

module _ (c : ℕ) (x : ℕ × ℕ) where
  by_side : (P : Ordering → Type 0) → (c < x.0 → P Greater) → (x.1 < c → P Less) → (x.0 ≤ c → c ≤ x.1 → P Equal)
      → P (side c x)
  by_side P behind before within = by (ltb c x.0) refl (ltb x.1 c) refl
    where
      by : (a : Bool) → ltb c x.0 ≡ a → (b : Bool) → ltb x.1 c ≡ b → P (pick a Greater (pick b Less Equal))
      by true e b f = behind (ltb-true _ _ e)
      by false e true f = before (ltb-true _ _ f)
      by false e false f = within (ltb-false _ _ e) (ltb-false _ _ f)

  side_equal : side c x ≡ Equal → (x.0 ≤ c) × (c ≤ x.1)
  side_equal = by_side (λ o. o ≡ Equal → (x.0 ≤ c) × (c ≤ x.1)) (λ h e. cc) (λ h e. cc) (λ h k e. (h, k))

  side_less : side c x ≡ Less → x.1 < c
  side_less = by_side (λ o. o ≡ Less → x.1 < c) (λ h e. cc) (λ h e. h) (λ h k e. cc)

  side_greater : side c x ≡ Greater → c < x.0
  side_greater = by_side (λ o. o ≡ Greater → c < x.0) (λ h e. h) (λ h e. cc) (λ h k e. cc)

length_flat : (xs : List (ℕ × ℕ)) → length (flat xs) ≡ 2 * length xs
length_flat [] = refl
length_flat (x ∷ xs) = let e = length_flat xs in omega arith

first_flat : (xs : List (ℕ × ℕ)) (i : ℕ) (d : ℕ × ℕ) → i < length xs → first_of (flat xs) i ≡ (get_or xs i d).0
first_flat [] i d l = absurd (omega arith)
first_flat (x ∷ xs) zero d l = refl
first_flat (x ∷ xs) (suc i) d l = first_more x.0 x.1 (flat xs) i ∙ first_flat xs i d (omega arith)

last_flat : (xs : List (ℕ × ℕ)) (i : ℕ) (d : ℕ × ℕ) → i < length xs → last_of (flat xs) i ≡ (get_or xs i d).1
last_flat [] i d l = absurd (omega arith)
last_flat (x ∷ xs) zero d l = refl
last_flat (x ∷ xs) (suc i) d l = last_more x.0 x.1 (flat xs) i ∙ last_flat xs i d (omega arith)

module _ (xs : List (ℕ × ℕ)) (c : ℕ) (passes : ordered_from 0x80 (flat xs) ≡ true) where
  o : Ordered (flat xs)
  o = is_ordered 0x80 (flat xs) passes

  -- A range does not end before it begins,
  range : (i : ℕ) (d : ℕ × ℕ) → i < length xs → (get_or xs i d).0 ≤ (get_or xs i d).1
  range i d l =
      let n = length_flat xs in
      let e = first_flat xs i d l in
      let f = last_flat xs i d l in
      let h = o.each i (omega arith) in
      omega arith

  -- and ends before the next one begins.
  apart : (i j : ℕ) (d : ℕ × ℕ) → i < j → j < length xs → (get_or xs i d).1 < (get_or xs j d).0
  apart i j d k l =
      let n = length_flat xs in
      let e = first_flat xs j d l in
      let f = last_flat xs i d (omega arith) in
      let h = o.apart i j k (omega arith) in
      omega arith

  -- So ranges before the code come first, and those behind it last.
  rising : (i j : ℕ) (d : ℕ × ℕ) → i ≤ j → j < length xs
      → ordering_index (side c (get_or xs i d)) ≤ ordering_index (side c (get_or xs j d))
  rising i j d k l = by (dec_lt i j)
    where
      x : ℕ × ℕ
      x = get_or xs i d

      y : ℕ × ℕ
      y = get_or xs j d

      small : ordering_index (side c x) ≤ 2
      small = by_side c x (λ s. ordering_index s ≤ 2) (λ h. omega arith) (λ h. omega arith) (λ h m. omega arith)

      least : x.0 ≤ x.1 → x.1 < c → ordering_index (side c x) ≤ 0
      least r h =
          by_side c x (λ s. ordering_index s ≤ 0) (λ m. absurd (omega arith)) (λ m. omega arith)
          (λ m n. absurd (omega arith))

      by : Dec (i < j) → ordering_index (side c x) ≤ ordering_index (side c y)
      by (no n) =
          let e : i ≡ j = omega arith in
          let f = ap (λ (m : ℕ). ordering_index (side c (get_or xs m d))) e in
          omega (arith, f)
      by (yes m) =
          let r = range i d (omega arith) in
          let a = apart i j d m l in
          let q = range j d l in
          by_side c y (λ s. ordering_index (side c x) ≤ ordering_index s) (λ h. small)
          (λ h. let z = least r (omega arith) in omega (arith, z))
          (λ h n. let z = least r (omega arith) in omega (arith, z))

  pub searched : (r : Result ℕ ℕ) → IsSearchInRange r (length xs) → IsBinarySearchResult (side c) xs r
      → is_ok r ≡ in_ranges (flat xs) c
  searched (Ok m) b s =
      let n = length_flat xs in
      let h = side_equal c (get_or xs m (0, 0)) (s (0, 0)) in
      let f = last_flat xs m (0, 0) b in
      sym (in_one (flat xs) c m (omega arith) (λ i l. begins i l (dec_lt i m) h.0) (omega (arith, h.1)))
    where
      begins : (i : ℕ) → i ≤ m → Dec (i < m) → (get_or xs m (0, 0)).0 ≤ c → first_of (flat xs) i ≤ c
      begins i l (no k) h = let e : i ≡ m = omega arith in rw e (let g = first_flat xs m (0, 0) b in omega arith)
      begins i l (yes k) h =
          let g = first_flat xs i (0, 0) (omega arith) in
          let r = range i (0, 0) (omega arith) in
          let a = apart i m (0, 0) k b in
          omega arith
  searched (Err m) b s =
      let n = length_flat xs in
      let w = s rising in
      sym (in_none (flat xs) c (λ i l f g. misses i (omega arith) f g w (dec_lt i m)))
    where
      misses : (i : ℕ) → i < length xs → first_of (flat xs) i ≤ c → c ≤ last_of (flat xs) i
          → IsPartitionPoint (λ y. side c y ≡ Less) (λ y. side c y ≡ Greater) xs m
          → Dec (i < m)
          → ⊥
      misses i l f g w (yes k) =
          let e = last_flat xs i (0, 0) l in
          let h = side_less c (get_or xs i (0, 0)) (w.0 i (0, 0) (omega arith) k) in
          omega arith
      misses i l f g w (no k) =
          let e = first_flat xs i (0, 0) l in
          let h = side_greater c (get_or xs i (0, 0)) (w.1 i (0, 0) (omega arith) l) in
          omega arith
