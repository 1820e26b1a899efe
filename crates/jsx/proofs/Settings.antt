-- Settings stores: how one record is judged, and what stands behind it.
use mathlib.Core.Path.{◌≡◌, refl, sym, ap, ◌∙◌}
use mathlib.Core.Bool.{Bool, true, false}
use mathlib.Core.List.{List, [], ◌∷◌, ◌++◌}
use Prim.Native.Char.{code}
use Prim.Native.Nat.{ℕ, zero, suc, ◌+◌, ◌≤◌, ◌<◌}
use native.Mathlib.Omega.{arith}
use lib.ListN.{length, drop, length-append}
use lib.Dec.{ltb, eqb}
use borrow.Author.Tests.{ltb-true, ltb-false, eqb-true, le-ltb}
use Rattle.rules.specs.Parse.{pick, byte_at}
use Rattle.rules.proofs.Agree.{byte_in, byte_beyond}
use Rattle.jsx.specs.Reading.{Limits}
use Rattle.jsx.specs.Settings.{wrong_mark, cut_short, unknown_kind, Settled, set, unset, other_than, kind_of, size_of}
use Rattle.jsx.specs.Settings.{marks_other, is_cut, depth_kind}
use Rattle.jsx.specs.Settings.{good_depth, depth_set, length_kind, good_length, length_set}
use Rattle.jsx.specs.Settings.{skipped_from, judged, on_set, settled_from}

-- ---- answers

abbrev pub number : Settled → ℕ
number (set l) = 0
number (unset n a b) = n

abbrev pub start : Settled → ℕ
start (set l) = 0
start (unset n a b) = a

abbrev pub finish : Settled → ℕ
finish (set l) = 0
finish (unset n a b) = b

-- Nothing is both set and refused.
pub set_unset : {A : Type 0} {l : Limits} {n a b : ℕ} → set l ≡ unset n a b → A
set_unset e = absurd (let z : ◌≡◌ {A = ℕ} 0 1 = ap tag e in omega arith)
  where
    tag : Settled → ℕ
    tag (set l) = 0
    tag (unset n a b) = 1

pub set_same : {l l' : Limits} → set l ≡ set l' → l ≡ l'
set_same {l} = ap of
  where
    of : Settled → Limits
    of (set m) = m
    of (unset n a b) = l

-- ---- one record

-- A record that is all there.
pub record Whole (s : List ℕ) : Type 0 where
  pub marked : marks_other s ≡ false
  pub uncut : is_cut s ≡ false

-- The kind is none that is known; is not that of a depth; is any.
abbrev of_other : List ℕ → Limits → Settled
of_other s l = pick (ltb (kind_of s) skipped_from) (unset unknown_kind (kind_of s) 0) (set l)

abbrev not_of_depth : ℕ → Limits → List ℕ → Settled
not_of_depth at l s = pick (eqb (kind_of s) length_kind) (length_set at l s) (of_other s l)

abbrev of_whole : ℕ → Limits → List ℕ → Settled
of_whole at l s = pick (eqb (kind_of s) depth_kind) (depth_set at l s) (not_of_depth at l s)

module _ (at : ℕ) (l : Limits) (s : List ℕ) where
  pub judged_other : marks_other s ≡ true → judged at l s ≡ unset wrong_mark at at
  unfolding judged
  judged_other h = rw h

  pub judged_cut : marks_other s ≡ false → is_cut s ≡ true → judged at l s ≡ unset cut_short at at
  unfolding judged
  judged_cut h c = rw (h, c)

  pub judged_whole : Whole s → judged at l s ≡ of_whole at l s
  unfolding judged
  judged_whole w = rw (w.marked, w.uncut)

-- How a record is judged, case by case: what holds of each outcome holds of the outcome.
pub judged_by : (P : Settled → Type 0) (at : ℕ) (l : Limits) (s : List ℕ)
    → (marks_other s ≡ true → P (unset wrong_mark at at))
    → (marks_other s ≡ false → is_cut s ≡ true → P (unset cut_short at at))
    → (Whole s → P (depth_set at l s))
    → (Whole s → P (length_set at l s))
    → (Whole s → kind_of s < skipped_from → P (unset unknown_kind (kind_of s) 0))
    → (Whole s → P (set l))
    → P (judged at l s)
unfolding judged
judged_by P at l s other cut depth long unknown skipped = first (marks_other s) refl
  where
    fifth : Whole s → (b : Bool) → ltb (kind_of s) skipped_from ≡ b
        → P (pick b (unset unknown_kind (kind_of s) 0) (set l))
    fifth w true e = unknown w (ltb-true _ _ e)
    fifth w false e = skipped w

    fourth : Whole s → (b : Bool) → P (pick b (length_set at l s) (of_other s l))
    fourth w true = long w
    fourth w false = fifth w (ltb (kind_of s) skipped_from) refl

    third : Whole s → (b : Bool) → P (pick b (depth_set at l s) (not_of_depth at l s))
    third w true = depth w
    third w false = fourth w (eqb (kind_of s) length_kind)

    second : marks_other s ≡ false → (b : Bool) → is_cut s ≡ b → P (pick b (unset cut_short at at) (of_whole at l s))
    second m true e = cut m e
    second m false e = third (record { marked = m; uncut = e }) (eqb (kind_of s) depth_kind)

    first : (b : Bool) → marks_other s ≡ b
        → P (pick b (unset wrong_mark at at) (pick (is_cut s) (unset cut_short at at) (of_whole at l s)))
    first true e = other e
    first false e = second e (is_cut s) refl

-- The bytes of a record that is whole stand in the store.
pub whole_length : (s : List ℕ) → is_cut s ≡ false → 4 + size_of s ≤ length s
unfolding is_cut
whole_length s h = ltb-false _ _ h

-- What sets limits is whole, and a record of a known kind sets them where it is good.
pub set_whole : (at : ℕ) (l : Limits) (s : List ℕ) {l' : Limits} → judged at l s ≡ set l' → is_cut s ≡ false
set_whole at l s {l'} =
    judged_by (λ r. r ≡ set l' → is_cut s ≡ false) at l s
    (λ m e. set_unset (sym e))
    (λ m c e. set_unset (sym e))
    (λ w e. w.uncut)
    (λ w e. w.uncut)
    (λ w k e. w.uncut)
    (λ w e. w.uncut)

-- ---- with more behind it

module _ (s y : List ℕ) where
  -- A byte that is none of the mark's stays so.
  other_front : marks_other s ≡ true → marks_other (s ++ y) ≡ true
  unfolding marks_other
  other_front h = by (ltb 0 (length s)) refl (ltb 1 (length s)) refl
    where
      only : (b : Bool) → pick b true false ≡ true → b ≡ true
      only true h = refl
      only false h = h

      never : {A : Type 0} → false ≡ true → A
      never e = absurd (let z : ◌≡◌ {A = ℕ} 0 1 = ap (λ (b : Bool). pick b 1 0) e in omega arith)

      by : (f : Bool) → ltb 0 (length s) ≡ f → (g : Bool) → ltb 1 (length s) ≡ g
          → pick (other_than (code "S") (byte_at (s ++ y) 0)) true (other_than (code "T") (byte_at (s ++ y) 1)) ≡ true
      by true e true f = rw (← byte_in s y 0 (ltb-true _ _ e), ← byte_in s y 1 (ltb-true _ _ f)) h
      by true e false f =
          let k = only (other_than (code "S") (byte_at s 0)) (rw (byte_beyond s 1 (ltb-false _ _ f)) at h) in
          rw (← byte_in s y 0 (ltb-true _ _ e), k)
      by false e g f =
          let z = ltb-false _ _ e in
          never (rw (byte_beyond s 0 z, byte_beyond s 1 (omega arith)) at h)

  module _ (h : is_cut s ≡ false) where
    byte_front : (i : ℕ) → i < 4 + size_of s → byte_at s i ≡ byte_at (s ++ y) i
    byte_front i k = byte_in s y i (let w = whole_length s h in omega arith)

    pub size_front : size_of s ≡ size_of (s ++ y)
    size_front = byte_front 3 (omega arith)

    depth_front : (at : ℕ) (l : Limits) → depth_set at l s ≡ depth_set at l (s ++ y)
    unfolding depth_set good_depth
    depth_front at l = by (eqb (size_of s) 1) refl
      where
        by : (b : Bool) → eqb (size_of s) 1 ≡ b → depth_set at l s ≡ depth_set at l (s ++ y)
        by true e = let z = eqb-true (size_of s) 1 e in rw (← size_front, ← byte_front 4 (omega arith))
        by false e = rw (← size_front, e)

    length_front : (at : ℕ) (l : Limits) → length_set at l s ≡ length_set at l (s ++ y)
    unfolding length_set good_length
    length_front at l = by (eqb (size_of s) 4) refl
      where
        by : (b : Bool) → eqb (size_of s) 4 ≡ b → length_set at l s ≡ length_set at l (s ++ y)
        by true e =
            let z = eqb-true (size_of s) 4 e in
            rw (
              ← size_front,
              ← byte_front 4 (omega arith),
              ← byte_front 5 (omega arith),
              ← byte_front 6 (omega arith),
              ← byte_front 7 (omega arith),
            )
        by false e = rw (← size_front, e)

    cut_front : is_cut (s ++ y) ≡ false
    unfolding is_cut
    cut_front =
        let w = whole_length s h in
        let e = size_front in
        let n = length-append s y in
        le-ltb (length (s ++ y)) (4 + size_of (s ++ y)) (omega arith)

    -- A record that is whole is judged the same.
    pub judged_front : (at : ℕ) (l : Limits) → judged at l (s ++ y) ≡ judged at l s
    unfolding judged marks_other
    judged_front at l =
        rw (
          cut_front,
          h,
          ← byte_front 0 (omega arith),
          ← byte_front 1 (omega arith),
          ← byte_front 2 (omega arith),
          ← depth_front at l,
          ← length_front at l,
        )

  -- And so is any but one that is cut short.
  pub judged_stays : (at : ℕ) (l : Limits) (r : Settled) → judged at l s ≡ r
      → (r ≡ unset cut_short at at → ⊥)
      → judged at l (s ++ y) ≡ r
  judged_stays at l r e f =
      judged_by (λ x. x ≡ r → judged at l (s ++ y) ≡ r) at l s
      (λ m k. other m k)
      (λ m c k. absurd (f (sym k)))
      (λ w k. same w)
      (λ w k. same w)
      (λ w n k. same w)
      (λ w k. same w)
      e
    where
      same : Whole s → judged at l (s ++ y) ≡ r
      same w = judged_front w.uncut at l ∙ e

      other : marks_other s ≡ true → unset wrong_mark at at ≡ r → judged at l (s ++ y) ≡ r
      other m k = judged_other at l (s ++ y) (other_front m) ∙ k

-- ---- records behind each other

-- Behind the bytes that are left of a record the next one begins.
pub passed : (at k : ℕ) (l : Limits) (s : List ℕ) → k ≤ length s
    → settled_from at k l s ≡ settled_from (at + k) 0 l (drop k s)
unfolding settled_from
passed at zero l s h = ap (λ (n : ℕ). settled_from n 0 l s) (omega arith)
passed at (suc k) l [] h = absurd (omega arith)
passed at (suc k) l (b ∷ s) h =
    passed (at + 1) k l s (omega arith) ∙ ap (λ (n : ℕ). settled_from n 0 l (drop k s)) (omega arith)

-- A record that is whole, of m bytes, and the store behind it.
pub next_record : (at m : ℕ) (l : Limits) (s : List ℕ) → is_cut s ≡ false → m ≡ 4 + size_of s
    → settled_from at 0 l s ≡ on_set (judged at l s) (λ l'. settled_from (at + m) 0 l' (drop m s))
unfolding settled_from
next_record at zero l s h e = absurd (omega arith)
next_record at (suc m) l [] h e = absurd (let w = whole_length [] h in omega arith)
next_record at (suc m) l (b ∷ s) h e = by (judged at l (b ∷ s))
  where
    by : (r : Settled)
        → on_set r (λ l'. settled_from (at + 1) (3 + size_of (b ∷ s)) l' s)
        ≡ on_set r (λ l'. settled_from (at + suc m) 0 l' (drop m s))
    by (set l') =
        let w = whole_length (b ∷ s) h in
        ap (λ (n : ℕ). settled_from (at + 1) n l' s) (omega arith)
        ∙ passed (at + 1) m l' s (omega arith)
        ∙ ap (λ (n : ℕ). settled_from n 0 l' (drop m s)) (omega arith)
    by (unset n a b) = refl

-- A record that is refused ends the reading of the store.
pub refused_record : (at : ℕ) (l : Limits) (s : List ℕ) {n a b : ℕ} → 0 < length s → judged at l s ≡ unset n a b
    → settled_from at 0 l s ≡ unset n a b
unfolding settled_from
refused_record at l [] k h = absurd (omega arith)
refused_record at l (b ∷ s) k h = rw h

-- What follows good records goes on with their limits.
pub follows : (at k : ℕ) (l l' : Limits) (x y : List ℕ) → k ≤ length x → settled_from at k l x ≡ set l'
    → settled_from at k l (x ++ y) ≡ settled_from (at + length x) 0 l' y
unfolding settled_from
follows at zero l l' [] y h e =
    ap (λ (m : Limits). settled_from at 0 m y) (set_same e) ∙ ap (λ (n : ℕ). settled_from n 0 l' y) (omega arith)
follows at (suc k) l l' [] y h e = absurd (omega arith)
follows at (suc k) l l' (b ∷ x) y h e =
    follows (at + 1) k l l' x y (omega arith) e ∙ ap (λ (n : ℕ). settled_from n 0 l' y) (omega arith)
follows at zero l l' (b ∷ x) y h e = by (λ k m. follows (at + 1) k m l' x y) (judged at l (b ∷ x)) refl e
  where
    by : ((k : ℕ) (m : Limits) → k ≤ length x → settled_from (at + 1) k m x ≡ set l'
        → settled_from (at + 1) k m (x ++ y) ≡ settled_from (at + 1 + length x) 0 l' y)
        → (r : Settled) → judged at l (b ∷ x) ≡ r
        → on_set r (λ m. settled_from (at + 1) (3 + size_of (b ∷ x)) m x) ≡ set l'
        → on_set (judged at l (b ∷ (x ++ y))) (λ m. settled_from (at + 1) (3 + size_of (b ∷ (x ++ y))) m (x ++ y))
        ≡ settled_from (at + suc (length x)) 0 l' y
    by go (unset n a c) f g = set_unset (sym g)
    by go (set m) f g =
        let c = set_whole at l (b ∷ x) f in
        let w = whole_length (b ∷ x) c in
        rw (judged_front (b ∷ x) y c at l ∙ f, ← size_front (b ∷ x) y c)
        (go (3 + size_of (b ∷ x)) m (omega arith) g
        ∙ ap (λ (n : ℕ). settled_from n 0 l' y) (omega arith))
