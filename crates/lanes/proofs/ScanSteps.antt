-- Scans, eight bytes at once.
use mathlib.Core.Path.{◌≡◌, refl, sym, ap, subst, ◌∙◌}
use mathlib.Core.Bool.{Bool, true, false}
use mathlib.Core.List.{List}
use Prim.Native.Nat.{ℕ, zero, suc, ◌+◌, ◌*◌, ◌/◌, ◌≤◌, ◌<◌}
use native.Mathlib.Omega.{arith}
use native.Mathlib.Decide.{dec_lt}
use mir.Syntax.{w8}
use mir.Val.{Fits}
use lib.ListN.{length, get_or}
use lib.Count.{count_trailing_zeros}
use Rattle.rules.specs.Rule.{Test}
use Rattle.rules.specs.Parse.{pick, byte_at}
use Rattle.lex.specs.Contract.{bytes_from}
use Rattle.lex.proofs.Laws.{inside}
use Rattle.lanes.specs.Lanes.{spread, word_of, Bytes, Marked}
use Rattle.lanes.specs.First.{Clear, First}
use Rattle.lanes.proofs.Marks.{before, marks, first_of_eight}

-- ---- stretches that are clear

module _ {f : Test} {s : List ℕ} where
  -- Nothing.
  pub clear_none : {p : ℕ} → p ≤ length s → Clear f s p p
  clear_none h = record { past = omega arith; inside = h; none = λ i l u. absurd (omega arith) }

  -- One stretch behind another.
  clear_join : {p q r : ℕ} → Clear f s p q → Clear f s q r → Clear f s p r
  clear_join {p} {q} {r} a b =
      let x = a.past in
      let y = b.past in
      record { past = omega arith; inside = b.inside; none = λ i l u. go i l u (dec_lt i q) }
    where
      go : (i : ℕ) → p ≤ i → i < r → Dec (i < q) → f (byte_at s i) ≡ false
      go i l u (yes k) = a.none i l k
      go i l u (no k) = b.none i (omega arith) u

  -- One byte.
  clear_one : {p : ℕ} → p < length s → f (byte_at s p) ≡ false → Clear f s p (p + 1)
  clear_one {p} h e = record {
    past = omega arith;
    inside = omega arith;
    none = λ i l u. let k : p ≡ i = omega arith in subst (λ (j : ℕ). f (byte_at s j) ≡ false) k e;
  }

-- ---- n bytes

module _ (f : Test) (s : List ℕ) where
  -- Their first that passes the test, where a lane is marked.
  hit : (n p : ℕ) → p + n ≤ length s → (marks f (bytes_from s p n) ≡ 0 → ⊥)
      → First f s p (p + before f (bytes_from s p n))
  unfolding before bytes_from spread
  hit zero p i z = absurd (z refl)
  hit (suc n) p i z = go (f (byte_at s p)) refl z (hit n (p + 1) (omega arith))
    where
      M : ℕ
      M = marks f (bytes_from s (p + 1) n)

      B : ℕ
      B = before f (bytes_from s (p + 1) n)

      go : (x : Bool) → f (byte_at s p) ≡ x → (M * 256 + pick x 0x80 0 ≡ 0 → ⊥)
          → ((M ≡ 0 → ⊥) → First f s (p + 1) (p + 1 + B))
          → First f s p (p + pick x 0 (suc B))
      go true e y r =
          let k : p ≡ p + 0 = omega arith in
          subst (First f s p) k (record { clear = clear_none (omega arith); met = λ u. e })
      go false e y r =
          let g = r (λ m. y (omega arith)) in
          let k : p + 1 + B ≡ p + suc B = omega arith in
          let h : First f s p (p + 1 + B) =
          record { clear = clear_join (clear_one (omega arith) e) g.clear; met = g.met }
          in
          subst (First f s p) k h

  -- None of them passes it, where no lane is.
  miss : (n p : ℕ) → p + n ≤ length s → marks f (bytes_from s p n) ≡ 0 → Clear f s p (p + n)
  unfolding bytes_from spread
  miss zero p i z = let k : p ≡ p + 0 = omega arith in subst (Clear f s p) k (clear_none (omega arith))
  miss (suc n) p i z = go (f (byte_at s p)) refl z (miss n (p + 1) (omega arith))
    where
      M : ℕ
      M = marks f (bytes_from s (p + 1) n)

      go : (x : Bool) → f (byte_at s p) ≡ x → M * 256 + pick x 0x80 0 ≡ 0 → (M ≡ 0 → Clear f s (p + 1) (p + 1 + n))
          → Clear f s p (p + suc n)
      go true e y r = absurd (omega arith)
      go false e y r =
          let k : p + 1 + n ≡ p + suc n = omega arith in
          subst (Clear f s p) k (clear_join (clear_one (omega arith) e) (r (omega arith)))

bytes_length : (s : List ℕ) (n p : ℕ) → length (bytes_from s p n) ≡ n
unfolding bytes_from
bytes_length s zero p = refl
bytes_length s (suc n) p = ap suc (bytes_length s n (p + 1))

bytes_small : (s : List ℕ) → ((k : ℕ) → Fits w8 (get_or s k 0)) → (n p : ℕ) → p + n ≤ length s
    → Bytes (bytes_from s p n)
unfolding bytes_from Bytes
bytes_small s each zero p i = tt
bytes_small s each (suc n) p i =
    let e = inside s p 0 256 (omega arith) in
    let f = (each p).fits in
    (omega arith, bytes_small s each n (p + 1) (omega arith))

-- ---- eight bytes

module _
    {f : Test} (s : List ℕ) (p : ℕ) {w h : ℕ} (each : (k : ℕ) → Fits w8 (get_or s k 0)) (e : w ≡ word_of s p 8)
    (m : Marked f w h) (i : p + 8 ≤ length s)
  where
    marks_are : h ≡ marks f (bytes_from s p 8)
    marks_are = m.lanes.at (bytes_from s p 8) (bytes_length s 8 p) (bytes_small s each 8 p i) e

    -- No lane is marked.
    pub eight_clear : h ≡ 0 → Clear f s p (p + 8)
    eight_clear z = miss f s 8 p i (sym marks_are ∙ z)

    -- The first that is tells where the test is passed.
    pub eight_first : (h ≡ 0 → ⊥) → {r : ℕ} → r ≡ count_trailing_zeros 64 h / 8 → First f s p (p + r)
    eight_first z {r} t =
        let bs = bytes_from s p 8 in
        let y : marks f bs ≡ 0 → ⊥ = λ x. z (marks_are ∙ x) in
        let b : r ≡ before f bs =
        t ∙ ap (λ (x : ℕ). count_trailing_zeros 64 x / 8) marks_are ∙ first_of_eight f bs (bytes_length s 8 p) y
        in
        subst (λ (x : ℕ). First f s p (p + x)) (sym b) (hit f s 8 p i y)

pub ruleset scan_steps = (eight_clear, eight_first)
