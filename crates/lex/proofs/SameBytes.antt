-- Parts of an input, and lists of bytes compared.
use mathlib.Core.Path.{◌≡◌, refl, sym, ap, ◌∙◌}
use mathlib.Core.Bool.{Bool, true, false}
use mathlib.Core.List.{List, [], ◌∷◌}
use Prim.Native.Nat.{ℕ, zero, suc, ◌+◌, ◌-◌, ◌≤◌, ◌<◌}
use native.Mathlib.Omega.{arith}
use lib.ListN.{length}
use lib.Dec.{eqb}
use borrow.Author.Rules.{rules}
use borrow.Author.Tests.{eq-eqb, ne_eqb}
use Rattle.rules.specs.Parse.{pick, byte_at}
use Rattle.jsx.specs.Name.{same}
use Rattle.lex.specs.Contract.{bytes_from}

-- n bytes from a place on are n, also past the end.
pub length_part : (s : List ℕ) (a n : ℕ) → length (bytes_from s a n) ≡ n
unfolding bytes_from
length_part s a zero = refl
length_part s a (suc n) = ap suc (length_part s (a + 1) n)

false_or : (a b : Bool) → b ≡ false → pick a b false ≡ false
false_or true b h = h
false_or false b h = refl

-- Lists of different lengths differ.
pub same_lengths : (u v : List ℕ) → (length u ≡ length v → ⊥) → same u v ≡ false
unfolding same
same_lengths [] [] h = absurd (h refl)
same_lengths [] (b ∷ v) h = refl
same_lengths (a ∷ u) [] h = refl
same_lengths (a ∷ u) (b ∷ v) h = false_or (eqb a b) (same u v) (same_lengths u v (λ e. h (ap suc e)))

-- n bytes from k on in t, and from a on in s.
abbrev pub same_from : (t s : List ℕ) (n k a : ℕ) → Bool
same_from t s n k a = same (bytes_from t k n) (bytes_from s a n)

-- Of n bytes, i are compared, and found the same: those that are left decide.
pub record Compared (t : List ℕ) (k : ℕ) (s : List ℕ) (a n i : ℕ) : Type 0 where
  pub within : i ≤ n
  pub so : same_from t s n k a ≡ same_from t s (n - i) (k + i) (a + i)

-- None is compared yet.
pub compared_none : (t : List ℕ) (k : ℕ) (s : List ℕ) (a n : ℕ) → Compared t k s a n 0
compared_none t k s a n = record { within = omega arith; so = λ i. same_from t s (e i) (f i) (g i) }
  where
    e : n ≡ n - 0
    e = omega arith

    f : k ≡ k + 0
    f = omega arith

    g : a ≡ a + 0
    g = omega arith

module _ {t : List ℕ} {k : ℕ} {s : List ℕ} {a n i : ℕ} (v : Compared t k s a n i) where
  module _ (h : i < n) {x y : ℕ} (e : x ≡ byte_at t (k + i)) (f : y ≡ byte_at s (a + i)) where
    -- The next byte of the one is not the next of the other: the n bytes differ.
    pub compared_differ : (x ≡ y → ⊥) → false ≡ same_from t s n k a
    unfolding same bytes_from
    compared_differ d =
        let j : n - i ≡ suc (n - (i + 1)) = omega arith in
        sym (v.so ∙ rw j (rw (ne_eqb (byte_at t (k + i)) (byte_at s (a + i)) (λ g. d (e ∙ g ∙ sym f)))))

    -- The next byte of the one is the next of the other: one more is compared.
    pub compared_more : x ≡ y → Compared t k s a n (i + 1)
    unfolding same bytes_from
    compared_more d =
        let j : n - i ≡ suc (n - (i + 1)) = omega arith in
        let jk : k + (i + 1) ≡ k + i + 1 = omega arith in
        let ja : a + (i + 1) ≡ a + i + 1 = omega arith in
        record {
          within = omega arith;
          so = rw (jk, ja) (simp (j, eq-eqb (byte_at t (k + i)) (byte_at s (a + i)) (sym e ∙ d ∙ f)) at v.so);
        }

  -- All are compared.
  pub compared_all : n ≤ i → true ≡ same_from t s n k a
  unfolding same bytes_from
  compared_all h = let j : n - i ≡ 0 = omega arith in sym (simp j at v.so)

pub ruleset same_steps = (rules, compared_none, compared_differ, compared_more, compared_all)
