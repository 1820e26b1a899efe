-- A good list of refused words has the words that the definition refuses, and no other.
use mathlib.Core.Path.{◌≡◌, refl, sym, ap, subst, ◌∙◌}
use mathlib.Core.Bool.{Bool, true, false}
use mathlib.Core.List.{List, [], ◌∷◌}
use Prim.Native.Nat.{ℕ, suc, ◌+◌, ◌-◌, ◌≤◌, ◌<◌}
use native.Mathlib.Omega.{arith}
use lib.ListN.{length}
use lib.Dec.{eqb, leb}
use borrow.Author.Tests.{eq-eqb, eqb-true, leb-true}
use Rattle.rules.specs.Parse.{pick}
use Rattle.rules.proofs.Run.{never, both}
use Rattle.jsx.specs.Name.{same}
use Rattle.jsx.specs.Word.{on_first, cut, words, among, reserved, spared, strict, refused_word}
use Rattle.lex.proofs.SameBytes.{length_part}
use Rattle.lex.specs.Contract.{bytes_from}
use Rattle.refused.specs.WordList.{cells, each, covered, good}

-- ---- a word among some of its length

module _ (t w : List ℕ) {E : Bool} (p n c i : ℕ) (e : E ≡ among (cells t p n (c - i)) w) where
  -- Another word.
  pub among_more : i < c → same (bytes_from t p n) w ≡ false → E ≡ among (cells t (p + n + 1) n (c - (i + 1))) w
  unfolding among cells
  among_more h f = let j : c - i ≡ suc (c - (i + 1)) = omega arith in simp (j, f) at e

  -- This word.
  pub among_found : i < c → same (bytes_from t p n) w ≡ true → E ≡ true
  unfolding among cells
  among_found h f = let j : c - i ≡ suc (c - (i + 1)) = omega arith in simp (j, f) at e

  -- None is left.
  pub among_end : c ≤ i → E ≡ false
  unfolding among cells
  among_end h = let j : c - i ≡ 0 = omega arith in simp j at e

-- ---- a test that every word of a list passes

same_is : (u v : List ℕ) → same u v ≡ true → u ≡ v
unfolding same
same_is [] [] h = refl
same_is [] (b ∷ v) h = never h
same_is (a ∷ u) [] h = never h
same_is (a ∷ u) (b ∷ v) h = let g = both (eqb a b) (same u v) h in λ i. eqb-true a b g.0 i ∷ same_is u v g.1 i

each_at : (P : List ℕ → Bool) (l : List (List ℕ)) (w : List ℕ) → each P l ≡ true → among l w ≡ true → P w ≡ true
unfolding each among
each_at P [] w h g = never g
each_at P (v ∷ vs) w h g = go (same v w) refl (each_at P vs w (both (P v) (each P vs) h).1) g
  where
    go : (b : Bool) → same v w ≡ b → (among vs w ≡ true → P w ≡ true) → pick b true (among vs w) ≡ true → P w ≡ true
    go true e k f = subst (λ (x : List ℕ). P x ≡ true) (same_is v w e) (both (P v) (each P vs) h).0
    go false e k f = k f

-- A word that is in neither list is not refused.
free : (w : List ℕ) → (among reserved w ≡ true → among spared w ≡ false → ⊥)
    → (among strict w ≡ true → among spared w ≡ false → ⊥) → refused_word w ≡ false
unfolding refused_word
free w f g = go (among spared w) (among reserved w) (among strict w) f g
  where
    go : (x y z : Bool) → (y ≡ true → x ≡ false → ⊥) → (z ≡ true → x ≡ false → ⊥) → pick x false (pick y true z) ≡ false
    go true y z f g = refl
    go false true z f g = absurd (f refl refl)
    go false false true f g = absurd (g refl refl)
    go false false false f g = refl

-- ---- a refused word has 2 to 10 bytes

fitting : List ℕ → Bool
fitting w = pick (leb 2 (length w)) (leb (length w) 10) false

reserved_fits : each fitting reserved ≡ true
unfolding each fitting reserved words cut on_first
reserved_fits = refl

strict_fits : each fitting strict ≡ true
unfolding each fitting strict words cut on_first
strict_fits = refl

past_six : (n : ℕ) → 2 ≤ n → (n ≡ 2 → ⊥) → (n ≡ 3 → ⊥) → (n ≡ 4 → ⊥) → (n ≡ 5 → ⊥) → (n ≡ 6 → ⊥) → 7 ≤ n
past_six n h h₂ h₃ h₄ h₅ h₆ = omega arith

past_ten : (n : ℕ) → 7 ≤ n → n ≤ 10 → (n ≡ 7 → ⊥) → (n ≡ 8 → ⊥) → (n ≡ 9 → ⊥) → (n ≡ 10 → ⊥) → ⊥
past_ten n h k h₇ h₈ h₉ h₁₀ = omega arith

-- So bytes of another length are none.
pub refused_other : (s : List ℕ) (a n : ℕ)
    → (n ≡ 2 → ⊥) → (n ≡ 3 → ⊥) → (n ≡ 4 → ⊥) → (n ≡ 5 → ⊥) → (n ≡ 6 → ⊥) → (n ≡ 7 → ⊥) → (n ≡ 8 → ⊥)
    → (n ≡ 9 → ⊥) → (n ≡ 10 → ⊥) → false ≡ refused_word (bytes_from s a n)
unfolding fitting
refused_other s a n h₂ h₃ h₄ h₅ h₆ h₇ h₈ h₉ h₁₀ =
    sym (free w (λ y d. other (each_at fitting reserved w reserved_fits y))
    (λ y d. other (each_at fitting strict w strict_fits y)))
  where
    w : List ℕ
    w = bytes_from s a n

    outside : length w ≡ n → 2 ≤ length w → length w ≤ 10 → ⊥
    outside e x y =
        let x' = past_six n (subst (λ (m : ℕ). 2 ≤ m) e x) h₂ h₃ h₄ h₅ h₆ in
        past_ten n x' (subst (λ (m : ℕ). m ≤ 10) e y) h₇ h₈ h₉ h₁₀

    other : fitting w ≡ true → ⊥
    other x =
        let y = both (leb 2 (length w)) (leb (length w) 10) x in
        outside (length_part s a n) (leb-true 2 (length w) y.0) (leb-true (length w) 10 y.1)

-- ---- a good list

module _ (t : List ℕ) (n c : ℕ) (h : good t n c ≡ true) where
  parts : (each refused_word (cells t 0 n c) ≡ true)
      × (pick (each (covered t n c) reserved) (each (covered t n c) strict) false ≡ true)
  unfolding good
  parts =
      both (each refused_word (cells t 0 n c))
      (pick (each (covered t n c) reserved) (each (covered t n c) strict) false) h

  all_covered : (each (covered t n c) reserved ≡ true) × (each (covered t n c) strict ≡ true)
  all_covered = both (each (covered t n c) reserved) (each (covered t n c) strict) parts.1

  -- A word of n bytes is refused exactly if it is listed.
  refused_listed : (w : List ℕ) → length w ≡ n → refused_word w ≡ among (cells t 0 n c) w
  unfolding covered
  refused_listed w i = go (among (cells t 0 n c) w) refl
    where
      not_covered : among (cells t 0 n c) w ≡ false → covered t n c w ≡ true → among spared w ≡ false → ⊥
      not_covered e g d = never (sym (rw (eq-eqb (length w) n i, d, e)) ∙ g)

      go : (b : Bool) → among (cells t 0 n c) w ≡ b → refused_word w ≡ b
      go true e = each_at refused_word (cells t 0 n c) w parts.0 e
      go false e =
          free w
          (λ y d. not_covered e (each_at (covered t n c) reserved w all_covered.0 y) d)
          (λ y d. not_covered e (each_at (covered t n c) strict w all_covered.1 y) d)

  pub refused_start : (s : List ℕ) (a : ℕ)
      → refused_word (bytes_from s a n) ≡ among (cells t 0 n (c - 0)) (bytes_from s a n)
  refused_start s a =
      let z : c ≡ c - 0 = omega arith in
      refused_listed (bytes_from s a n) (length_part s a n)
      ∙ ap (λ (x : ℕ). among (cells t 0 n x) (bytes_from s a n)) z
