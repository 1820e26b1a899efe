-- A character, and the same bytes elsewhere: the same character.
use mathlib.Core.Path.{◌≡◌, refl, sym, ap, subst, ◌∙◌}
use mathlib.Core.List.{List}
use Prim.Native.Nat.{ℕ, zero, suc, ◌+◌, ◌-◌, ◌*◌, ◌<◌}
use native.Mathlib.Omega.{arith}
use lib.Dec.{ltb}
use borrow.Author.Tests.{lt-ltb, le-ltb}
use Rattle.rules.specs.Forest.{nil, byte, ◌⋈◌}
use Rattle.rules.specs.Parse.{pick, byte_at, no_char, code_on, code_at}
use Rattle.character.specs.Width.{width_of}
use Rattle.character.proofs.Read.{by_first, spelled, character_wide}

-- The n bytes from p on stand from q on, too.
abbrev pub Same : List ℕ → (p q n : ℕ) → Type 0
Same s p q n = (i : ℕ) → i < n → byte_at s (p + i) ≡ byte_at s (q + i)

module _ (s : List ℕ) where
  -- The first of them,
  same_first : (p q n : ℕ) → 0 < n → Same s p q n → byte_at s p ≡ byte_at s q
  same_first p q n l h =
      let x : p + 0 ≡ p = omega arith in
      let y : q + 0 ≡ q = omega arith in
      ap (byte_at s) (sym x) ∙ h 0 l ∙ ap (byte_at s) y

  -- and those behind it.
  same_rest : (p q n : ℕ) → Same s p q (suc n) → Same s (p + 1) (q + 1) n
  same_rest p q n h i l =
      let x : p + 1 + i ≡ p + suc i = omega arith in
      let y : q + 1 + i ≡ q + suc i = omega arith in
      rw (x, y) (h (suc i) (omega arith))

  on_again : (n c p q : ℕ) → Same s p q n → code_on s n c p ≡ code_on s n c q
  unfolding code_on
  on_again zero c p q h = refl
  on_again (suc n) c p q h =
      λ i. let b = same_first p q (suc n) (omega arith) h i in
      pick (ltb b 0x80) no_char
      (pick (ltb b 0xC0) (on_again n (c * 0x40 + (b - 0x80)) (p + 1) (q + 1) (same_rest p q n h) i) no_char)

  spelled_again : (n p q : ℕ) → Same s p q (suc n) → spelled s p n ≡ spelled s q n
  unfolding spelled
  spelled_again zero p q h = ap (λ (b : ℕ). byte b nil) (same_first p q 1 (omega arith) h)
  spelled_again (suc n) p q h =
      λ i. byte (same_first p q (suc (suc n)) (omega arith) h i) nil
      ⋈ spelled_again n (p + 1) (q + 1) (same_rest p q (suc n) h) i

  module _ (p q : ℕ) (k : code_at s p ≡ no_char → ⊥) (h : Same s p q (width_of (byte_at s p))) where
    -- The code is the same,
    pub code_again : code_at s p ≡ code_at s q
    unfolding code_at
    code_again =
        by_first s p k (λ n. Same s p q n → code_at s p ≡ code_at s q)
        (λ l g. let e = same_first p q 1 (omega arith) g in rw (← e, lt-ltb (byte_at s p) 0x80 l))
        (λ l u i g. let e = same_first p q 2 (omega arith) g in
        let b = byte_at s p in
        rw (← e, le-ltb b 0x80 (omega arith), le-ltb b 0xC0 l, lt-ltb b 0xE0 u)
        (on_again 1 (b - 0xC0) (p + 1) (q + 1) (same_rest p q 1 g)))
        (λ l u i g. let e = same_first p q 3 (omega arith) g in
        let b = byte_at s p in
        rw (← e, le-ltb b 0x80 (omega arith), le-ltb b 0xC0 (omega arith), le-ltb b 0xE0 l, lt-ltb b 0xF0 u)
        (on_again 2 (b - 0xE0) (p + 1) (q + 1) (same_rest p q 2 g)))
        (λ l u i g. let e = same_first p q 4 (omega arith) g in
        let b = byte_at s p in
        rw (
          ← e,
          le-ltb b 0x80 (omega arith),
          le-ltb b 0xC0 (omega arith),
          le-ltb b 0xE0 (omega arith),
          le-ltb b 0xF0 l,
          lt-ltb b 0xF8 u,
        )
        (on_again 3 (b - 0xF0) (p + 1) (q + 1) (same_rest p q 3 g)))
        h

    -- so is the first byte,
    pub first_again : 0 < width_of (byte_at s p) → byte_at s p ≡ byte_at s q
    first_again l = same_first p q (width_of (byte_at s p)) l h

    -- and what is read.
    pub spelling_again : spelled s p (width_of (byte_at s p) - 1) ≡ spelled s q (width_of (byte_at s q) - 1)
    spelling_again =
        let l = character_wide s p k in
        let b = first_again l in
        let n : suc (width_of (byte_at s p) - 1) ≡ width_of (byte_at s p) = omega arith in
        spelled_again (width_of (byte_at s p) - 1) p q (subst (Same s p q) (sym n) h)
        ∙ ap (λ (x : ℕ). spelled s q (width_of x - 1)) b
