-- What `character` reads where a character stands: as many bytes as its first one says, all within the input.
use mathlib.Core.Path.{◌≡◌, refl, sym, ap, subst, ◌∙◌}
use mathlib.Core.Bool.{true}
use mathlib.Core.List.{List}
use Prim.Native.Nat.{ℕ, zero, suc, ◌+◌, ◌-◌, ◌*◌, ◌≤◌, ◌<◌}
use native.Mathlib.Omega.{arith}
use native.Mathlib.Decide.{dec_lt}
use lib.ListN.{length}
use Rattle.rules.specs.Forest.{Forest, nil, byte, ◌⋈◌}
use Rattle.rules.specs.Rule.{Rule, step, when, ◌⨾◌}
use Rattle.rules.specs.Parse.{got, behind, byte_at, no_char, code_on, code_at, parse}
use Rattle.jsx.specs.Byte.{character, ◌‥◌}
use Rattle.lex.specs.Contract.{out_of}
use Rattle.lex.proofs.Laws as Lex
use Rattle.lex.proofs.Ranges.{in_range, under, over}
use Rattle.character.specs.Width.{width_of}
use Rattle.character.proofs.CodeSteps
use Rattle.character.proofs.WidthSteps

-- ---- bytes that bring bits stand within the input

-- Where n bytes bring bits, so many are there.
bits_inside : (s : List ℕ) (n c at : ℕ) → (code_on s n c at ≡ no_char → ⊥) → at ≤ length s → at + n ≤ length s
bits_inside s zero c at k i = omega arith
bits_inside s (suc n) c at k i =
    go (dec_lt (byte_at s at) 0x80) (dec_lt (byte_at s at) 0xC0)
    (bits_inside s n (c * 0x40 + (byte_at s at - 0x80)) (at + 1))
  where
    rest : ℕ
    rest = code_on s n (c * 0x40 + (byte_at s at - 0x80)) (at + 1)

    go : Dec (byte_at s at < 0x80) → Dec (byte_at s at < 0xC0)
        → ((rest ≡ no_char → ⊥) → at + 1 ≤ length s → at + 1 + n ≤ length s)
        → at + suc n ≤ length s
    go (yes h) x f = absurd (k (sym (CodeSteps.bits_under n s c at refl h)))
    go (no h) (no h₂) f = absurd (k (sym (CodeSteps.bits_over n s c at refl (omega arith) (omega arith))))
    go (no h) (yes h₂) f =
        let j = Lex.before_end s at (byte_at s at) refl (omega arith) in
        let e = CodeSteps.bits_go_on n s c at refl (omega arith) h₂ refl in
        let m = f (λ x. k (sym e ∙ x)) (omega arith) in
        omega arith

-- ---- a character, by its first byte

module _ (s : List ℕ) (p : ℕ) (k : code_at s p ≡ no_char → ⊥) where
  -- What holds of each width for the first bytes that say it holds of the width of the character here.
  pub by_first : (P : ℕ → Type 0)
      → (byte_at s p < 0x80 → P 1)
      → (0xC0 ≤ byte_at s p → byte_at s p < 0xE0 → p + 2 ≤ length s → P 2)
      → (0xE0 ≤ byte_at s p → byte_at s p < 0xF0 → p + 3 ≤ length s → P 3)
      → (0xF0 ≤ byte_at s p → byte_at s p < 0xF8 → p + 4 ≤ length s → P 4)
      → P (width_of (byte_at s p))
  by_first P one two three four =
      go (dec_lt b 0x80) (dec_lt b 0xC0) (dec_lt b 0xE0) (dec_lt b 0xF0) (dec_lt b 0xF8)
    where
      b : ℕ
      b = byte_at s p

      so : {n : ℕ} → n ≡ width_of b → P n → P (width_of b)
      so e x = subst (λ (m : ℕ). P m) e x

      more : (n c : ℕ) → b < 256 → code_on s n c (p + 1) ≡ code_at s p → p + (1 + n) ≤ length s
      more n c h e =
          let i = Lex.before_end s p b refl h in
          let m = bits_inside s n c (p + 1) (λ x. k (sym e ∙ x)) (omega arith) in
          omega arith

      go : Dec (b < 0x80) → Dec (b < 0xC0) → Dec (b < 0xE0) → Dec (b < 0xF0) → Dec (b < 0xF8) → P (width_of b)
      go (yes h) x y z v = so (WidthSteps.width_one (omega arith)) (one h)
      go (no h) (yes h₂) y z v = absurd (k (sym (CodeSteps.code_none s p refl (omega arith) h₂)))
      go (no h) (no h₂) (yes h₃) z v =
          so (WidthSteps.width_two (omega arith) h₃) (two (omega arith) h₃
          (more 1 (b - 0xC0) (omega arith) (CodeSteps.code_two s p refl (omega arith) (omega arith) h₃ refl)))
      go (no h) (no h₂) (no h₃) (yes h₄) v =
          so (WidthSteps.width_three (omega arith) (omega arith) h₄) (three (omega arith) h₄
          (more 2 (b - 0xE0) (omega arith)
          (CodeSteps.code_three s p refl (omega arith) (omega arith) (omega arith) h₄ refl)))
      go (no h) (no h₂) (no h₃) (no h₄) (yes h₅) =
          so (WidthSteps.width_four (omega arith) (omega arith) (omega arith) h₅) (four (omega arith) h₅
          (more 3 (b - 0xF0) (omega arith)
          (CodeSteps.code_four s p refl (omega arith) (omega arith) (omega arith) (omega arith) h₅ refl)))
      go (no h) (no h₂) (no h₃) (no h₄) (no h₅) =
          absurd
          (k (sym (CodeSteps.code_over s p refl (omega arith) (omega arith) (omega arith) (omega arith) (omega arith))))

  -- It stands within the input.
  pub character_inside : p + width_of (byte_at s p) ≤ length s
  character_inside =
      by_first (λ n. p + n ≤ length s)
      (λ h. let i = Lex.before_end s p (byte_at s p) refl (omega arith) in omega arith)
      (λ h h₂ i. i) (λ h h₂ i. i) (λ h h₂ i. i)

  -- It has a byte at least.
  pub character_wide : 0 < width_of (byte_at s p)
  character_wide =
      by_first (λ n. 0 < n) (λ h. omega arith) (λ h h₂ i. omega arith) (λ h h₂ i. omega arith) (λ h h₂ i. omega arith)

-- ---- what the rule reads

-- Its bytes, one more than n.
abbrev steps : ℕ → Rule
steps zero = step
steps (suc n) = step ⨾ steps n

-- What they are read as.
unfoldable pub spelled : List ℕ → (p n : ℕ) → Forest
spelled s p zero = byte (byte_at s p) nil
spelled s p (suc n) = byte (byte_at s p) nil ⋈ spelled s (p + 1) n

-- The tests behind the second, and behind the first.
abbrev longest : Rule
longest = when (0xF0 ‥ 0xF7) (steps 3) step

abbrev longer : Rule
longer = when (0xE0 ‥ 0xEF) (steps 2) longest

module _ (s : List ℕ) (F e : ℕ) where
  steps_read : (n p : ℕ) → p + suc n ≤ length s → parse s F (steps n) e p ≡ got true (spelled s p n) (p + suc n)
  unfolding spelled
  steps_read zero p i = Lex.step_is s F e p (omega arith)
  steps_read (suc n) p i =
      let k : p + 1 + suc n ≡ p + suc (suc n) = omega arith in
      Lex.seq_is s F e p step (steps n) (Lex.step_is s F e p (omega arith))
      ∙ ap (behind (byte (byte_at s p) nil)) (steps_read n (p + 1) (omega arith))
      ∙ ap (got true (byte (byte_at s p) nil ⋈ spelled s (p + 1) n)) k

  -- It is read whole: the bytes that it is spelled with.
  pub character_spelled : (p : ℕ) → (code_at s p ≡ no_char → ⊥)
      → parse s F character e p ≡ got true (spelled s p (width_of (byte_at s p) - 1)) (p + width_of (byte_at s p))
  character_spelled p k =
      let b = byte_at s p in
      by_first s p k (λ n. parse s F character e p ≡ got true (spelled s p (n - 1)) (p + n))
      (λ h. Lex.when_no s F e p (0xC0 ‥ 0xDF) (steps 1) longer (under 0xC0 0xDF b (omega arith))
      ∙ Lex.when_no s F e p (0xE0 ‥ 0xEF) (steps 2) longest (under 0xE0 0xEF b (omega arith))
      ∙ Lex.when_no s F e p (0xF0 ‥ 0xF7) (steps 3) step (under 0xF0 0xF7 b (omega arith))
      ∙ steps_read 0 p (let i = Lex.before_end s p b refl (omega arith) in omega arith))
      (λ h h₂ i. Lex.when_yes s F e p (0xC0 ‥ 0xDF) (steps 1) longer (in_range 0xC0 0xDF b h (omega arith))
      ∙ steps_read 1 p i)
      (λ h h₂ i. Lex.when_no s F e p (0xC0 ‥ 0xDF) (steps 1) longer (over 0xC0 0xDF b (omega arith))
      ∙ Lex.when_yes s F e p (0xE0 ‥ 0xEF) (steps 2) longest (in_range 0xE0 0xEF b h (omega arith))
      ∙ steps_read 2 p i)
      (λ h h₂ i. Lex.when_no s F e p (0xC0 ‥ 0xDF) (steps 1) longer (over 0xC0 0xDF b (omega arith))
      ∙ Lex.when_no s F e p (0xE0 ‥ 0xEF) (steps 2) longest (over 0xE0 0xEF b (omega arith))
      ∙ Lex.when_yes s F e p (0xF0 ‥ 0xF7) (steps 3) step (in_range 0xF0 0xF7 b h (omega arith))
      ∙ steps_read 3 p i)

  -- It is read whole.
  pub character_read : (p : ℕ) → (code_at s p ≡ no_char → ⊥)
      → parse s F character e p ≡ got true (out_of (parse s F character e p)) (p + width_of (byte_at s p))
  character_read p k = Lex.known _ (character_spelled p k)
