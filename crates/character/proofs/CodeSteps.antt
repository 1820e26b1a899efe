-- The code of a character, byte by byte: what each answer of the code follows from.
use mathlib.Core.Path.{◌≡◌, sym, ◌∙◌}
use mathlib.Core.List.{List}
use Prim.Native.Nat.{ℕ, suc, ◌+◌, ◌-◌, ◌*◌, ◌≤◌, ◌<◌}
use borrow.Author.Tests.{lt-ltb, le-ltb}
use Rattle.rules.specs.Parse.{byte_at, no_char, code_on, code_at}

-- ---- behind the first byte

module _ (n : ℕ) (s : List ℕ) (c at : ℕ) {b : ℕ} (y : b ≡ byte_at s at) where
  -- A byte below 80 brings no bits.
  pub bits_under : b < 0x80 → no_char ≡ code_on s (suc n) c at
  unfolding code_on
  bits_under h = sym (rw (← y, lt-ltb b 0x80 h))

  module _ (h : 0x80 ≤ b) where
    -- Nor does one from C0 on.
    pub bits_over : 0xC0 ≤ b → no_char ≡ code_on s (suc n) c at
    unfolding code_on
    bits_over k = sym (rw (← y, le-ltb b 0x80 h, le-ltb b 0xC0 k))

    module _ (k : b < 0xC0) where
      -- The others bring six, and the bytes behind it go on.
      pub bits_go_on : {r : ℕ} → r ≡ code_on s n (c * 0x40 + (b - 0x80)) (at + 1) → r ≡ code_on s (suc n) c at
      unfolding code_on
      bits_go_on e = e ∙ sym (rw (← y, le-ltb b 0x80 h, lt-ltb b 0xC0 k))

-- ---- the first byte

module _ (s : List ℕ) (at : ℕ) {b : ℕ} (y : b ≡ byte_at s at) where
  -- A byte below 80 is its character's code.
  pub code_alone : b < 0x80 → b ≡ code_at s at
  unfolding code_at
  code_alone h = sym (rw (← y, lt-ltb b 0x80 h))

  module _ (h : 0x80 ≤ b) where
    -- None begins with one of those that bring bits.
    pub code_none : b < 0xC0 → no_char ≡ code_at s at
    unfolding code_at
    code_none k = sym (rw (← y, le-ltb b 0x80 h, lt-ltb b 0xC0 k))

    module _ (h₂ : 0xC0 ≤ b) where
      -- Two bytes.
      pub code_two : b < 0xE0 → {r : ℕ} → r ≡ code_on s 1 (b - 0xC0) (at + 1) → r ≡ code_at s at
      unfolding code_at
      code_two k e = e ∙ sym (rw (← y, le-ltb b 0x80 h, le-ltb b 0xC0 h₂, lt-ltb b 0xE0 k))

      module _ (h₃ : 0xE0 ≤ b) where
        -- Three.
        pub code_three : b < 0xF0 → {r : ℕ} → r ≡ code_on s 2 (b - 0xE0) (at + 1) → r ≡ code_at s at
        unfolding code_at
        code_three k e = e ∙ sym (rw (← y, le-ltb b 0x80 h, le-ltb b 0xC0 h₂, le-ltb b 0xE0 h₃, lt-ltb b 0xF0 k))

        module _ (h₄ : 0xF0 ≤ b) where
          -- Four.
          pub code_four : b < 0xF8 → {r : ℕ} → r ≡ code_on s 3 (b - 0xF0) (at + 1) → r ≡ code_at s at
          unfolding code_at
          code_four k e =
              e
              ∙ sym (rw (
                ← y,
                le-ltb b 0x80 h,
                le-ltb b 0xC0 h₂,
                le-ltb b 0xE0 h₃,
                le-ltb b 0xF0 h₄,
                lt-ltb b 0xF8 k,
              ))

          -- None begins with the others, nor at the end.
          pub code_over : 0xF8 ≤ b → no_char ≡ code_at s at
          unfolding code_at
          code_over k =
              sym (rw (
                ← y,
                le-ltb b 0x80 h,
                le-ltb b 0xC0 h₂,
                le-ltb b 0xE0 h₃,
                le-ltb b 0xF0 h₄,
                le-ltb b 0xF8 k,
              ))
