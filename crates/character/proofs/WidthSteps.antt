-- How many bytes a character has: what each answer of `width` follows from.
use mathlib.Core.Path.{◌≡◌, sym}
use Prim.Native.Nat.{ℕ, ◌≤◌, ◌<◌}
use native.Mathlib.Omega.{arith}
use Rattle.lex.proofs.Ranges.{in_range, under, over}
use Rattle.character.specs.Width.{width_of}

module _ {b : ℕ} where
  -- A byte that says of none that follows.
  pub width_one : b < 0xC0 → 1 ≡ width_of b
  unfolding width_of
  width_one h = sym (rw (under 0xC0 0xDF b h, under 0xE0 0xEF b (omega arith), under 0xF0 0xF7 b (omega arith)))

  module _ (h : 0xC0 ≤ b) where
    -- Of one.
    pub width_two : b < 0xE0 → 2 ≡ width_of b
    unfolding width_of
    width_two k = sym (rw (in_range 0xC0 0xDF b h (omega arith)))

    module _ (h₂ : 0xE0 ≤ b) where
      -- Of two.
      pub width_three : b < 0xF0 → 3 ≡ width_of b
      unfolding width_of
      width_three k = sym (rw (over 0xC0 0xDF b (omega arith), in_range 0xE0 0xEF b h₂ (omega arith)))

      module _ (h₃ : 0xF0 ≤ b) where
        -- Of three.
        pub width_four : b < 0xF8 → 4 ≡ width_of b
        unfolding width_of
        width_four k =
            sym
            (rw (over 0xC0 0xDF b (omega arith), over 0xE0 0xEF b (omega arith), in_range 0xF0 0xF7 b h₃ (omega arith)))
