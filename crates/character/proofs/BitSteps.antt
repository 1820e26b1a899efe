-- The bytes behind a character's first, one by one: what each need of the loop over them follows from.
use mathlib.Core.Path.{◌≡◌, refl, sym, ap, ◌∙◌}
use mathlib.Core.List.{List}
use Prim.Native.Nat.{ℕ, zero, suc, ◌+◌, ◌-◌, ◌*◌, ◌≤◌, ◌<◌, ◌^◌}
use native.Mathlib.Omega.{arith}
use Rattle.rules.specs.Parse.{byte_at, no_char, code_on}
use Rattle.character.proofs.CodeSteps.{bits_under, bits_over, bits_go_on}

-- A first byte brings at most five bits, and each behind it six.
abbrev pub most : ℕ → ℕ
most zero = 2 ^ 5
most (suc zero) = 2 ^ 11
most (suc (suc zero)) = 2 ^ 17
most (suc (suc (suc i))) = 2 ^ 23

-- Of the n bytes from a place on, i have brought their bits.
pub record Gone (s : List ℕ) (n c at i code : ℕ) : Type 0 where
  pub small : code < most i
  pub rest : code_on s (n - i) code (at + i) ≡ code_on s n c at

module _ (s : List ℕ) (n c at : ℕ) where
  pub gone_begins : c < 2 ^ 5 → Gone s n c at 0 c
  gone_begins h =
      let e : n - 0 ≡ n = omega arith in
      let f : at + 0 ≡ at = omega arith in
      record { small = h; rest = rw (e, f) }

  module _ {i code : ℕ} (g : Gone s n c at i code) where
    pub gone_ends : n ≤ i → code ≡ code_on s n c at
    unfolding code_on
    gone_ends h = let e : n - i ≡ 0 = omega arith in sym (ap (λ (k : ℕ). code_on s k code (at + i)) e) ∙ g.rest

    module _ (l : i < n) where
      left : n - i ≡ suc (n - (i + 1))
      left = omega arith

      one : code_on s (suc (n - (i + 1))) code (at + i) ≡ code_on s n c at
      one = ap (λ (k : ℕ). code_on s k code (at + i)) (sym left) ∙ g.rest

      module _ {b : ℕ} (y : b ≡ byte_at s (at + i)) where
        pub gone_under : b < 0x80 → no_char ≡ code_on s n c at
        gone_under h = bits_under (n - (i + 1)) s code (at + i) y h ∙ one

        module _ (h : 0x80 ≤ b) where
          pub gone_over : 0xC0 ≤ b → no_char ≡ code_on s n c at
          gone_over k = bits_over (n - (i + 1)) s code (at + i) y h k ∙ one

          module _ (k : b < 0xC0) where
            fits : (j : ℕ) → j < 3 → code < most j → code * 0x40 + (b - 0x80) < most (j + 1)
            fits zero m q = omega arith
            fits (suc zero) m q = omega arith
            fits (suc (suc zero)) m q = omega arith
            fits (suc (suc (suc j))) m q = absurd (omega arith)

            pub gone_on : n ≤ 3 → Gone s n c at (i + 1) (code * 0x40 + (b - 0x80))
            gone_on m =
                let e : at + i + 1 ≡ at + (i + 1) = omega arith in
                record {
                  small = fits i (omega arith) g.small;
                  rest = ap (code_on s (n - (i + 1)) (code * 0x40 + (b - 0x80))) (sym e)
                      ∙ bits_go_on (n - (i + 1)) s code (at + i) y h k refl
                      ∙ one;
                }

-- Before the last byte a code has at most 17 bits.
pub before_last : {s : List ℕ} {n c at i code : ℕ} → Gone s n c at i code → i < n → n ≤ 3 → code < 2 ^ 17
before_last {i = i} {code} g l m = by i g.small (omega arith)
  where
    by : (j : ℕ) → code < most j → j < 3 → code < 2 ^ 17
    by zero h k = omega arith
    by (suc zero) h k = omega arith
    by (suc (suc zero)) h k = omega arith
    by (suc (suc (suc j))) h k = absurd (omega arith)

pub ruleset bit_steps = (gone_begins, gone_ends, gone_under, gone_over, gone_on, before_last)
