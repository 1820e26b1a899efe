-- Digits, step by step.
use mathlib.Core.Path.{◌≡◌, refl, ap, ◌∙◌}
use mathlib.Core.Bool.{Bool, true, false}
use mathlib.Core.List.{List}
use Prim.Native.Nat.{ℕ, suc, ◌+◌, ◌≤◌, ◌<◌}
use native.Mathlib.Omega.{arith}
use lib.ListN.{length}
use Rattle.rules.specs.Forest.{nil, byte}
use Rattle.rules.specs.Rule.{stop, step, when}
use Rattle.rules.specs.Parse.{behind, byte_at}
use Rattle.rules.proofs.Turns.{many_more}
use Rattle.jsx.specs.Byte.{digit}
use Rattle.jsx.specs.Word.{digits}
use Rattle.lex.specs.Contract.{Past}
use Rattle.lex.proofs.Laws.{test_inside, tested}
use Rattle.lex.proofs.Turns.{Turns}
use Rattle.lex.proofs.Runs.{test_step, run_begins, run_goes_on, run_ends, past}

-- The end is no digit, so a digit stands within the input.
pub digit_end : digit 256 ≡ false
unfolding digit
digit_end = refl

pub digit_inside : (s : List ℕ) (at : ℕ) → digit (byte_at s at) ≡ true → at < length s
digit_inside s at h = test_inside digit digit_end s at h

-- Their end.
module _ {s : List ℕ} {at p b : ℕ} {t : Bool} where
  pub digits_end : digit (byte_at s at) ≡ true → Turns s (when digit step stop) 0 (at + 1) p → b ≡ byte_at s p
      → t ≡ digit b → t ≡ false → Past p s digits at 1
  unfolding digits
  digits_end o v y i x =
      let h = digit_inside s at o in
      let first = test_step s (suc (length s)) 0 at digit stop o h in
      past h v
      (many_more s (when digit step stop) 0 at first (omega arith) (omega arith)
      ∙ ap (behind (byte (byte_at s at) nil)) (run_ends v y i x))

module _ (s : List ℕ) (at : ℕ) {b : ℕ} (y : b ≡ byte_at s at) {t : Bool} where
  -- The byte that the code has seen is a digit.
  pub digit_asked : t ≡ digit b → t ≡ true → digit (byte_at s at) ≡ true
  digit_asked i x = tested digit y i x

  -- Its place is within the input.
  pub digit_room : t ≡ digit b → t ≡ true → at ≤ length s
  digit_room i x = let o = digit_inside s at (tested digit y i x) in omega arith

pub ruleset digit_steps = (digit_end, digit_inside, run_begins, run_goes_on, digits_end)
