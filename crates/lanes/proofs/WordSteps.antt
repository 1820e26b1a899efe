-- Eight bytes as a word.
use mathlib.Core.Path.{◌≡◌, ap, ◌∙◌}
use mathlib.Core.List.{List}
use Prim.Native.Nat.{ℕ, ◌+◌, ◌*◌, ◌≤◌, ◌<◌}
use native.Mathlib.Omega.{arith}
use lib.ListN.{length, get_or}
use Rattle.rules.specs.Parse.{byte_at}
use Rattle.lex.specs.Contract.{bytes_from}
use Rattle.lex.proofs.Laws.{inside}
use Rattle.lanes.specs.Lanes.{spread, word_of}

module _ (s : List ℕ) where
  -- A place may be counted in two ways.
  same_byte : (p q : ℕ) → p ≡ q → p < length s → get_or s p 0 ≡ byte_at s q
  same_byte p q e i = inside s p 0 256 i ∙ ap (λ (x : ℕ). byte_at s x) e

  -- Each byte is in its lane.
  pub eight_are : (p : ℕ) {r : ℕ} → p + 8 ≤ length s
      → r ≡ get_or s p 0
      + get_or s (p + 1) 0 * 0x100
      + get_or s (p + 2) 0 * 0x10000
      + get_or s (p + 3) 0 * 0x1000000
      + get_or s (p + 4) 0 * 0x100000000
      + get_or s (p + 5) 0 * 0x10000000000
      + get_or s (p + 6) 0 * 0x1000000000000
      + get_or s (p + 7) 0 * 0x100000000000000
      → r ≡ word_of s p 8
  unfolding spread bytes_from
  eight_are p {r} i w =
      let a = same_byte p p (omega arith) (omega arith) in
      let b = same_byte (p + 1) (p + 1) (omega arith) (omega arith) in
      let c = same_byte (p + 2) (p + 1 + 1) (omega arith) (omega arith) in
      let d = same_byte (p + 3) (p + 1 + 1 + 1) (omega arith) (omega arith) in
      let e = same_byte (p + 4) (p + 1 + 1 + 1 + 1) (omega arith) (omega arith) in
      let f = same_byte (p + 5) (p + 1 + 1 + 1 + 1 + 1) (omega arith) (omega arith) in
      let g = same_byte (p + 6) (p + 1 + 1 + 1 + 1 + 1 + 1) (omega arith) (omega arith) in
      let h = same_byte (p + 7) (p + 1 + 1 + 1 + 1 + 1 + 1 + 1) (omega arith) (omega arith) in
      omega arith
