-- Turns over a stretch that is clear.
use mathlib.Core.Path.{◌≡◌, subst}
use mathlib.Core.Bool.{true, false}
use mathlib.Core.List.{List}
use Prim.Native.Nat.{ℕ, zero, suc, ◌+◌, ◌-◌, ◌≤◌, ◌<◌}
use native.Mathlib.Omega.{arith}
use lib.ListN.{length}
use Rattle.rules.specs.Forest.{nil, byte}
use Rattle.rules.specs.Rule.{Test, Rule}
use Rattle.rules.specs.Parse.{got, byte_at, parsed}
use Rattle.lex.proofs.Turns.{Turns, turns_more}
use Rattle.lanes.specs.First.{Clear}

-- Where each turn of a loop passes one byte that fails a test, the loop passes a stretch that is clear of such bytes.
pub turns_over : (f : Test) {s : List ℕ} {t : Rule} {e from p q : ℕ} → Turns s t e from p → Clear f s p q
    → ((i : ℕ) → i < length s → f (byte_at s i) ≡ false → parsed s t e i ≡ got true (byte (byte_at s i) nil) (i + 1))
    → Turns s t e from q
turns_over f {s} {t} {e} {from} {p} {q} v c pass =
    let k = c.past in
    go (q - p) p v (λ i l u. c.none i l u) (omega arith)
  where
    go : (n p : ℕ) → Turns s t e from p → ((i : ℕ) → p ≤ i → i < q → f (byte_at s i) ≡ false) → p + n ≡ q
        → Turns s t e from q
    go zero p v none k = let y : p ≡ q = omega arith in subst (Turns s t e from) y v
    go (suc n) p v none k =
        let h = c.inside in
        let i : p < length s = omega arith in
        go n (p + 1) (turns_more v (pass p i (none p (omega arith) (omega arith))) (omega arith) (omega arith))
        (λ j l u. none j (omega arith) u) (omega arith)
