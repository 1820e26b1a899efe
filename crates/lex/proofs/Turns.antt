-- A loop of code that reads `many t`: its invariant as one record, and the laws of a turn.
use mathlib.Core.Path.{◌≡◌, sym, ap, ◌∙◌}
use mathlib.Core.Bool.{true, false}
use mathlib.Core.List.{List}
use Prim.Native.Nat.{ℕ, ◌≤◌, ◌<◌}
use native.Mathlib.Omega.{arith}
use lib.ListN.{length}
use Rattle.rules.specs.Forest.{Forest, nil, ◌⋈◌}
use Rattle.rules.specs.Rule.{Rule, many}
use Rattle.rules.specs.Parse.{got, trouble, behind, parsed}
use Rattle.rules.proofs.Forests.{behind_nil}
use Rattle.rules.proofs.Run.{behind_none, behind_behind}
use Rattle.rules.proofs.Turns.{many_more, many_last, many_no}

-- The loop `many t` from `from` on, with the mark e, has come to p:
-- what is left is the same loop, behind what was read.
pub record Turns (s : List ℕ) (t : Rule) (e from p : ℕ) : Type 0 where
  pub past : from ≤ p
  pub inside : p ≤ length s
  pub acc : Forest
  pub so : parsed s (many t) e from ≡ behind acc (parsed s (many t) e p)

-- Before the first turn.
abbrev pub turns_begin : (s : List ℕ) (t : Rule) (e at : ℕ) → at ≤ length s → Turns s t e at at
turns_begin s t e at h = record { past = omega arith; inside = h; acc = nil; so = sym (behind_none _) }

module _ {s : List ℕ} {t : Rule} {e from p : ℕ} (l : Turns s t e from p) where
  -- One more turn, which goes on.
  abbrev pub turns_more : {o : Forest} {q : ℕ}
      → parsed s t e p ≡ got true o q
      → p < q
      → q ≤ length s
      → Turns s t e from q
  turns_more {o} {q} b k i = record {
    past = omega (arith, l.past);
    inside = i;
    acc = l.acc ⋈ o;
    so = l.so ∙ ap (behind l.acc) (many_more s t e p b k l.inside)
        ∙ behind_behind l.acc o (parsed s (many t) e q);
  }

  -- The last turn, which reads nothing.
  pub turns_end : parsed s t e p ≡ got false nil p → parsed s (many t) e from ≡ got true l.acc p
  turns_end b =
      l.so
      ∙ ap (behind l.acc) (many_last s t e p b)
      ∙ ap (λ (o : Forest). got true o p) (behind_nil l.acc)

  -- A turn that refuses.
  pub turns_no : {n a b c d : ℕ} → parsed s t e p ≡ trouble n a b c d → parsed s (many t) e from ≡ trouble n a b c d
  turns_no b = l.so ∙ ap (behind l.acc) (many_no s t e p b)
