use Prim.Native.Nat.{◌-◌}
use Rattle.lex.proofs.SameBytes.{Compared}
use Rattle.lex.proofs.same_at.Given as goal

abbrev pub invariant-loop-i : goal.invariant-loop-i
invariant-loop-i l = Compared l.t l.k l.s l.a l.n l.i

abbrev pub decreases-loop-i : goal.decreases-loop-i
decreases-loop-i l = l.n - l.i
