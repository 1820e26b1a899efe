use Prim.Native.Nat.{◌-◌}
use lib.ListN.{length}
use Rattle.same.proofs.MemberSteps.{Left}
use Rattle.same.proofs.jsx_member_expression_eq.Given as goal

abbrev pub invariant-loop-p : goal.invariant-loop-p
invariant-loop-p l = Left l.s l.p l.b l.q l.d l.x l.y

abbrev pub decreases-loop-p : goal.decreases-loop-p
decreases-loop-p l = length l.s - l.x
