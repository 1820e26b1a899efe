use Rattle.refused.proofs.RefusedSteps.{Seen}
use Rattle.refused.proofs.is_listed.Given as goal

abbrev pub invariant-loop-i : goal.invariant-loop-i
invariant-loop-i l = Seen l.words l.s l.a l.n l.count l.p l._i
