use Prim.Native.Nat.{◌-◌}
use lib.ListN.{length}
use Rattle.word.proofs.PartSteps.{Ascii}
use Rattle.word.proofs.parse_jsx_identifier.Given as goal

abbrev pub invariant-loop-p : goal.invariant-loop-p
invariant-loop-p l = Ascii l.s l.at l.p

abbrev pub decreases-loop-p : goal.decreases-loop-p
decreases-loop-p l = length l.s - l.p
