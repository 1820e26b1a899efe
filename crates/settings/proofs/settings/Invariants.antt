use Prim.Native.Nat.{◌-◌}
use lib.ListN.{length}
use Rattle.settings.proofs.Steps.{Read}
use Rattle.settings.proofs.settings.Given as goal

abbrev pub invariant-loop-at : goal.invariant-loop-at
invariant-loop-at l = Read l.s l.l l.at

abbrev pub decreases-loop-at : goal.decreases-loop-at
decreases-loop-at l = length l.s - l.at
