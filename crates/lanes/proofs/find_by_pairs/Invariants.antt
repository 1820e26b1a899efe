use Prim.Native.Nat.{◌-◌}
use lib.ListN.{length}
use Rattle.lanes.specs.First.{Clear}
use Rattle.lanes.proofs.find_by_pairs.Given as goal

abbrev pub invariant-loop-p : goal.invariant-loop-p
invariant-loop-p g l = Clear (g.S.Sought.test l.sought) l.s l.at l.p

abbrev pub decreases-loop-p : goal.decreases-loop-p
decreases-loop-p g l = length l.s - l.p
