use Rattle.lanes.specs.First.{Clear}
use Rattle.lanes.proofs.find_by_bytes.Given as goal

abbrev pub invariant-loop-p : goal.invariant-loop-p
invariant-loop-p g l = Clear (g.S.Sought.test l.sought) l.s l.at l.p
