use Prim.Native.Nat.{◌-◌}
use lib.ListN.{length}
use Rattle.table.specs.Slot.{seat}
use Rattle.name.proofs.DottedSteps.{Dotted}
use Rattle.name.proofs.parse_dotted_parts.Given as goal

abbrev pub invariant-loop-q : goal.invariant-loop-q
invariant-loop-q l = Dotted l.s l.at (seat l.slot) l.initial.t l.p l.m l.t

abbrev pub decreases-loop-q : goal.decreases-loop-q
decreases-loop-q l = length l.s - l.p
