use Prim.Native.Nat.{◌-◌}
use lib.ListN.{length}
use Rattle.lex.proofs.Turns.{Turns}
use Rattle.word.proofs.PartSteps.{part_turn}
use Rattle.word.proofs.end_of_rare.Given as goal

abbrev pub invariant-loop-n : goal.invariant-loop-n
invariant-loop-n l = Turns l.s part_turn 0 l.at l.p

abbrev pub decreases-loop-n : goal.decreases-loop-n
decreases-loop-n l = length l.s - l.p
