use Prim.Native.Nat.{◌-◌}
use lib.ListN.{length}
use Rattle.lex.proofs.Turns.{Turns}
use Rattle.utf8.proofs.Utf8Steps.{turn}
use Rattle.utf8.proofs.utf8.Given as goal

abbrev pub invariant-loop-p : goal.invariant-loop-p
invariant-loop-p l = Turns l.s turn 0 0 l.p

abbrev pub decreases-loop-p : goal.decreases-loop-p
decreases-loop-p l = length l.s - l.p
