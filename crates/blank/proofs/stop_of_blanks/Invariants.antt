use Prim.Native.Nat.{◌-◌}
use lib.ListN.{length}
use Rattle.jsx.specs.Blank.{blank}
use Rattle.lex.proofs.Turns.{Turns}
use Rattle.blank.proofs.stop_of_blanks.Given as goal

abbrev pub invariant-loop-n : goal.invariant-loop-n
invariant-loop-n l = Turns l.s blank 0 l.at l.p

abbrev pub decreases-loop-n : goal.decreases-loop-n
decreases-loop-n l = length l.s - l.p
