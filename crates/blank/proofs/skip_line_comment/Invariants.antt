use Prim.Native.Nat.{◌+◌, ◌-◌}
use lib.ListN.{length}
use Rattle.jsx.specs.Blank.{line_turn}
use Rattle.lex.proofs.Turns.{Turns}
use Rattle.blank.proofs.skip_line_comment.Given as goal

abbrev pub invariant-loop-p : goal.invariant-loop-p
invariant-loop-p l = Turns l.s line_turn 0 (l.at + 2) l.p

abbrev pub decreases-loop-p : goal.decreases-loop-p
decreases-loop-p l = length l.s - l.p
