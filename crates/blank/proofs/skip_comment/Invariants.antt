use Prim.Native.Nat.{◌+◌, ◌-◌}
use lib.ListN.{length}
use Rattle.jsx.specs.Blank.{comment_turn}
use Rattle.lex.proofs.Turns.{Turns}
use Rattle.blank.proofs.skip_comment.Given as goal

abbrev pub invariant-loop-at : goal.invariant-loop-at
invariant-loop-at l = Turns l.s comment_turn l.at (l.at + 2) l.p

abbrev pub decreases-loop-at : goal.decreases-loop-at
decreases-loop-at l = length l.s - l.p
