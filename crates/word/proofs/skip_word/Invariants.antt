use Prim.Native.Nat.{◌+◌, ◌-◌}
use lib.ListN.{length}
use Rattle.rules.specs.Rule.{stop, step, when}
use Rattle.jsx.specs.Name.{in_word}
use Rattle.lex.proofs.Turns.{Turns}
use Rattle.word.proofs.skip_word.Given as goal

abbrev pub invariant-loop-p : goal.invariant-loop-p
invariant-loop-p l = Turns l.s (when in_word step stop) 0 (l.at + 1) l.p

abbrev pub decreases-loop-p : goal.decreases-loop-p
decreases-loop-p l = length l.s - l.p
