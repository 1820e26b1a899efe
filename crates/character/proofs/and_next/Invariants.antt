use Rattle.character.proofs.BitSteps.{Gone}
use Rattle.character.proofs.and_next.Given as goal

abbrev pub invariant-loop-i : goal.invariant-loop-i
invariant-loop-i g l = Gone l.s g.row.N l.fn.c l.at l.i l.code
