use Rattle.jsx.specs.Blank.{blank}
use Rattle.lex.proofs.Turns.{Turns}
use Rattle.blank.proofs.skip_blanks.Given as goal

abbrev pub invariant-loop-p : goal.invariant-loop-p
invariant-loop-p l = Turns l.s blank 0 l.at l.p
