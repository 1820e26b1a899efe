use Rattle.jsx.specs.Refusal.{string_never_closed}
use Rattle.text.proofs.QuoteSteps.{Quoted, in_string}
use Rattle.text.proofs.read_string.Given as goal

abbrev pub invariant-loop-p : goal.invariant-loop-p
invariant-loop-p l = Quoted string_never_closed in_string l.s l.at l.q l.p
