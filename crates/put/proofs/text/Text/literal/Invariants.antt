use lib.ListN.{take}
use Rattle.put.specs.Puts.{Puts}
use Rattle.put.proofs.text.Text.literal.Given as goal

abbrev pub invariant-loop-b : goal.invariant-loop-b
invariant-loop-b l = Puts l.b-index (take l.b-index l.bytes) l.initial.self l.self
