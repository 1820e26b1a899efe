use mathlib.Core.Path.{◌≡◌}
use lib.ListN.{take}
use Rattle.line.specs.Fit.{with_fitting}
use Rattle.line.proofs.line.Line.literal.Given as goal

abbrev pub invariant-loop-b : goal.invariant-loop-b
invariant-loop-b l = l.self ≡ with_fitting l.initial.self (take l.b-index l.bytes)
