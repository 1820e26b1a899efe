use mathlib.Core.Path.{◌≡◌}
use lib.ListN.{replicate}
use Rattle.line.specs.Fit.{with_fitting}
use Rattle.line.proofs.line.Line.many.Given as goal

abbrev pub invariant-loop-i : goal.invariant-loop-i
invariant-loop-i l = l.self ≡ with_fitting l.initial.self (replicate l._i l.b)
