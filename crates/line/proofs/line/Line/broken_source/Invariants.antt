use mathlib.Core.Path.{◌≡◌}
use lib.ListN.{take}
use Rattle.std.specs.Prelude.{map}
use Rattle.line.specs.Fit.{with_fitting}
use Rattle.line.specs.Shown.{visible_ascii}
use Rattle.line.proofs.line.Line.broken_source.Given as goal

abbrev pub invariant-loop-b : goal.invariant-loop-b
invariant-loop-b l = l.self ≡ with_fitting l.initial.self (map visible_ascii (take l.b-index l.part))
