use mathlib.Core.Path.{◌≡◌}
use Rattle.spot.specs.Spot.{spot_at}
use Rattle.spot.proofs.spot.Given as goal

abbrev pub invariant-loop-i : goal.invariant-loop-i
invariant-loop-i l = l.x ≡ spot_at l.s l.i
