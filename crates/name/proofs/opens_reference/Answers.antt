use native.Mathlib.Omega.{arith}
use Rattle.jsx.specs.Name.{opens_reference}
use Rattle.name.proofs.opens_reference.Goals as goal

pub returns-then-b-eq-DOLLAR : goal.returns-then-b-eq-DOLLAR
unfolding opens_reference
returns-then-b-eq-DOLLAR c = grind arith

pub returns-else-b-eq-DOLLAR : goal.returns-else-b-eq-DOLLAR
unfolding opens_reference
returns-else-b-eq-DOLLAR c = grind arith
