use native.Mathlib.Omega.{arith}
use Rattle.jsx.specs.Name.{opens_name}
use Rattle.word.proofs.opens_name.Goals.{then-is_letter, else-is_letter}
use Rattle.word.proofs.opens_name.Goals as goal

pub returns-then-b-eq-UNDERSCORE : goal.returns-then-b-eq-UNDERSCORE
unfolding opens_name
returns-then-b-eq-UNDERSCORE c = grind arith

pub returns-else-b-eq-UNDERSCORE : goal.returns-else-b-eq-UNDERSCORE
unfolding opens_name
returns-else-b-eq-UNDERSCORE c = grind arith
