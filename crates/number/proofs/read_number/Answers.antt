use Rattle.number.proofs.NumberSteps.{number_steps}
use Rattle.number.proofs.read_number.Goals as goal

pub returns-then-byte-ne-DOT : goal.returns-then-byte-ne-DOT
returns-then-byte-ne-DOT c = search number_steps

pub returns-then-is_digit : goal.returns-then-is_digit
returns-then-is_digit c = search number_steps

pub returns : goal.returns
returns c = rw c.at.ensures (search number_steps)
