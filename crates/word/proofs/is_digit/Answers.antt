use Rattle.jsx.specs.Byte.{digit}
use Rattle.lex.proofs.TestSteps.{test_steps}
use Rattle.word.proofs.is_digit.Goals as goal

pub returns : goal.returns
unfolding digit
returns c = search test_steps
