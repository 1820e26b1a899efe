use Rattle.jsx.specs.Byte.{letter}
use Rattle.lex.proofs.TestSteps.{test_steps}
use Rattle.word.proofs.is_letter.Goals as goal

pub returns-then-within : goal.returns-then-within
unfolding letter
returns-then-within c = search test_steps

pub returns-else-within : goal.returns-else-within
unfolding letter
returns-else-within c = search test_steps
