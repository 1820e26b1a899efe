use Rattle.jsx.specs.Name.{in_word}
use Rattle.lex.proofs.TestSteps.{test_steps}
use Rattle.word.proofs.in_word.Goals as goal

pub returns-then-opens_name : goal.returns-then-opens_name
unfolding in_word
returns-then-opens_name c = search test_steps

pub returns-else-opens_name : goal.returns-else-opens_name
unfolding in_word
returns-else-opens_name c = search test_steps
