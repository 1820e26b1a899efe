use Rattle.word.specs.Here.{name_byte}
use Rattle.lex.proofs.TestSteps.{test_steps}
use Rattle.word.proofs.in_name.Goals as goal

pub returns-then-in_word : goal.returns-then-in_word
unfolding name_byte
returns-then-in_word c = search test_steps

pub returns-else-in_word : goal.returns-else-in_word
unfolding name_byte
returns-else-in_word c = search test_steps
