use Rattle.word.proofs.RunSteps.{run_steps}
use Rattle.word.proofs.read_word.Goals as goal

pub returns-else-opens_name : goal.returns-else-opens_name
returns-else-opens_name c = search run_steps
