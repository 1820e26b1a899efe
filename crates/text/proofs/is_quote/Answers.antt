use Rattle.text.proofs.TestSteps.{test_steps}
use Rattle.text.proofs.is_quote.Goals as goal

pub returns-in-34 : goal.returns-in-34
returns-in-34 c = search test_steps

pub returns-in_default : goal.returns-in_default
returns-in_default c = search test_steps
