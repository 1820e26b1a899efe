use Rattle.text.proofs.Asked.{asked}
use Rattle.text.proofs.TextSteps.{text_steps}
use Rattle.text.proofs.read_jsx_text.Goals as goal

pub find-requires : goal.find-requires
find-requires c = search asked

pub returns : goal.returns
returns c = search text_steps
