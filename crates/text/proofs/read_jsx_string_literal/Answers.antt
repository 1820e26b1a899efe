use Rattle.text.proofs.Asked.{asked}
use Rattle.text.proofs.QuoteSteps.{quote_steps}
use Rattle.text.proofs.read_jsx_string_literal.Goals as goal

pub bounds-s-at : goal.bounds-s-at
bounds-s-at c = search asked

pub find-p-requires : goal.find-p-requires
find-p-requires c = search asked

pub returns-then-p-s : goal.returns-then-p-s
returns-then-p-s c = search quote_steps

pub returns : goal.returns
returns c = search quote_steps
