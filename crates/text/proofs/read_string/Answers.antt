use Rattle.text.proofs.QuoteSteps.{quote_steps}
use Rattle.text.proofs.read_string.Goals as goal

pub loop-p-init : goal.loop-p-init
loop-p-init c = search quote_steps

pub returns-then-b-q : goal.returns-then-b-q
returns-then-b-q c = search quote_steps

pub returns-then-b-eq-BACKSLASH : goal.returns-then-b-eq-BACKSLASH
returns-then-b-eq-BACKSLASH c = search quote_steps

pub returns-then-is_line_end : goal.returns-then-is_line_end
returns-then-is_line_end c = search quote_steps

pub loop-p-preserved : goal.loop-p-preserved
loop-p-preserved c = search quote_steps

pub returns : goal.returns
returns c = search quote_steps
