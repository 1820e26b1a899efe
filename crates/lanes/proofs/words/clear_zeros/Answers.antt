use borrow.Author.Rules.{rules}
use Rattle.lanes.proofs.MaskSteps.{zeros_fit, mask_steps}
use Rattle.lanes.proofs.words.clear_zeros.Goals as goal

pub overflow_add-result : goal.overflow_add-result
overflow_add-result c = search (rules, zeros_fit)

pub returns : goal.returns
returns c = search mask_steps
