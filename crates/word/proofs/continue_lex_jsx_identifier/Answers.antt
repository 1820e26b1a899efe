use Rattle.word.proofs.PartSteps.{part_steps}
use Rattle.word.proofs.Asked.{asked}
use Rattle.word.proofs.continue_lex_jsx_identifier.Goals as goal

pub overflow_add-at : goal.overflow_add-at
overflow_add-at c = search asked

pub end_beyond-requires : goal.end_beyond-requires
end_beyond-requires c = search asked

pub returns : goal.returns
returns c = search part_steps
