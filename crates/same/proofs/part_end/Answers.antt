use Rattle.same.proofs.EndSteps.{end_asked, end_steps}
use Rattle.same.proofs.part_end.Goals as goal

pub continue_lex_jsx_identifier-requires : goal.continue_lex_jsx_identifier-requires
continue_lex_jsx_identifier-requires c = search end_asked

pub returns : goal.returns
returns c = search end_steps
