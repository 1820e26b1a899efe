-- What calls, sums and loops of this crate ask.
use borrow.Author.Rules.{rules}
use Rattle.lex.proofs.Runs.{run_nearer}
use Rattle.word.proofs.RunSteps.{word_end, opens_asked}
use Rattle.word.proofs.PartSteps.{byte_inside, byte_nearer, first_inside, first_fits}
use Rattle.word.proofs.PartSteps.{part_fits, part_nearer, common_fits, common_nearer}

pub ruleset asked = (
  rules,
  word_end,
  run_nearer,
  opens_asked,
  byte_inside,
  byte_nearer,
  first_inside,
  first_fits,
  part_fits,
  part_nearer,
  common_fits,
  common_nearer,
)
