-- What sums and loops of this crate ask.
use Rattle.lex.proofs.Results.{results}
use Rattle.blank.proofs.CommentSteps.{line_turn_nearer, line_skip_nearer}
use Rattle.blank.proofs.BlankSteps.{blank_fits, blank_nearer}

pub ruleset asked = (results, line_turn_nearer, line_skip_nearer, blank_fits, blank_nearer)
