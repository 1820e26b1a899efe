-- What calls, sums and loops of this crate ask.
use borrow.Author.Rules.{rules}
use Rattle.lex.proofs.Runs.{run_nearer}
use Rattle.number.proofs.DigitSteps.{digit_end, digit_asked, digit_room}

pub ruleset asked = (rules, digit_end, run_nearer, digit_asked, digit_room)
