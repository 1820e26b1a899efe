-- What calls, sums and loops of this crate ask.
use Rattle.std.proofs.Common.{rules}
use Rattle.text.proofs.TextSteps.{text_asked}
use Rattle.text.proofs.QuoteSteps.{quote_asked}

pub ruleset asked = (rules, text_asked, quote_asked)
