-- What calls, sums and loops of this crate ask.
use borrow.Author.Rules.{rules}

pub ruleset asked = (rules)
