use Rattle.jsx.specs.Unicode.{in_ranges, ordered_from}
use Rattle.jsx.specs.Ranges.{continue_ranges}
use borrow.Author.Rules.{rules}
use Rattle.lex.proofs.Laws.{is_first, is_second}
use Rattle.lex.proofs.TestSteps.{or_first, or_second}
use Rattle.identifier.proofs.is_identifier_part_unicode.Goals as goal

pub in_ranges-requires : goal.in_ranges-requires
unfolding ordered_from
in_ranges-requires c = search rules

pub returns-then-c-eq-ZERO_WIDTH_NON_JOINER : goal.returns-then-c-eq-ZERO_WIDTH_NON_JOINER
unfolding continue_ranges in_ranges
returns-then-c-eq-ZERO_WIDTH_NON_JOINER c = search (rules, or_first, or_second, is_first, is_second)

pub returns-else-c-eq-ZERO_WIDTH_NON_JOINER : goal.returns-else-c-eq-ZERO_WIDTH_NON_JOINER
unfolding continue_ranges
returns-else-c-eq-ZERO_WIDTH_NON_JOINER c = search (rules, or_second, is_second)
