use Rattle.jsx.specs.Unicode.{ordered_from}
use Rattle.jsx.specs.Ranges.{start_ranges}
use borrow.Author.Rules.{rules}
use Rattle.identifier.proofs.ScriptSteps.{start_common}
use Rattle.identifier.proofs.is_identifier_start_unicode.Goals as goal

pub in_ranges-requires : goal.in_ranges-requires
unfolding ordered_from
in_ranges-requires c = search rules

pub returns-then-is_common : goal.returns-then-is_common
returns-then-is_common c = search (rules, start_common)

pub returns-else-is_common : goal.returns-else-is_common
unfolding start_ranges
returns-else-is_common c = search rules
