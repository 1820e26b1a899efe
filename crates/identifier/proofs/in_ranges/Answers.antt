use mathlib.Core.Path.{◌∙◌}
use borrow.Author.Rules.{rules}
use Rattle.std.proofs.lemmas.Fn.{always_returns_same}
use Rattle.identifier.proofs.RangeSteps.{side, searched}
use Rattle.identifier.proofs.in_ranges.Goals as goal

pub returns : goal.returns
returns c =
    c.is_ok.ensures.value
    ∙ searched c.args.r.now c.args.c c.requires c.binary_search_by.result c.binary_search_by.ensures.bound
    (c.binary_search_by.ensures.position (side c.args.c)
    (always_returns_same _ _ _ (λ a r f' k. search rules)))
