use borrow.Author.Rules.{rules}
use Rattle.print.proofs.WholeSteps.{fronted}
use Rattle.print.proofs.program_text.Goals as goal

pub returns : goal.returns
returns c = fronted c.requires (search rules)
