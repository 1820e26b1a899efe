use Rattle.spot.proofs.Steps.{end_found, end_missing}
use Rattle.spot.proofs.line_end.Goals as goal

pub returns-in-Some : goal.returns-in-Some
returns-in-Some c = end_found c.args.s.now c.args.p c.requires c.in-Some.ensures.first

pub returns-in-None : goal.returns-in-None
returns-in-None c = end_missing c.args.s.now c.args.p c.requires c.in-None.ensures.first
