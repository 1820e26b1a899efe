use Rattle.word.proofs.DashSteps.{dash_among}
use Rattle.word.proofs.dashed.Goals as goal

pub returns : goal.returns
returns c = dash_among c.args.s.now c.args.a c.args.b c.requires.0 c.requires.1 c.contains.ensures.value
