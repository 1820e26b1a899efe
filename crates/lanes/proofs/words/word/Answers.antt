use Rattle.lanes.proofs.WordSteps.{eight_are}
use Rattle.lanes.proofs.words.word.Goals as goal

pub returns : goal.returns
returns c = eight_are c.args.s.now c.args.p c.requires c.from_le_bytes.ensures
