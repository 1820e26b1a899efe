use Rattle.token.proofs.DeepSteps.{deep_steps}
use Rattle.token.proofs.too_deep.Goals as goal

pub byte-b-requires : goal.byte-b-requires
byte-b-requires c = search deep_steps

pub returns-then-b-eq-GREATER : goal.returns-then-b-eq-GREATER
returns-then-b-eq-GREATER c = search deep_steps

pub opens_part-requires : goal.opens_part-requires
opens_part-requires c = search deep_steps

pub returns-then-opens_part : goal.returns-then-opens_part
returns-then-opens_part c = search deep_steps

pub unexpected-requires : goal.unexpected-requires
unexpected-requires c = search deep_steps

pub returns : goal.returns
returns c = search deep_steps
