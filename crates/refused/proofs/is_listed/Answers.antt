use Rattle.refused.proofs.RefusedSteps.{refused_steps}
use Rattle.refused.proofs.is_listed.Goals as goal

pub loop-i-init : goal.loop-i-init
loop-i-init c = search refused_steps

pub returns-then-same_at : goal.returns-then-same_at
returns-then-same_at c = search refused_steps

pub loop-i-preserved : goal.loop-i-preserved
loop-i-preserved c = search refused_steps

pub returns : goal.returns
returns c = search refused_steps
