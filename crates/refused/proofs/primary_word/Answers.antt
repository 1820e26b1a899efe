use Rattle.refused.proofs.RefusedSteps.{refused_steps}
use Rattle.refused.proofs.primary_word.Goals as goal

pub returns-then-is_refused_word : goal.returns-then-is_refused_word
returns-then-is_refused_word c = rw c.at.ensures (search refused_steps)

pub returns-else-is_refused_word : goal.returns-else-is_refused_word
returns-else-is_refused_word c = search refused_steps
