use Rattle.blank.proofs.CommentSteps.{comment_steps}
use Rattle.blank.proofs.skip_comment.Goals as goal

pub loop-at-init : goal.loop-at-init
loop-at-init c = search comment_steps

pub returns-then-two_at : goal.returns-then-two_at
returns-then-two_at c = search comment_steps

pub loop-at-preserved : goal.loop-at-preserved
loop-at-preserved c = search comment_steps

pub returns : goal.returns
returns c = rw c.at.ensures (search comment_steps)
