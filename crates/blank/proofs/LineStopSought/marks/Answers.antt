use Rattle.blank.proofs.CommentSteps.{comment_steps}
use Rattle.blank.proofs.LineStopSought.marks.Goals as goal

pub returns : goal.returns
returns c = search comment_steps
