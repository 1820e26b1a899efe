use Rattle.blank.proofs.CommentSteps.{comment_steps}
use Rattle.blank.proofs.Asked.{asked}
use Rattle.blank.proofs.skip_line_comment.Goals as goal

pub loop-p-init : goal.loop-p-init
loop-p-init c = search comment_steps

pub loop-p-preserved-then-byte-lt-WIDE : goal.loop-p-preserved-then-byte-lt-WIDE
loop-p-preserved-then-byte-lt-WIDE c = search comment_steps

pub loop-p-smaller : goal.loop-p-smaller
loop-p-smaller c = search asked

pub loop-p-preserved : goal.loop-p-preserved
loop-p-preserved c = search comment_steps

pub returns : goal.returns
returns c = search comment_steps
