use Rattle.blank.proofs.BlankSteps.{blank_steps}
use Rattle.blank.proofs.skip_blanks.Goals as goal

pub loop-p-init : goal.loop-p-init
loop-p-init c = search blank_steps

pub returns-then-b-ne-SLASH : goal.returns-then-b-ne-SLASH
returns-then-b-ne-SLASH c = search blank_steps

pub returns-then-not-opens_comment : goal.returns-then-not-opens_comment
returns-then-not-opens_comment c = search blank_steps

pub returns-in-loop-p : goal.returns-in-loop-p
returns-in-loop-p c = search blank_steps

pub loop-p-preserved : goal.loop-p-preserved
loop-p-preserved c = search blank_steps

pub returns : goal.returns
returns c = search blank_steps
