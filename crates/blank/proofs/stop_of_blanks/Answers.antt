use Rattle.blank.proofs.BlankSteps.{blank_steps, stop_steps}
use Rattle.blank.proofs.Asked.{asked}
use Rattle.blank.proofs.stop_of_blanks.Goals as goal

pub loop-n-init : goal.loop-n-init
loop-n-init c = search blank_steps

pub overflow_add-p : goal.overflow_add-p
overflow_add-p c = search asked

pub loop-n-smaller-then-byte-ne-SLASH : goal.loop-n-smaller-then-byte-ne-SLASH
loop-n-smaller-then-byte-ne-SLASH c = search asked

pub loop-n-preserved-then-byte-ne-SLASH : goal.loop-n-preserved-then-byte-ne-SLASH
loop-n-preserved-then-byte-ne-SLASH c = search blank_steps

pub loop-n-preserved-then-c-eq-SLASH : goal.loop-n-preserved-then-c-eq-SLASH
loop-n-preserved-then-c-eq-SLASH c = search blank_steps

pub returns-then-c-ne-STAR : goal.returns-then-c-ne-STAR
returns-then-c-ne-STAR c = search stop_steps

pub returns-in_default-skip_comment : goal.returns-in_default-skip_comment
returns-in_default-skip_comment c = search stop_steps

pub loop-n-preserved : goal.loop-n-preserved
loop-n-preserved c = search blank_steps

pub returns-in_default : goal.returns-in_default
returns-in_default c = search stop_steps
