use Rattle.utf8.proofs.Utf8Steps.{utf8_steps}
use Rattle.utf8.proofs.utf8.Goals as goal

pub loop-p-init : goal.loop-p-init
loop-p-init c = search utf8_steps

pub loop-p-preserved-then-byte-lt128 : goal.loop-p-preserved-then-byte-lt128
loop-p-preserved-then-byte-lt128 c = search utf8_steps

pub loop-p-preserved-then-b-lt128 : goal.loop-p-preserved-then-b-lt128
loop-p-preserved-then-b-lt128 c = search utf8_steps

pub returns-in_default : goal.returns-in_default
returns-in_default c = search utf8_steps

pub loop-p-preserved : goal.loop-p-preserved
loop-p-preserved c = search utf8_steps

pub returns : goal.returns
returns c = search utf8_steps
