use Rattle.lex.proofs.SameBytes.{same_steps}
use Rattle.lex.proofs.same_at.Goals as goal

pub returns-then-byte : goal.returns-then-byte
returns-then-byte c = search same_steps

pub loop-i-preserved : goal.loop-i-preserved
loop-i-preserved c = search same_steps

pub returns : goal.returns
returns c = search same_steps
