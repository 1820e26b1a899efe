use Rattle.word.proofs.PartSteps.{part_steps}
use Rattle.word.proofs.Asked.{asked}
use Rattle.word.proofs.parse_jsx_identifier.Goals as goal

pub loop-p-init : goal.loop-p-init
loop-p-init c = search part_steps

pub loop-p-smaller : goal.loop-p-smaller
loop-p-smaller c = search asked

pub loop-p-preserved : goal.loop-p-preserved
loop-p-preserved c = search part_steps

pub returns-then-byte-lt-WIDE : goal.returns-then-byte-lt-WIDE
returns-then-byte-lt-WIDE c = search (part_steps, c.loop-p.invariant)

pub returns-in-Some : goal.returns-in-Some
returns-in-Some c = search part_steps

pub returns-in-None : goal.returns-in-None
returns-in-None c = search (part_steps, c.in-None.ensures)
