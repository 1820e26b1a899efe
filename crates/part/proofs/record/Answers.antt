-- Each test of the code is one of the record; the two words read are its start and its end.
use Rattle.part.proofs.Parts.{place_steps}
use Rattle.part.proofs.record.Goals as goal

pub returns-then-count-number : goal.returns-then-count-number
returns-then-count-number c = search place_steps

pub returns-then-t-number : goal.returns-then-t-number
returns-then-t-number c = search place_steps

pub returns : goal.returns
returns c = search place_steps
