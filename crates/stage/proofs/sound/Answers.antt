use Rattle.stage.proofs.SoundSteps.{sound_steps}
use Rattle.stage.proofs.sound.Goals as goal

pub returns-then-s-gt-MOST_BYTES : goal.returns-then-s-gt-MOST_BYTES
returns-then-s-gt-MOST_BYTES c = rw c.at.ensures (search sound_steps)

pub utf8-requires : goal.utf8-requires
utf8-requires c = search sound_steps

pub returns : goal.returns
returns c = search sound_steps
