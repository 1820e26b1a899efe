use mathlib.Core.Path.{refl}
use Rattle.lex.proofs.Results.{err_is, refused_is, said_ok}
use Rattle.stage.proofs.CallSteps.{numbers, check_stops, check_made, sound_short}
use Rattle.stage.proofs.check.Goals as goal

pub returns-in_err-sound : goal.returns-in_err-sound
returns-in_err-sound c = rw (err_is _ c.from_residual.ensures.1)
    (check_stops (numbers _) c.in_err-sound.ensures (refused_is _) refl)

pub read_into-requires : goal.read_into-requires
read_into-requires c = sound_short c.sound.ensures (said_ok c.branch-sound.ensures c.in_ok-sound.is) refl

pub returns-in_err-m : goal.returns-in_err-m
returns-in_err-m c = rw (err_is _ c.from_residual-in_err-m.ensures.1)
    (check_made (numbers _) c.sound.ensures (said_ok c.branch-sound.ensures c.in_ok-sound.is) c.in_err-m.ensures refl)

pub returns : goal.returns
returns c =
    check_made (numbers _) c.sound.ensures (said_ok c.branch-sound.ensures c.in_ok-sound.is) c.in_ok-m.ensures refl
