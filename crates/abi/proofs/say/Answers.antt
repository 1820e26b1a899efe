use mathlib.Core.Path.{refl}
use Rattle.stage.proofs.Replies.{replied_ok, replied_err}
use Rattle.abi.proofs.Steps.{say_accepted, say_refused}
use Rattle.abi.proofs.say.Goals as goal

pub returns-in-Ok : goal.returns-in-Ok
returns-in-Ok c = say_accepted (replied_ok c.in-Ok.is) refl

pub returns-in-Err : goal.returns-in-Err
returns-in-Err c = say_refused (replied_err c.in-Err.is) c.number.ensures refl refl refl refl
