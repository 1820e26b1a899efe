use mathlib.Core.Path.{refl, ap}
use Rattle.lex.proofs.Results.{err_is, refused_is}
use Rattle.stage.specs.Call.{reply_of}
use Rattle.stage.proofs.CallSteps.{numbers, checked_short, read_stops, read_small, read_made}
use Rattle.stage.proofs.read.Goals as goal

pub returns-in_err-m : goal.returns-in_err-m
returns-in_err-m c = rw (err_is _ c.from_residual.ensures.1)
    (read_stops (numbers _) c.in_err-m.ensures (ap reply_of (refused_is _)))

pub returns-then-t-m : goal.returns-then-t-m
returns-then-t-m c = rw c.over.ensures (read_small (numbers _) c.in_ok-m.ensures refl c.if-t-m.true refl)

pub read_into-requires : goal.read_into-requires
read_into-requires c = checked_short (numbers _) c.in_ok-m.ensures refl refl

pub returns-in_err-k : goal.returns-in_err-k
returns-in_err-k c = rw (err_is _ c.from_residual-in_err-k.ensures.1)
    (read_made (numbers _) c.in_ok-m.ensures refl c.if-t-m.false c.in_err-k.ensures refl)

pub returns : goal.returns
returns c = read_made (numbers _) c.in_ok-m.ensures refl c.if-t-m.false c.in_ok-k.ensures refl
