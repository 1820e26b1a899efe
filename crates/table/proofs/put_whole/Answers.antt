use Rattle.table.proofs.Seats.{parent_fits, whole_stored}
use native.Mathlib.Omega.{arith}
use lib.ListN.{length-set}
use Rattle.table.proofs.put_whole.Goals as goal

pub bounds-t-1 : goal.bounds-t-1
bounds-t-1 g c = simp length-set (omega arith)

pub bounds-t-2 : goal.bounds-t-2
bounds-t-2 g c = simp length-set (omega arith)

pub overflow_cast-t-4 : goal.overflow_cast-t-4
overflow_cast-t-4 g c = search parent_fits

pub bounds-t-3 : goal.bounds-t-3
bounds-t-3 g c = simp length-set (omega arith)

pub bounds-t-4 : goal.bounds-t-4
bounds-t-4 g c = simp length-set (omega arith)

pub bounds-t-5 : goal.bounds-t-5
bounds-t-5 g c = simp length-set (omega arith)

pub bounds-t-6 : goal.bounds-t-6
bounds-t-6 g c = simp length-set (omega arith)

pub returns : goal.returns
returns g c = search whole_stored
