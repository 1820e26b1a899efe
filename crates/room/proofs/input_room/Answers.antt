use mathlib.Core.Path.{sym}
use Prim.Native.Nat.{ℕ}
use lib.ListN.{length-replicate}
use Rattle.room.proofs.input_room.Goals as goal

pub returns : goal.returns
returns c = sym (length-replicate {A = ℕ} 1_048_577 0)
