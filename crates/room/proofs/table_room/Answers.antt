use mathlib.Core.Path.{sym}
use Prim.Native.Nat.{ℕ, ◌*◌}
use lib.ListN.{length-replicate}
use Rattle.rules.specs.Record.{row_words}
use Rattle.room.proofs.table_room.Goals as goal

pub returns : goal.returns
returns c = sym (length-replicate {A = ℕ} (row_words * 131_072) 0)
