use Prim.Native.Nat.{◌*◌}
use Rattle.jsx.specs.Program.{row_lines}
use Rattle.put.specs.Text.{row_bytes}
use Rattle.put.specs.Puts.{Puts}
use Rattle.put.proofs.text.Text.rows.Given as goal

abbrev pub invariant-loop-i : goal.invariant-loop-i
invariant-loop-i l = Puts (row_bytes * l.i) (row_lines l.t l.i l.k) l.initial.self l.self
