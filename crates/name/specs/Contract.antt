-- What the contracts of names' readers say besides those of every reader.
use Prim.Native.Char.{code}
use Rattle.std.specs.Prelude.{ℕ, ◌≡◌, List}
use Rattle.rules.specs.Forest.{Label, node}
use Rattle.rules.specs.Parse.{byte_at}
use Rattle.jsx.specs.Blank.{blanks}
use Rattle.jsx.specs.Name.{part}
use Rattle.lex.specs.Contract.{Past}
use Rattle.table.specs.Slot.{Seat}
use Rattle.table.specs.Contract.{Stored}
use Rattle.name.specs.declared.First.{First}

-- A name's first part was read, and the blanks behind it, up to a colon.
pub record Prefix (s : List ℕ) (f : First) : Type 0 where
  pub read : Past f.end s part f.at 1
  pub passed : Past f.next s blanks f.end 0
  pub colon : byte_at s f.next ≡ code ":"

-- From t to t' the row of a node with this label, from a to z, with none below it, was stored at the word k.
pub record Spelt (k : ℕ) (q : Seat) (label : Label) (a z : ℕ) (t t' : List ℕ) : Type 0 where
  pub kind : ℕ
  pub extra : ℕ
  pub says : label ≡ node kind extra
  pub stored : Stored k q kind a z extra 0 t t'
