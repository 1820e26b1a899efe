-- What the contracts of the table's writers say.
use Rattle.std.specs.Prelude.{ℕ, ◌+◌, ◌≤◌, ◌<◌, ◌^◌, ◌≡◌, List, []}
use Rattle.std.proofs.lemmas.List.Edits.{sets}
use Rattle.rules.specs.Record.{row}
use Rattle.table.specs.Slot.{Seat}

-- Where the part from the word k on starts in a table of l words: at k, or at the end.
pub record Start (l k r : ℕ) : Type 0 where
  pub inside : r ≤ l
  pub there : k ≤ l → r ≡ k
  pub none : l ≤ k → r ≡ l

-- From t to t' these words were stored from the word k on, each where it fits.
pub record Put (k : ℕ) (ws : List ℕ) (t t' : List ℕ) : Type 0 where
  pub is : t' ≡ sets t k ws

-- The record here may be entered: inside it, number and depth are words.
pub record Enterable (q : Seat) : Type 0 where
  pub small : q.number + 1 < 2 ^ 32
  pub shallow : q.depth + 1 < 2 ^ 32

-- A row's numbers are words.
abbrev pub Words : Seat → (kind start end extra below : ℕ) → Type 0
Words q k a z x m =
    (k < 2 ^ 32) × (a < 2 ^ 32) × (z < 2 ^ 32) × (q.parent < 2 ^ 32) × (q.number + (1 + m) < 2 ^ 32) × (x < 2 ^ 32)
    × (q.depth < 2 ^ 32)

-- A node's row, with m records below it.
abbrev pub node_row : Seat → (kind start end extra below : ℕ) → List ℕ
node_row q k a z x m = row k a z q.parent (q.number + (1 + m)) x q.depth []

-- From t to t' a node's row was stored at the word k, where it fits.
pub record Stored (k : ℕ) (q : Seat) (kind start end extra below : ℕ) (t t' : List ℕ) : Type 0 where
  pub is : t' ≡ sets t k (node_row q kind start end extra below)
  pub small : q.number + (1 + below) < 2 ^ 32
