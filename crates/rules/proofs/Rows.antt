-- Tables taken row by row.
use mathlib.Core.Path.{◌≡◌, refl, ap, ◌∙◌}
use mathlib.Core.List.{List, [], ◌++◌}
use Prim.Native.Nat.{ℕ, ◌+◌}
use Rattle.rules.specs.Forest.{node, content, Forest, nil, byte, group, width}
use Rattle.rules.specs.Record.{row, count, records}
pub use Rattle.rules.specs.Moved.{Row, fields, in_front}
unfoldable pub use Rattle.rules.specs.Moved.{each_row}

-- A list of whole rows.
pub data Table : List ℕ → Type 0 where
  none : Table []
  more : {k a z p n x d : ℕ} {rest : List ℕ} → Table rest → Table (row k a z p n x d rest)

-- Whole rows behind whole rows are whole rows.
pub table_append : {s t : List ℕ} → Table s → Table t → Table (s ++ t)
table_append none b = b
table_append (more a) b = more (table_append a b)

-- A record table has whole rows.
pub table_records : (u : Forest) (at n par deep : ℕ) → Table (records at n par deep u)
unfolding records
table_records nil at n par deep = none
table_records (byte b u) at n par deep = table_records u (at + 1) n par deep
table_records (group (node k x) c u) at n par deep =
    more (table_append (table_records c at (n + 1) n (deep + 1))
    (table_records u (at + width c) (n + (1 + count c)) par deep))
table_records (group (content d) c u) at n par deep =
    table_append (table_records c at n par deep) (table_records u (at + width c) (n + count c) par deep)

-- Two rows with the same words, in front of the same rest.
pub row_same : (k a p x d : ℕ) {z z' n n' : ℕ} {s t : List ℕ}
    → z ≡ z'
    → n ≡ n'
    → s ≡ t
    → row k a z p n x d s ≡ row k a z' p n' x d t
row_same k a p x d e f g = λ i. row k a (e i) p (f i) x d (g i)

put_append : (r : Row) (s t : List ℕ) → in_front r (s ++ t) ≡ in_front r s ++ t
put_append (fields k a z p n x d) s t = refl

-- The rows of two tables are changed one table after the other.
pub each_row_append : (f : Row → Row) {s : List ℕ}
    → Table s
    → (t : List ℕ) → each_row f (s ++ t) ≡ each_row f s ++ each_row f t
unfolding each_row
each_row_append f none t = refl
each_row_append f (more {k} {a} {z} {p} {n} {x} {d} {rest} h) t =
    ap (in_front (f (fields k a z p n x d))) (each_row_append f h t)
    ∙ put_append (f (fields k a z p n x d)) (each_row f rest) (each_row f t)
