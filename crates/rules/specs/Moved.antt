-- Tables moved along, row by row.
use Rattle.std.specs.Prelude.{ℕ, ◌+◌, List, [], ◌∷◌, eqb}
use Rattle.rules.specs.Parse.{pick}
use Rattle.rules.specs.Record.{row}

-- The words of a row, by their names.
pub data Row : Type 0 where
  fields : (kind start end parent after extra depth : ℕ) → Row

-- A row in front of others.
abbrev pub in_front : Row → List ℕ → List ℕ
in_front (fields k a z p n x d) rest = row k a z p n x d rest

-- A table with each row changed by f. Words that make no whole row stay.
unfoldable pub each_row : (Row → Row) → List ℕ → List ℕ
each_row f [] = []
each_row f (k ∷ []) = k ∷ []
each_row f (k ∷ a ∷ []) = k ∷ a ∷ []
each_row f (k ∷ a ∷ z ∷ []) = k ∷ a ∷ z ∷ []
each_row f (k ∷ a ∷ z ∷ p ∷ []) = k ∷ a ∷ z ∷ p ∷ []
each_row f (k ∷ a ∷ z ∷ p ∷ n ∷ []) = k ∷ a ∷ z ∷ p ∷ n ∷ []
each_row f (k ∷ a ∷ z ∷ p ∷ n ∷ x ∷ []) = k ∷ a ∷ z ∷ p ∷ n ∷ x ∷ []
each_row f (k ∷ a ∷ z ∷ p ∷ n ∷ x ∷ d ∷ rest) = in_front (f (fields k a z p n x d)) (each_row f rest)

-- The parent of a moved row: the new outermost parent for the old one, else the same record under its new number.
unfoldable pub reparent : (m par par' p : ℕ) → ℕ
reparent m par par' p = pick (eqb p par) par' (m + p)

-- A row, k bytes and m records further on, in so many more records.
unfoldable pub moved_row : (k m deeper par par' : ℕ) → Row → Row
moved_row k m deeper par par' (fields kind a z p n x d) =
    fields kind (k + a) (k + z) (reparent m par par' p) (m + n) x (deeper + d)

-- A table, k bytes and m records further on and in so many more records, under par' where it stood under par.
unfoldable pub moved : (k m deeper par par' : ℕ) → List ℕ → List ℕ
moved k m deeper par par' = each_row (moved_row k m deeper par par')
