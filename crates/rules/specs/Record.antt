-- The record table of a forest: a row for each node, in preorder. Places come from widths, numbers from counts.
use Rattle.std.specs.Prelude.{ℕ, ◌+◌, List, [], ◌∷◌, ◌++◌}
use Rattle.rules.specs.Forest.{node, content, Forest, nil, byte, group, width}

-- The words of a row.
abbrev pub row_words : ℕ
row_words = 7

-- A row in front of others: `after` is the number of the first record past the subtree, `depth` how many records it
-- stands in.
abbrev pub row : (kind start end parent after extra depth : ℕ) → List ℕ → List ℕ
row k a z par n x d rest = k ∷ a ∷ z ∷ par ∷ n ∷ x ∷ d ∷ rest

-- How many nodes it has. A content is none.
unfoldable pub count : Forest → ℕ
count nil = 0
count (byte b u) = count u
count (group (node k x) c u) = 1 + count c + count u
count (group (content d) c u) = count c + count u

-- at: the place of its first byte. n: the number of its first record. par: the record that it stands in. deep: the
-- number of its ancestors, which are that record and those around it. D2: "the number of its ancestors in the table".
unfoldable pub records : (at n par deep : ℕ) → Forest → List ℕ
records at n par deep nil = []
records at n par deep (byte b u) = records (at + 1) n par deep u
records at n par deep (group (node k x) c u) =
    row k at (at + width c) par (n + (1 + count c)) x deep
    (records at (n + 1) n (deep + 1) c ++ records (at + width c) (n + (1 + count c)) par deep u)
records at n par deep (group (content d) c u) =
    records at n par deep c ++ records (at + width c) (n + count c) par deep u
