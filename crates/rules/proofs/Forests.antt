-- What a row's depth counts, computed; forests behind forests: widths, counts and record tables add up.
use mathlib.Core.Path.{◌≡◌, refl, sym, ap, ◌∙◌}
use mathlib.Core.List.{List, [], ◌++◌, append_assoc}
use Prim.Native.Nat.{ℕ, ◌+◌, ◌*◌}
use native.Mathlib.Omega.{arith}
use lib.ListN.{length, length-append}
use Rattle.rules.specs.Forest.{node, content, Forest, nil, byte, group, ◌⋈◌, width}
use Rattle.rules.specs.Record.{row_words, row, count, records}

-- ---- depth, computed

-- A node that holds a node and a content; in the content a node, and in that another.
abbrev tree : Forest
tree = group (node 1 1) (group (node 18 0) (byte 60 nil) (group (content 63) in_content (byte 62 nil))) nil
  where
    in_content : Forest
    in_content = group (node 11 0) (byte 123 (group (node 15 0) (byte 97 nil) nil)) nil

-- A row's depth counts the nodes around its node: 0, 1, 1 and 2. A content counts nothing, whatever depth is left.
pub depth_counts_nodes : records 0 0 99 0 tree ≡ row 1 0 4 99 4 1 0
    (row 18 0 1 0 2 0 1 (row 11 1 3 0 4 0 1 (row 15 2 3 2 4 0 2 [])))
unfolding records tree count width
depth_counts_nodes = refl

-- ---- forests behind forests

-- Nothing behind a forest is the forest.
pub behind_nil : (u : Forest) → u ⋈ nil ≡ u
unfolding ◌⋈◌
behind_nil nil = refl
behind_nil (byte b u) = ap (byte b) (behind_nil u)
behind_nil (group l c u) = ap (group l c) (behind_nil u)

-- Nothing in front of a forest is the forest.
pub nil_before : (u : Forest) → nil ⋈ u ≡ u
unfolding ◌⋈◌
nil_before u = refl

-- How three forests are bracketed does not matter.
pub behind_assoc : (u v w : Forest) → (u ⋈ v) ⋈ w ≡ u ⋈ (v ⋈ w)
unfolding ◌⋈◌
behind_assoc nil v w = refl
behind_assoc (byte b u) v w = ap (byte b) (behind_assoc u v w)
behind_assoc (group l c u) v w = ap (group l c) (behind_assoc u v w)

-- Widths add up.
pub width_behind : (u v : Forest) → width (u ⋈ v) ≡ width u + width v
unfolding width ◌⋈◌
width_behind nil v = omega arith
width_behind (byte b u) v = omega (arith, width_behind u v)
width_behind (group l c u) v = omega (arith, width_behind u v)

-- Counts add up.
pub count_behind : (u v : Forest) → count (u ⋈ v) ≡ count u + count v
unfolding count ◌⋈◌
count_behind nil v = omega arith
count_behind (byte b u) v = count_behind u v
count_behind (group (node k x) c u) v = omega (arith, count_behind u v)
count_behind (group (content d) c u) v = omega (arith, count_behind u v)

-- A table has a row for each node.
pub length_records : (u : Forest) (at n par deep : ℕ) → length (records at n par deep u) ≡ row_words * count u
unfolding count records
length_records nil at n par deep = refl
length_records (byte b u) at n par deep = length_records u (at + 1) n par deep
length_records (group (node k x) c u) at n par deep =
    let h₁ = length_records c at (n + 1) n (deep + 1) in
    let h₂ = length_records u (at + width c) (n + (1 + count c)) par deep in
    simp length-append (omega arith)
length_records (group (content d) c u) at n par deep =
    let h₁ = length_records c at n par deep in
    let h₂ = length_records u (at + width c) (n + count c) par deep in
    simp length-append (omega arith)

-- The same place, number, parent and depth give the same table.
pub records_same : (u : Forest) {at at' n n' par par' deep deep' : ℕ}
    → at ≡ at'
    → n ≡ n'
    → par ≡ par'
    → deep ≡ deep'
    → records at n par deep u ≡ records at' n' par' deep' u
records_same u p q r d = λ i. records (p i) (q i) (r i) (d i) u

-- The table of one forest behind the other is the one's table, then the other's, further on.
pub records_join : (u v : Forest) (at n par deep : ℕ)
    → records at n par deep (u ⋈ v) ≡ records at n par deep u ++ records (at + width u) (n + count u) par deep v
unfolding count records width ◌⋈◌
records_join nil v at n par deep = records_same v (omega arith) (omega arith) refl refl
records_join (byte b u) v at n par deep =
    records_join u v (at + 1) n par deep
    ∙ ap (λ (t : List ℕ). records (at + 1) n par deep u ++ t) (records_same v (omega arith) refl refl refl)
records_join (group (node k x) c u) v at n par deep =
    ap (λ (t : List ℕ). row k at (at + width c) par (n + (1 + count c)) x deep t)
    (ap (λ (t : List ℕ). records at (n + 1) n (deep + 1) c ++ t)
    (records_join u v (at + width c) (n + (1 + count c)) par deep
    ∙ ap (λ (t : List ℕ). records (at + width c) (n + (1 + count c)) par deep u ++ t)
    (records_same v (omega arith) (omega arith) refl refl))
    ∙ sym (append_assoc (records at (n + 1) n (deep + 1) c) _ _))
records_join (group (content d) c u) v at n par deep =
    ap (λ (t : List ℕ). records at n par deep c ++ t)
    (records_join u v (at + width c) (n + count c) par deep
    ∙ ap (λ (t : List ℕ). records (at + width c) (n + count c) par deep u ++ t)
    (records_same v (omega arith) (omega arith) refl refl))
    ∙ sym (append_assoc (records at n par deep c) _ _)
