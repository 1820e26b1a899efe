-- Where a text meets a text, said of rows: the last outermost row of the first run and the first row of the second
-- are a text's.
use mathlib.Core.Path.{◌≡◌, refl, sym, ap, subst, ◌∙◌}
use mathlib.Core.Bool.{Bool, true, false}
use mathlib.Core.List.{List}
use Prim.Native.Nat.{ℕ, zero, suc, ◌+◌, ◌*◌, ◌≤◌, ◌<◌}
use native.Mathlib.Omega.{arith}
use lib.ListN.{length, get_or}
use lib.Dec.{eqb}
use borrow.Author.Tests.{eq-eqb, ne_eqb}
use Rattle.rules.specs.Forest.{node, content, Forest, nil, byte, group, ◌⋈◌, width}
use Rattle.rules.specs.Parse.{got, pick, repeat, parse}
use Rattle.rules.specs.Record.{row_words, count, records}
use Rattle.rules.proofs.Forests.{count_behind}
use Rattle.rules.proofs.Got.{trouble_got, false_true}
use Rattle.rules.proofs.Ends.{Turn, last, goon, turn}
use Rattle.rules.proofs.Flow.{IsNode}
use Rattle.rules.proofs.Joined.{ends_in_text, begins_with_text, meets}
use Rattle.rules.proofs.Numbered.{label_of, parent_of, RowOf, row_of, NodeIs, node_behind, parent_outermost}
use Rattle.rules.proofs.Numbered.{parent_inside}
use Rattle.jsx.specs.Kind as Kind
use Rattle.jsx.specs.Element.{children}
use Rattle.jsx.specs.Reading.{run}
use Rattle.jsx.specs.Table.{missing, table_word}
use Rattle.jsx.specs.Compose.{text_label, rows_of, last_outermost, texts_meet, Reads}
use Rattle.jsx.proofs.Child.{cbody, Child, ends, a_text, other, child_of}
use Rattle.jsx.proofs.JoinRead.{run_of}

-- ---- a run's reading has nodes only

-- No byte and no content stands in none of its nodes.
abbrev pub Nodes : Forest → Type 0
Nodes nil = Unit {0}
Nodes (byte b u) = ⊥
Nodes (group l c u) = IsNode l × Nodes u

children_nodes : (s : List ℕ) (F e d f at : ℕ) {a : Bool} {u : Forest} {p : ℕ}
    → repeat (cbody s F e d) f at ≡ got a u p
    → Nodes u
unfolding repeat ◌⋈◌
children_nodes s F e d zero at h = trouble_got h
children_nodes s F e d (suc f) at {a} {u} {p} h =
    by (turn (cbody s F e d) f at h).1 (λ q v r. children_nodes s F e d f q r)
  where
    nodes_are : {o v : Forest} → o ≡ v → Nodes v → Nodes o
    nodes_are e x = subst Nodes (sym e) x

    stops : Child s F e d at false u p → Nodes u
    stops (ends a b c g z) = nodes_are b tt
    stops (a_text a b c g i) = false_true refl a
    stops (other a b n r i j l m) = false_true refl a

    goes_on : (o : Forest) (q : ℕ) (v : Forest) → u ≡ o ⋈ v → Nodes v → Child s F e d at true o q → Nodes u
    goes_on o q v w nv (ends a b c g z) = false_true a refl
    goes_on o q v w nv (a_text a b c g i) = nodes_are (w ∙ ap (λ (n : Forest). n ⋈ v) g) (tt, nv)
    goes_on o q v w nv (other a b n r i j l m) = nodes_are (w ∙ ap (λ (n : Forest). n ⋈ v) n.2) (n.4, nv)

    by : Turn (cbody s F e d) f at u p
        → ((q : ℕ) (v : Forest) → repeat (cbody s F e d) f q ≡ got true v p → Nodes v)
        → Nodes u
    by (last k) ih = stops (child_of s F e d at k)
    by (goon o q v k lt r w) ih = goes_on o q v w (ih q v r) (child_of s F e d at k)

-- A run's reading is such a forest.
pub run_nodes : (d : ℕ) (s : List ℕ) (u : Forest) → Reads (run d) s u → Nodes u
unfolding children parse
run_nodes d s u h = let X = run_of d s u h in children_nodes s (suc (length s)) 0 d (suc (length s)) 0 X.1

-- ---- its last node

-- Such a forest is empty, or ends in a node.
pub data Ending : Forest → Type 0 where
  empty : Ending nil
  final : (w : Forest) (k x : ℕ) (c : Forest) {u : Forest} → u ≡ w ⋈ group (node k x) c nil → Ending u

ending : (u : Forest) → Nodes u → Ending u
unfolding ◌⋈◌
ending nil n = empty
ending (byte b u) n = absurd n
ending (group (content d) c u) n = absurd n.0
ending (group (node k x) c u) n = go (ending u n.1) refl
  where
    go : {v : Forest} → Ending v → u ≡ v → Ending (group (node k x) c u)
    go empty e = final nil k x c (ap (group (node k x) c) e)
    go (final w k' x' c' f) e = final (group (node k x) c w) k' x' c' (ap (group (node k x) c) (e ∙ f))

-- Whether it ends in a text is said by that node's kind.
ends_by : (w : Forest) (k x : ℕ) (c : Forest) → ends_in_text text_label (w ⋈ group (node k x) c nil) ≡ eqb k Kind.text
unfolding ends_in_text text_label ◌⋈◌
ends_by nil k x c = refl
ends_by (byte b w) k x c = ends_by w k x c
ends_by (group l e nil) k x c = refl
ends_by (group l e (byte b w)) k x c = ends_by (byte b w) k x c
ends_by (group l e (group l' e' w)) k x c = ends_by (group l' e' w) k x c

-- ---- its last outermost row

module _ (w : Forest) (k x : ℕ) (c : Forest) (small : count (w ⋈ group (node k x) c nil) ≤ missing) where
  abbrev all : Forest
  all = w ⋈ group (node k x) c nil

  counts : count all ≡ count w + 1 + count c
  unfolding count
  counts = omega (arith, count_behind w (group (node k x) c nil))

  row_at : (m : ℕ) → m < count all → RowOf all 0 0 missing 0 m m
  row_at m h = row_of all 0 0 missing 0 m m (omega arith) h

  last_node : NodeIs all 0 0 (count w) (node k x) c (0 + width w)
  last_node = node_behind w nil 0 0 k x c (omega arith)

  -- The records inside the last node have a parent, so its row is the last that has none.
  from_last : (i m : ℕ) → m ≡ count w + i → i ≤ count c → last_outermost (rows_of all) (suc m) ≡ k
  unfolding last_outermost table_word
  from_last zero m e h =
      let n = counts in
      let r = row_at m (omega arith) in
      let p : parent_of 0 missing m all ≡ missing = parent_outermost w k x c nil 0 missing (omega arith) in
      let q : label_of 0 m all ≡ node k x = ap (λ (j : ℕ). label_of 0 j all) (omega arith) ∙ last_node.label in
      let z : r.kind ≡ k = cc r.label in
      rw (eq-eqb _ missing (r.parent_word ∙ p))
      (ap (λ (j : ℕ). get_or (rows_of all) j 0) (omega arith) ∙ r.kind_word ∙ z)
  from_last (suc i) m e h =
      let n = counts in
      let r = row_at m (omega arith) in
      let f = ap count last_node.inner in
      let p = parent_inside all 0 missing (count w) m (omega arith) (omega arith) (omega arith) (omega arith) in
      rw (ne_eqb (get_or (rows_of all) (row_words * m + 3) 0) missing (λ z. omega (arith, r.parent_word)))
      (before m (omega arith) (from_last i (count w + i) refl (omega arith)))
    where
      before : (m : ℕ)
          → m ≡ suc (count w + i)
          → last_outermost (rows_of all) (suc (count w + i)) ≡ k
          → last_outermost (rows_of all) m ≡ k
      before m e h = ap (last_outermost (rows_of all)) e ∙ h

  -- So the last outermost row has the kind of the last node.
  pub last_outermost_lem : last_outermost (rows_of all) (count all) ≡ k
  last_outermost_lem =
      ap (last_outermost (rows_of all)) (omega (arith, counts))
      ∙ from_last (count c) (count w + count c) refl (omega arith)

-- ---- of two runs

ends_in : (u : Forest)
    → count u ≤ missing
    → Ending u
    → ends_in_text text_label u ≡ eqb (last_outermost (rows_of u) (count u)) Kind.text
unfolding ends_in_text last_outermost count
ends_in u small empty = refl
ends_in u small (final w k x c e) =
    subst (λ (v : Forest). ends_in_text text_label v ≡ eqb (last_outermost (rows_of v) (count v)) Kind.text) (sym e)
    (ends_by w k x c
    ∙ ap (λ (n : ℕ). eqb n Kind.text)
    (sym (last_outermost_lem w k x c (subst (λ (v : Forest). count v ≤ missing) e small))))

begins_with : (v : Forest) → Nodes v → begins_with_text text_label v ≡ eqb (table_word (rows_of v) 0 0) Kind.text
unfolding begins_with_text text_label table_word records
begins_with nil n = refl
begins_with (byte b v) n = absurd n
begins_with (group (content d) c v) n = absurd n.0
begins_with (group (node k x) c v) n = refl

-- Texts meet in the readings just where they meet in the rows.
pub texts_meet_lem : (u v : Forest)
    → Nodes u
    → Nodes v
    → count u ≤ missing
    → meets text_label u v ≡ texts_meet (rows_of u) (count u) (rows_of v)
unfolding meets texts_meet
texts_meet_lem u v nu nv small = λ i. pick (ends_in u small (ending u nu) i) (begins_with v nv i) false
