-- A node by its record number: its label, its place, what is inside it, its row and its children.
use mathlib.Core.Path.{◌≡◌, refl, sym, ap, ◌∙◌, subst, subst₂, subst₃}
use mathlib.Core.Logic.{◌⊎◌, inl, inr}
use mathlib.Core.Bool.{Bool, true, false}
use mathlib.Core.List.{List, [], ◌++◌, append_assoc}
use Prim.Native.Nat.{ℕ, ◌+◌, ◌*◌, ◌≤◌, ◌<◌}
use native.Mathlib.Omega.{arith}
use lib.Dec.{eqb, ltb}
use lib.ListN.{length, take, drop, get_or, length-append}
use lib.Seq.{drop_at, get_or_at, get_or-append-add}
use borrow.Author.Tests.{ltb-true, ltb-false, lt-ltb, le-ltb, eqb-true, eqb-false, eq-eqb, ne_eqb}
use Rattle.rules.specs.Forest.{Label, node, content, Forest, nil, byte, group, ◌⋈◌, width}
use Rattle.rules.specs.Parse.{pick}
use Rattle.rules.specs.Record.{row_words, row, count, records}
use Rattle.rules.proofs.Forests.{length_records, count_behind}
use Rattle.rules.proofs.Formed.{Formed}
use Rattle.rules.proofs.Edited.{count_fits}
use Rattle.rules.proofs.Held.{inside_of, place_of, depth_of, content_of_lem}

-- The label of the node with the number j, in a forest whose first record is n.
unfoldable pub label_of : (n j : ℕ) → Forest → Label
label_of n j nil = content 0
label_of n j (byte b u) = label_of n j u
label_of n j (group (node k x) c u) =
    pick (eqb j n) (node k x)
    (pick (ltb j (n + (1 + count c))) (label_of (n + 1) j c) (label_of (n + (1 + count c)) j u))
label_of n j (group (content d) c u) = pick (ltb j (n + count c)) (label_of n j c) (label_of (n + count c) j u)

-- The parent of the node with the number j, in a forest under par whose first record is n.
unfoldable pub parent_of : (n par j : ℕ) → Forest → ℕ
parent_of n par j nil = par
parent_of n par j (byte b u) = parent_of n par j u
parent_of n par j (group (node k x) c u) =
    pick (eqb j n) par
    (pick (ltb j (n + (1 + count c))) (parent_of (n + 1) n j c) (parent_of (n + (1 + count c)) par j u))
parent_of n par j (group (content d) c u) =
    pick (ltb j (n + count c)) (parent_of n par j c) (parent_of (n + count c) par j u)

-- A node j with the parent p and the depth e, in a forest under par and so many records whose first record is n.
pub data Under (n par deep j p e : ℕ) (u : Forest) : Type 0 where
  outermost : p ≡ par → e ≡ deep → Under n par deep j p e u
  inner : n ≤ p → p < j → e ≡ depth_of n deep p u + 1 → Under n par deep j p e u

-- The way to the node with the number j: it has the label l, t is inside it, and its first byte is at q.
data Way (j : ℕ) (l : Label) (t : Forest) (q : ℕ) : (at n : ℕ) → Forest → Type 0 where
  self : {at n k x : ℕ} {c v : Forest} → j ≡ n → l ≡ node k x → t ≡ c → q ≡ at → Way j l t q at n (group (node k x) c v)
  in_node : {at n k x : ℕ} {c v : Forest} → Way j l t q at (n + 1) c → Way j l t q at n (group (node k x) c v)
  past_node : {at n k x : ℕ} {c v : Forest}
      → Way j l t q (at + width c) (n + (1 + count c)) v
      → Way j l t q at n (group (node k x) c v)
  in_content : {at n d : ℕ} {c v : Forest} → Way j l t q at n c → Way j l t q at n (group (content d) c v)
  past_content : {at n d : ℕ} {c v : Forest}
      → Way j l t q (at + width c) (n + count c) v
      → Way j l t q at n (group (content d) c v)
  past_byte : {at n b : ℕ} {v : Forest} → Way j l t q (at + 1) n v → Way j l t q at n (byte b v)

-- The node with the number j, found by label_of, inside_of and place_of.
abbrev Found : (at n j : ℕ) → Forest → Type 0
Found at n j u = Way j (label_of n j u) (inside_of n j u) (place_of at n j u) at n u

-- Every record is the one of such a node.
found : (u : Forest) (at n j : ℕ) → n ≤ j → j < n + count u → Found at n j u
unfolding label_of inside_of place_of count
found nil at n j l h = absurd (omega arith)
found (byte b u) at n j l h = past_byte (found u (at + 1) n j l h)
found (group (node k x) c u) at n j l h =
    go (eqb j n) refl (ltb j (n + (1 + count c))) refl (found c at (n + 1) j)
    (found u (at + width c) (n + (1 + count c)) j)
  where
    go : (b : Bool) → eqb j n ≡ b → (b' : Bool) → ltb j (n + (1 + count c)) ≡ b'
        → (n + 1 ≤ j → j < n + 1 + count c → Found at (n + 1) j c)
        → (n + (1 + count c) ≤ j → j < n + (1 + count c) + count u → Found (at + width c) (n + (1 + count c)) j u)
        → Found at n j (group (node k x) c u)
    go true e b' e' hc hu = rw e (self (eqb-true j n e) refl refl refl)
    go false e true e' hc hu =
        let q = eqb-false j n e in
        let r = ltb-true j (n + (1 + count c)) e' in rw (e, e') (in_node (hc (omega arith) (omega arith)))
    go false e false e' hc hu = let r = ltb-false j (n + (1 + count c)) e' in rw (e, e')
        (past_node (hu r (omega arith)))
found (group (content d) c u) at n j l h =
    go (ltb j (n + count c)) refl (found c at n j l) (found u (at + width c) (n + count c) j)
  where
    go : (b : Bool) → ltb j (n + count c) ≡ b → (j < n + count c → Found at n j c)
        → (n + count c ≤ j → j < n + count c + count u → Found (at + width c) (n + count c) j u)
        → Found at n j (group (content d) c u)
    go true e hc hu = rw e (in_content (hc (ltb-true j (n + count c) e)))
    go false e hc hu = let r = ltb-false j (n + count c) e in rw e (past_content (hu r (omega arith)))

module _ {j : ℕ} {l : Label} {t : Forest} {q : ℕ} where
  -- A way leads to a record of the forest, and all records in the node are of the forest too.
  way_bounds : {at n : ℕ} {u : Forest} → Way j l t q at n u → (n ≤ j) × (j + 1 + count t ≤ n + count u)
  unfolding count
  way_bounds (self e p s a) = let z = ap count s in omega arith
  way_bounds (in_node w) = let h = way_bounds w in omega arith
  way_bounds (past_node w) = let h = way_bounds w in omega arith
  way_bounds (in_content w) = let h = way_bounds w in omega arith
  way_bounds (past_content w) = let h = way_bounds w in omega arith
  way_bounds (past_byte w) = way_bounds w

  -- And label_of, inside_of and place_of find what it leads to.
  way_is : {at n : ℕ} {u : Forest}
      → Way j l t q at n u
      → (label_of n j u ≡ l) × (inside_of n j u ≡ t) × (place_of at n j u ≡ q)
  unfolding label_of inside_of place_of
  way_is (self {n = n} e p s a) = rw (eq-eqb j n e) (sym p, sym s, sym a)
  way_is (in_node {n = n} {c = c} w) =
      let h = way_bounds w in rw (ne_eqb j n (omega arith), lt-ltb j (n + (1 + count c)) (omega arith)) (way_is w)
  way_is (past_node {n = n} {c = c} w) =
      let h = way_bounds w in rw (ne_eqb j n (omega arith), le-ltb j (n + (1 + count c)) (omega arith)) (way_is w)
  way_is (in_content {n = n} {c = c} w) = let h = way_bounds w in rw (lt-ltb j (n + count c) (omega arith)) (way_is w)
  way_is (past_content {n = n} {c = c} w) = let h = way_bounds w in rw (le-ltb j (n + count c) (omega arith)) (way_is w)
  way_is (past_byte w) = way_is w

  -- A way on from there, in what is inside the node, is a way.
  way_on : {at n : ℕ} {u : Forest} {j' : ℕ} {l' : Label} {t' : Forest} {q' : ℕ}
      → Way j l t q at n u
      → Way j' l' t' q' q (j + 1) t
      → Way j' l' t' q' at n u
  way_on {j' = j'} {l'} {t'} {q'} (self e p s a) w' = in_node
      (subst₃ (Way j' l' t' q') a (ap (λ (m : ℕ). m + 1) e) s w')
  way_on (in_node w) w' = in_node (way_on w w')
  way_on (past_node w) w' = past_node (way_on w w')
  way_on (in_content w) w' = in_content (way_on w w')
  way_on (past_content w) w' = past_content (way_on w w')
  way_on (past_byte w) w' = past_byte (way_on w w')

  -- The parent of a node inside the node is found there.
  way_parent : {at n : ℕ} {u : Forest} → Way j l t q at n u → (par j' : ℕ) → j + 1 ≤ j' → j' < j + 1 + count t
      → parent_of n par j' u ≡ parent_of (j + 1) j j' t
  unfolding parent_of
  way_parent (self {n = n} {c = c} e p s a) par j' lo hi =
      let z = ap count s in
      rw (ne_eqb j' n (omega arith), lt-ltb j' (n + (1 + count c)) (omega arith))
      (λ i. parent_of (sym e i + 1) (sym e i) j' (sym s i))
  way_parent (in_node {n = n} {c = c} w) par j' lo hi =
      let h = way_bounds w in
      rw (ne_eqb j' n (omega arith), lt-ltb j' (n + (1 + count c)) (omega arith)) (way_parent w n j' lo hi)
  way_parent (past_node {n = n} {c = c} w) par j' lo hi =
      let h = way_bounds w in
      rw (ne_eqb j' n (omega arith), le-ltb j' (n + (1 + count c)) (omega arith)) (way_parent w par j' lo hi)
  way_parent (in_content {n = n} {c = c} w) par j' lo hi =
      let h = way_bounds w in rw (lt-ltb j' (n + count c) (omega arith)) (way_parent w par j' lo hi)
  way_parent (past_content {n = n} {c = c} w) par j' lo hi =
      let h = way_bounds w in rw (le-ltb j' (n + count c) (omega arith)) (way_parent w par j' lo hi)
  way_parent (past_byte w) par j' lo hi = way_parent w par j' lo hi

  -- A parent is the outermost one, and then the node's depth is the forest's; or it is a record of the forest before
  -- the node, and then that is one more than the parent's.
  way_depth : {at n : ℕ} {u : Forest} → Way j l t q at n u → (par deep : ℕ)
      → Under n par deep j (parent_of n par j u) (depth_of n deep j u) u
  unfolding parent_of depth_of
  way_depth (self {n = n} e p s a) par deep = rw (eq-eqb j n e) (outermost refl refl)
  way_depth (in_node {n = n} {k} {x} {c} {v} w) par deep =
      let h = way_bounds w in
      rw (ne_eqb j n (omega arith), lt-ltb j (n + (1 + count c)) (omega arith)) (go (way_depth w n (deep + 1)))
    where
      go : {p e : ℕ} → Under (n + 1) n (deep + 1) j p e c → Under n par deep j p e (group (node k x) c v)
      go {p} (outermost f g) =
          let h = way_bounds w in
          inner (omega arith) (omega arith) (rw (eq-eqb p n f) g)
      go {p} (inner a b g) =
          let h = way_bounds w in
          inner (omega arith) b (rw (ne_eqb p n (omega arith), lt-ltb p (n + (1 + count c)) (omega arith)) g)
  way_depth (past_node {n = n} {k} {x} {c} {v} w) par deep =
      let h = way_bounds w in
      rw (ne_eqb j n (omega arith), le-ltb j (n + (1 + count c)) (omega arith)) (go (way_depth w par deep))
    where
      go : {p e : ℕ} → Under (n + (1 + count c)) par deep j p e v → Under n par deep j p e (group (node k x) c v)
      go (outermost f g) = outermost f g
      go {p} (inner a b g) =
          inner (omega arith) b (rw (ne_eqb p n (omega arith), le-ltb p (n + (1 + count c)) a) g)
  way_depth (in_content {n = n} {d} {c} {v} w) par deep =
      let h = way_bounds w in
      rw (lt-ltb j (n + count c) (omega arith)) (go (way_depth w par deep))
    where
      go : {p e : ℕ} → Under n par deep j p e c → Under n par deep j p e (group (content d) c v)
      go (outermost f g) = outermost f g
      go {p} (inner a b g) =
          let h = way_bounds w in
          inner a b (rw (lt-ltb p (n + count c) (omega arith)) g)
  way_depth (past_content {n = n} {d} {c} {v} w) par deep =
      let h = way_bounds w in
      rw (le-ltb j (n + count c) (omega arith)) (go (way_depth w par deep))
    where
      go : {p e : ℕ} → Under (n + count c) par deep j p e v → Under n par deep j p e (group (content d) c v)
      go (outermost f g) = outermost f g
      go {p} (inner a b g) = inner (omega arith) b (rw (le-ltb p (n + count c) a) g)
  way_depth (past_byte {n = n} {b} {v} w) par deep = go (way_depth w par deep)
    where
      go : {p e : ℕ} → Under n par deep j p e v → Under n par deep j p e (byte b v)
      go (outermost f g) = outermost f g
      go (inner a c g) = inner a c g

  way_ancestor : {at n : ℕ} {u : Forest} → Way j l t q at n u → (par : ℕ)
      → (parent_of n par j u ≡ par) ⊎ ((n ≤ parent_of n par j u) × (parent_of n par j u < j))
  way_ancestor {n = n} {u} w par = by (way_depth w par 0)
    where
      by : {p e : ℕ} → Under n par 0 j p e u → (p ≡ par) ⊎ ((n ≤ p) × (p < j))
      by (outermost f g) = inl f
      by (inner a b g) = inr (a, b)

  -- It leads to a node.
  way_label : {at n : ℕ} {u : Forest} → Way j l t q at n u → (k : ℕ) × (x : ℕ) × (l ≡ node k x)
  way_label (self {k = k} {x} e p s a) = (k, x, p)
  way_label (in_node w) = way_label w
  way_label (past_node w) = way_label w
  way_label (in_content w) = way_label w
  way_label (past_content w) = way_label w
  way_label (past_byte w) = way_label w

  -- What holds of every node holds of it.
  way_formed : (R : Label → Forest → Type 0) {at n : ℕ} {u : Forest} → Way j l t q at n u → Formed R u → R l t
  way_formed R (self e p s a) f = subst₂ R (sym p) (sym s) f.0
  way_formed R (in_node w) f = way_formed R w f.1
  way_formed R (past_node w) f = way_formed R w f.2
  way_formed R (in_content w) f = way_formed R w f.1
  way_formed R (past_content w) f = way_formed R w f.2
  way_formed R (past_byte w) f = way_formed R w f

-- The way to the node behind o.
way_behind : (o v : Forest) (at n : ℕ) {k x : ℕ} {t : Forest} {j q : ℕ}
    → j ≡ n + count o
    → q ≡ at + width o
    → Way j (node k x) t q at n (o ⋈ group (node k x) t v)
unfolding ◌⋈◌ count width
way_behind nil v at n e a = self {at = at} {n = n} (omega arith) refl refl (omega arith)
way_behind (byte b o) v at n e a = past_byte (way_behind o v (at + 1) n e (omega arith))
way_behind (group (node k x) c o) v at n e a =
    past_node (way_behind o v (at + width c) (n + (1 + count c)) (omega arith) (omega arith))
way_behind (group (content d) c o) v at n e a =
    past_content (way_behind o v (at + width c) (n + count c) (omega arith) (omega arith))

-- What holds of every node, with what is inside it, holds of the node with the number j.
pub formed_at : (R : Label → Forest → Type 0) (u : Forest) (n j : ℕ)
    → Formed R u
    → n ≤ j
    → j < n + count u
    → R (label_of n j u) (inside_of n j u)
formed_at R u n j f l h = way_formed R (found u 0 n j l h) f

-- Every record is a node's: its label is no content.
pub label_node : (u : Forest) (n j : ℕ) → n ≤ j → j < n + count u → (k : ℕ) × (x : ℕ) × (label_of n j u ≡ node k x)
label_node u n j l h = way_label (found u 0 n j l h)

-- A record's parent is the outermost one, or a record before it.
pub parent_known : (u : Forest) (n par j : ℕ) → n ≤ j → j < n + count u
    → (parent_of n par j u ≡ par) ⊎ ((n ≤ parent_of n par j u) × (parent_of n par j u < j))
parent_known u n par j l h = way_ancestor (found u 0 n j l h) par

-- And its depth is the forest's, or one more than that record's.
pub depth_known : (u : Forest) (n par deep j : ℕ) → n ≤ j → j < n + count u
    → Under n par deep j (parent_of n par j u) (depth_of n deep j u) u
depth_known u n par deep j l h = way_depth (found u 0 n j l h) par deep

-- The parent of a record in the node with the number j is that node or a record in it.
pub parent_inside : (u : Forest) (n par j j' : ℕ)
    → n ≤ j
    → j < n + count u
    → j + 1 ≤ j'
    → j' < j + 1 + count (inside_of n j u)
    → (j ≤ parent_of n par j' u) × (parent_of n par j' u < j')
parent_inside u n par j j' l h l' h' = go (way_ancestor (found (inside_of n j u) 0 (j + 1) j' l' h') j)
  where
    same : parent_of n par j' u ≡ parent_of (j + 1) j j' (inside_of n j u)
    same = way_parent (found u 0 n j l h) par j' l' h'

    go : (parent_of (j + 1) j j' (inside_of n j u) ≡ j)
        ⊎ ((j + 1 ≤ parent_of (j + 1) j j' (inside_of n j u)) × (parent_of (j + 1) j j' (inside_of n j u) < j'))
        → (j ≤ parent_of n par j' u) × (parent_of n par j' u < j')
    go (inl e) = (omega (arith, same), omega (arith, same))
    go (inr e) = (omega (arith, same), omega (arith, same))

-- The records in the node with the number j are records of the forest.
pub inside_fits : (u : Forest) (n j : ℕ) → n ≤ j → j < n + count u → j + 1 + count (inside_of n j u) ≤ n + count u
inside_fits u n j l h = (way_bounds (found u 0 n j l h)).1

-- ---- the row of a node

-- A table that has the row of the node with the number j, its first row being number n.
record Cut (n j : ℕ) (l : Label) (t : Forest) (q parent depth : ℕ) (s : List ℕ) : Type 0 where
  before : List ℕ
  rest : List ℕ
  kind : ℕ
  extra : ℕ
  label : l ≡ node kind extra
  size : row_words * n + length before ≡ row_words * j
  split : s ≡ before ++ row kind q (q + width t) parent (j + (1 + count t)) extra depth rest

module _ {j : ℕ} {l : Label} {t : Forest} {q : ℕ} where
  -- Rows behind it change nothing.
  cut_more : {n p y : ℕ} {s : List ℕ} → Cut n j l t q p y s → (b : List ℕ) → Cut n j l t q p y (s ++ b)
  cut_more h b = record {
    before = h.before;
    rest = h.rest ++ b;
    kind = h.kind;
    extra = h.extra;
    label = h.label;
    size = h.size;
    split = (λ i. h.split i ++ b) ∙ append_assoc h.before _ b;
  }

  -- Rows before it have the numbers before.
  cut_further : {n n' p y : ℕ} {s : List ℕ} → Cut n' j l t q p y s
      → (a : List ℕ) → row_words * n + length a ≡ row_words * n'
      → Cut n j l t q p y (a ++ s)
  cut_further h a e = record {
    before = a ++ h.before;
    rest = h.rest;
    kind = h.kind;
    extra = h.extra;
    label = h.label;
    size = simp length-append (omega (arith, h.size));
    split = (λ i. a ++ h.split i) ∙ sym (append_assoc a h.before _);
  }

  -- The same row, its parent and its depth said otherwise.
  said_under : {n p p' y y' : ℕ} {s : List ℕ} → Cut n j l t q p y s → p' ≡ p → y' ≡ y → Cut n j l t q p' y' s
  said_under {n} {s = s} h e f = subst₂ (λ (p y : ℕ). Cut n j l t q p y s) (sym e) (sym f) h

  -- The table of a forest has the row of the node that a way leads to.
  way_cut : {at n : ℕ} {u : Forest}
      → Way j l t q at n u
      → (par deep : ℕ)
      → Cut n j l t q (parent_of n par j u) (depth_of n deep j u) (records at n par deep u)
  unfolding records parent_of depth_of
  way_cut (self {at} {n} {k} {x} {c} {v} e p s a) par deep =
      let b = eq-eqb j n e in
      said_under (record {
        before = [];
        rest = records at (n + 1) n (deep + 1) c ++ records (at + width c) (n + (1 + count c)) par deep v;
        kind = k;
        extra = x;
        label = p;
        size = omega arith;
        split = λ i. row k (sym a i) (sym a i + width (sym s i)) par (sym e i + (1 + count (sym s i))) x deep
            (records at (n + 1) n (deep + 1) c ++ records (at + width c) (n + (1 + count c)) par deep v);
      }) (rw b) (rw b)
  way_cut (in_node {at} {n} {k} {x} {c} {v} w) par deep =
      let h = way_bounds w in
      let b = ne_eqb j n (omega arith) in
      let b' = lt-ltb j (n + (1 + count c)) (omega arith) in
      said_under
      (cut_further (cut_more (way_cut w n (deep + 1)) (records (at + width c) (n + (1 + count c)) par deep v))
      (row k at (at + width c) par (n + (1 + count c)) x deep []) (omega arith)) (rw (b, b')) (rw (b, b'))
  way_cut (past_node {at} {n} {k} {x} {c} {v} w) par deep =
      let h = way_bounds w in
      let z = length_records c at (n + 1) n (deep + 1) in
      let b = ne_eqb j n (omega arith) in
      let b' = le-ltb j (n + (1 + count c)) (omega arith) in
      said_under
      (cut_further (way_cut w par deep)
      (row k at (at + width c) par (n + (1 + count c)) x deep (records at (n + 1) n (deep + 1) c))
      (omega arith)) (rw (b, b')) (rw (b, b'))
  way_cut (in_content {at} {n} {d} {c} {v} w) par deep =
      let h = way_bounds w in
      let b = lt-ltb j (n + count c) (omega arith) in
      said_under (cut_more (way_cut w par deep) (records (at + width c) (n + count c) par deep v)) (rw b) (rw b)
  way_cut (past_content {at} {n} {d} {c} {v} w) par deep =
      let h = way_bounds w in
      let z = length_records c at n par deep in
      let b = le-ltb j (n + count c) (omega arith) in
      said_under (cut_further (way_cut w par deep) (records at n par deep c) (omega arith)) (rw b) (rw b)
  way_cut (past_byte w) par deep = way_cut w par deep

-- Past one list a list begins anew.
get_d_past : (p s : List ℕ) {m : ℕ} (i : ℕ) → length p ≡ m → get_or (p ++ s) (m + i) 0 ≡ get_or s i 0
get_d_past p s i e = rw (← e) (get_or-append-add p s i 0)

-- The row number m of the table of u, whose record has the number j: the node's kind, place, end, parent, the first
-- number past its records, its extra word, and how many ancestors it has.
pub record RowOf (u : Forest) (at n par deep m j : ℕ) : Type 0 where
  pub kind : ℕ
  pub extra : ℕ
  pub label : label_of n j u ≡ node kind extra
  pub whole : take row_words (drop (row_words * m) (records at n par deep u))
      ≡ row kind (place_of at n j u) (place_of at n j u + width (inside_of n j u)) (parent_of n par j u)
      (j + (1 + count (inside_of n j u))) extra (depth_of n deep j u) []
  pub kind_word : get_or (records at n par deep u) (row_words * m) 0 ≡ kind
  pub start_word : get_or (records at n par deep u) (row_words * m + 1) 0 ≡ place_of at n j u
  pub end_word : get_or (records at n par deep u) (row_words * m + 2) 0 ≡ place_of at n j u + width (inside_of n j u)
  pub parent_word : get_or (records at n par deep u) (row_words * m + 3) 0 ≡ parent_of n par j u
  pub after_word : get_or (records at n par deep u) (row_words * m + 4) 0 ≡ j + (1 + count (inside_of n j u))
  pub extra_word : get_or (records at n par deep u) (row_words * m + 5) 0 ≡ extra
  pub depth_word : get_or (records at n par deep u) (row_words * m + 6) 0 ≡ depth_of n deep j u

-- Every row is such a row.
pub row_of : (u : Forest) (at n par deep m j : ℕ) → j ≡ n + m → m < count u → RowOf u at n par deep m j
row_of u at n par deep m j e h = record {
  kind = c.kind;
  extra = c.extra;
  label = c.label;
  whole =
      (λ i. take row_words (drop (row_words * m) (c.split i)))
      ∙ ap (take row_words) (drop_at c.before _ (row_words * m) long);
  kind_word = ap (λ (s : List ℕ). get_or s (row_words * m) 0) c.split ∙ get_or_at c.before _ _ 0 (row_words * m) long;
  start_word = word 1;
  end_word = word 2;
  parent_word = word 3;
  after_word = word 4;
  extra_word = word 5;
  depth_word = word 6;
}
  where
    c : Cut n j (label_of n j u) (inside_of n j u) (place_of at n j u) (parent_of n par j u) (depth_of n deep j u)
        (records at n par deep u)
    c = way_cut (found u at n j (omega arith) (omega arith)) par deep

    long : length c.before ≡ row_words * m
    long = omega (arith, c.size)

    word : (i : ℕ) → get_or (records at n par deep u) (row_words * m + i) 0
        ≡ get_or
        (row c.kind (place_of at n j u) (place_of at n j u + width (inside_of n j u)) (parent_of n par j u)
        (j + (1 + count (inside_of n j u))) c.extra (depth_of n deep j u) c.rest)
        i 0
    word i = ap (λ (s : List ℕ). get_or s (row_words * m + i) 0) c.split ∙ get_d_past c.before _ i long

-- ---- the nodes in a node

-- The node with the number j' has the label l and its first byte at q, and t is inside it.
pub record NodeIs (u : Forest) (at n j' : ℕ) (l : Label) (t : Forest) (q : ℕ) : Type 0 where
  pub from : n ≤ j'
  pub known : j' < n + count u
  pub label : label_of n j' u ≡ l
  pub inner : inside_of n j' u ≡ t
  pub place : place_of at n j' u ≡ q

way_node : {u : Forest} {at n j : ℕ} {l : Label} {t : Forest} {q : ℕ} → Way j l t q at n u → NodeIs u at n j l t q
way_node w =
    let b = way_bounds w in
    let h = way_is w in record { from = b.0; known = omega arith; label = h.0; inner = h.1; place = h.2 }

-- The node behind o.
pub node_behind : (o v : Forest) (at n k x : ℕ) (t : Forest) {j : ℕ} → j ≡ n + count o
    → NodeIs (o ⋈ group (node k x) t v) at n j (node k x) t (at + width o)
node_behind o v at n k x t e = way_node (way_behind o v at n e refl)

-- A node of what is inside the node with the number j is a node of the forest, with the same number and place.
pub node_inside : (u : Forest) (at n j j' : ℕ)
    → n ≤ j
    → j < n + count u
    → j + 1 ≤ j'
    → j' < j + 1 + count (inside_of n j u)
    → NodeIs u at n j' (label_of (j + 1) j' (inside_of n j u)) (inside_of (j + 1) j' (inside_of n j u))
    (place_of (place_of at n j u) (j + 1) j' (inside_of n j u))
node_inside u at n j j' l h l' h' =
    way_node (way_on (found u at n j l h) (found (inside_of n j u) (place_of at n j u) (j + 1) j' l' h'))

-- The node behind o in the node with the number j: its number is past those of o, its place where o ends.
pub child_behind : (u : Forest) (at n j : ℕ) (o : Forest) (k x : ℕ) (t v : Forest) → n ≤ j → j < n + count u
    → inside_of n j u ≡ o ⋈ group (node k x) t v → NodeIs u at n (j + 1 + count o) (node k x) t
    (place_of at n j u + width o)
child_behind u at n j o k x t v l h e =
    way_node
    (way_on (found u at n j l h)
    (subst (Way (j + 1 + count o) (node k x) t (place_of at n j u + width o) (place_of at n j u) (j + 1)) (sym e)
    (way_behind o v (place_of at n j u) (j + 1) refl refl)))

-- A node that stands in none of a forest's groups has the forest's parent;
pub parent_outermost : (o : Forest) (k x : ℕ) (t v : Forest) (n par : ℕ) {j : ℕ} → j ≡ n + count o
    → parent_of n par j (o ⋈ group (node k x) t v) ≡ par
unfolding parent_of ◌⋈◌ count
parent_outermost nil k x t v n par {j} e = rw (eq-eqb j n (omega arith))
parent_outermost (byte b o) k x t v n par e = parent_outermost o k x t v n par e
parent_outermost (group (node k' x') c o) k x t v n par {j} e =
    rw (ne_eqb j n (omega arith), le-ltb j (n + (1 + count c)) (omega arith))
    (parent_outermost o k x t v (n + (1 + count c)) par (omega arith))
parent_outermost (group (content d) c o) k x t v n par {j} e =
    rw (le-ltb j (n + count c) (omega arith)) (parent_outermost o k x t v (n + count c) par (omega arith))

-- so the node behind o in the node with the number j has that number for parent.
pub child_parent : (u : Forest) (n par j : ℕ) (o : Forest) (k x : ℕ) (t v : Forest) → n ≤ j → j < n + count u
    → inside_of n j u ≡ o ⋈ group (node k x) t v → parent_of n par (j + 1 + count o) u ≡ j
unfolding count
child_parent u n par j o k x t v l h e =
    let m = ap count e in
    let f = count_behind o (group (node k x) t v) in
    way_parent (found u 0 n j l h) par (j + 1 + count o) (omega arith) (omega arith)
    ∙ ap (parent_of (j + 1) j (j + 1 + count o)) e
    ∙ parent_outermost o k x t v (j + 1) j refl

-- The first child: the next number, the same place.
pub first_child_lem : (u : Forest) (at n j k x : ℕ) (t v : Forest) → n ≤ j → j < n + count u
    → inside_of n j u ≡ group (node k x) t v → NodeIs u at n (j + 1) (node k x) t (place_of at n j u)
first_child_lem u at n j k x t v l h e =
    way_node
    (way_on (found u at n j l h)
    (subst (Way (j + 1) (node k x) t (place_of at n j u) (place_of at n j u) (j + 1)) (sym e)
    (self refl refl refl refl)))

-- A node with a content inside is a record of the forest, and so are the records in front of the content and in it.
pub content_known : (d : ℕ) (c₀ u : Forest) (n j : ℕ) (o r : Forest)
    → n ≤ j
    → inside_of n j u ≡ o ⋈ group (content d) c₀ r
    → j + 1 + count o + count c₀ ≤ n + count u
content_known d c₀ u n j o r l e =
    let h = content_of_lem d c₀ u n 0 j o r l e in omega (arith, h.since, count_fits h.spot)
