-- One forest behind the other, but that a text and a text that meet become one. Which groups are texts is a parameter.
use mathlib.Core.Path.{◌≡◌, refl, sym, ap, ◌∙◌, subst}
use mathlib.Core.Bool.{Bool, true, false}
use mathlib.Core.List.{List, [], ◌++◌, append_assoc}
use Prim.Native.Nat.{ℕ, ◌+◌, ◌-◌}
use native.Mathlib.Omega.{arith}
use lib.ListN.{drop}
use Rattle.rules.specs.Forest.{Label, node, content, Forest, nil, byte, group, ◌⋈◌, width}
use Rattle.rules.specs.Parse.{pick}
use Rattle.rules.specs.Record.{row_words, row, count, records}
use Rattle.rules.proofs.Forests.{width_behind, count_behind, records_join, records_same}
use Rattle.rules.proofs.Rows.{Table, none, more, table_records, row_same}
use Rattle.rules.proofs.Moved.{Foreign, moved, records_moved}
unfoldable pub use Rattle.rules.specs.Joined.{last_ends, first_end, meet, join, ends_in_text, begins_with_text, meets}

-- Two tests that both hold.
both : (a b : Bool) → pick a b false ≡ true → (a ≡ true) × (b ≡ true)
both true b e = (refl, e)
both false b e = let z : ◌≡◌ {A = ℕ} 0 1 = cc in absurd (omega arith)

last_ends_lem : {s : List ℕ}
    → Table s
    → (z k a e p n x d : ℕ) → last_ends z (s ++ row k a e p n x d []) ≡ s ++ row k a z p n x d []
unfolding last_ends
last_ends_lem none z k a e p n x d = refl
last_ends_lem (more none) z k a e p n x d = refl
last_ends_lem (more {k = k₁} {a = a₁} {z = e₁} {p = p₁} {n = n₁} {x = x₁} {d = d₁} (more h)) z k a e p n x d =
    ap (λ (t : List ℕ). row k₁ a₁ e₁ p₁ n₁ x₁ d₁ t) (last_ends_lem (more h) z k a e p n x d)

-- A forest without nodes has no rows.
no_rows : (c : Forest) (at n par deep : ℕ) → count c ≡ 0 → records at n par deep c ≡ []
unfolding count records
no_rows nil at n par deep h = refl
no_rows (byte b u) at n par deep h = no_rows u (at + 1) n par deep h
no_rows (group (node k x) c u) at n par deep h = absurd (omega arith)
no_rows (group (content d) c u) at n par deep h =
    λ i. no_rows c at n par deep (omega arith) i ++ no_rows u (at + width c) (n + count c) par deep (omega arith) i

-- A node without nodes inside it has one row.
one_row : (k x : ℕ) (c v : Forest) (at n par deep : ℕ)
    → count c ≡ 0
    → records at n par deep (group (node k x) c v)
    ≡ row k at (at + width c) par (n + 1) x deep (records (at + width c) (n + 1) par deep v)
unfolding records
one_row k x c v at n par deep h =
    row_same k at par x deep refl (omega arith)
    ((λ i. no_rows c at (n + 1) n (deep + 1) h i ++ records (at + width c) (n + (1 + count c)) par deep v)
    ∙ records_same v refl (omega arith) refl refl)

-- The rows of two texts that have become one: its row ends where the second text ended.
module _ (w : Forest) (k x : ℕ) (c : Forest) (k' x' : ℕ) (c' v : Forest) (at n par deep : ℕ) (h : count c ≡ 0)
    (h' : count c' ≡ 0) where
  one : Forest
  one = w ⋈ group (node k x) c nil

  other : Forest
  other = group (node k' x') c' v

  width_one : width one ≡ width w + width c
  unfolding one width
  width_one = omega (arith, width_behind w (group (node k x) c nil))

  count_one : count one ≡ count w + 1
  unfolding one count
  count_one = omega (arith, count_behind w (group (node k x) c nil))

  rows_front : records at n par deep one
      ≡ records at n par deep w ++ row k (at + width w) (at + width one) par (n + count one) x deep []
  unfolding one records
  rows_front = records_join w (group (node k x) c nil) at n par deep
      ∙ ap (λ (t : List ℕ). records at n par deep w ++ t)
      (one_row k x c nil (at + width w) (n + count w) par deep h
      ∙ row_same k (at + width w) par x deep (omega (arith, width_one)) (omega (arith, count_one)) refl)

  rows_merged : records at n par deep (w ⋈ group (node k x) (c ⋈ c') v)
      ≡ records at n par deep w ++ row k (at + width w) (width one + (at + width c')) par (n + count one) x deep
      (records (width one + (at + width c')) (n + count one) par deep v)
  rows_merged = records_join w (group (node k x) (c ⋈ c') v) at n par deep
      ∙ ap (λ (t : List ℕ). records at n par deep w ++ t)
      (one_row k x (c ⋈ c') v (at + width w) (n + count w) par deep (omega (arith, count_behind c c'))
      ∙ row_same k (at + width w) par x deep z m (records_same v z m refl refl))
    where
      z : at + width w + width (c ⋈ c') ≡ width one + (at + width c')
      z = omega (arith, width_one, width_behind c c')

      m : n + count w + 1 ≡ n + count one
      m = omega (arith, count_one)

  merged : Foreign par n (count other) → records at n par deep (w ⋈ group (node k x) (c ⋈ c') v)
      ≡ last_ends (width one + first_end (records at n par deep other)) (records at n par deep one)
      ++ moved (width one) (count one - 1) 0 par par (drop row_words (records at n par deep other))
  unfolding other count first_end
  merged o = rows_merged
      ∙ sym ((λ i. last_ends (width one + first_end (rows_back i)) (rows_front i)
      ++ moved (width one) (count one - 1) 0 par par (drop row_words (rows_back i)))
      ∙ (λ i. last_ends_lem (table_records w at n par deep) (width one + (at + width c')) k (at + width w)
      (at + width one) par
      (n + count one) x deep i ++ rest i)
      ∙ append_assoc (records at n par deep w) _ _)
    where
      rows_back : records at n par deep other
          ≡ row k' at (at + width c') par (n + 1) x' deep (records (at + width c') (n + 1) par deep v)
      rows_back = one_row k' x' c' v at n par deep h'

      rest : moved (width one) (count one - 1) 0 par par (records (at + width c') (n + 1) par deep v)
          ≡ records (width one + (at + width c')) (n + count one) par deep v
      rest =
          sym (records_moved (width one) (count one - 1) 0 par par v (at + width c') (n + 1) deep
          (λ q l r. o q (omega arith) (omega arith)))
          ∙ records_same v refl (omega (arith, count_one)) refl (omega arith)

module _ (is_text : Label → Bool) where
  -- Nothing joined behind a forest is that forest.
  pub join_nil : (u : Forest) → join is_text u nil ≡ u
  unfolding join meet
  join_nil nil = refl
  join_nil (byte b u) = ap (byte b) (join_nil u)
  join_nil (group l c nil) = refl
  join_nil (group l c (byte b u)) = ap (group l c) (join_nil (byte b u))
  join_nil (group l c (group l' c' u)) = ap (group l c) (join_nil (group l' c' u))

  -- What is no text stays apart from what follows.
  pub meet_left : (l : Label) (c v : Forest) → is_text l ≡ false → meet is_text l c v ≡ group l c v
  unfolding meet
  meet_left l c nil h = refl
  meet_left l c (byte b v) h = refl
  meet_left l c (group l' c' v) h = rw h

  -- A text stays apart from what is no text.
  pub meet_right : (l : Label) (c : Forest) (l' : Label) (c' v : Forest)
      → is_text l' ≡ false
      → meet is_text l c (group l' c' v) ≡ group l c (group l' c' v)
  unfolding meet
  meet_right l c l' c' v h = go (is_text l)
    where
      go : (b : Bool)
          → pick (pick b (is_text l') false) (group l (c ⋈ c') v) (group l c (group l' c' v))
          ≡ group l c (group l' c' v)
      go true = rw h
      go false = refl

  -- Behind what is no text the join goes on.
  pub join_left : (l : Label) (c u v : Forest)
      → is_text l ≡ false
      → join is_text (group l c u) v ≡ group l c (join is_text u v)
  unfolding join
  join_left l c nil v h = meet_left l c v h
  join_left l c (byte b u) v h = refl
  join_left l c (group l' c' u) v h = refl

  -- A text at the end and a text at the start become one.
  pub join_texts : (u : Forest) (l : Label) (c : Forest) (l' : Label) (c' v : Forest)
      → is_text l ≡ true
      → is_text l' ≡ true
      → join is_text (u ⋈ group l c nil) (group l' c' v) ≡ u ⋈ group l (c ⋈ c') v
  unfolding join meet ◌⋈◌
  join_texts nil l c l' c' v h h' = rw (h, h')
  join_texts (byte b u) l c l' c' v h h' = ap (byte b) (join_texts u l c l' c' v h h')
  join_texts (group k e nil) l c l' c' v h h' = ap (group k e) (join_texts nil l c l' c' v h h')
  join_texts (group k e (byte b u)) l c l' c' v h h' = ap (group k e) (join_texts (byte b u) l c l' c' v h h')
  join_texts (group k e (group k' e' u)) l c l' c' v h h' = ap (group k e) (join_texts (group k' e' u) l c l' c' v h h')

  -- Where no text meets a text, one stands behind the other.
  pub join_apart : (u v : Forest) → meets is_text u v ≡ false → join is_text u v ≡ u ⋈ v
  unfolding join meet ◌⋈◌ ends_in_text begins_with_text meets
  join_apart nil v h = refl
  join_apart (byte b u) v h = ap (byte b) (join_apart u v h)
  join_apart (group l c nil) nil h = refl
  join_apart (group l c nil) (byte b v) h = refl
  join_apart (group l c nil) (group l' c' v) h =
      ap (λ (x : Bool). pick x (group l (c ⋈ c') v) (group l c (group l' c' v))) h
  join_apart (group l c (byte b u)) v h = ap (group l c) (join_apart (byte b u) v h)
  join_apart (group l c (group l' c' u)) v h = ap (group l c) (join_apart (group l' c' u) v h)

  -- A text meets a text: u ends in the one, v begins with the other, and joined they are one text.
  pub record Met (u v : Forest) : Type 0 where
    pub before : Forest
    pub label : Label
    pub text : Forest
    pub label' : Label
    pub text' : Forest
    pub later : Forest
    pub left : u ≡ before ⋈ group label text nil
    pub right : v ≡ group label' text' later
    pub is_one : is_text label ≡ true
    pub is_other : is_text label' ≡ true
    pub joined : join is_text u v ≡ before ⋈ group label (text ⋈ text') later

  met_byte : (b : ℕ) {u v : Forest} → Met u v → Met (byte b u) v
  unfolding join ◌⋈◌
  met_byte b h =
      record {
        before = byte b h.before;
        label = h.label;
        text = h.text;
        label' = h.label';
        text' = h.text';
        later = h.later;
        left = ap (byte
            b) h.left;
        right = h.right;
        is_one = h.is_one;
        is_other = h.is_other;
        joined = ap (byte b) h.joined;
      }

  met_group : (l : Label) (c : Forest) {u v : Forest}
      → join is_text (group l c u) v ≡ group l c (join is_text u v)
      → Met u v
      → Met (group l c u) v
  unfolding ◌⋈◌
  met_group l c e h =
      record {
        before = group l c h.before;
        label = h.label;
        text = h.text;
        label' = h.label';
        text' = h.text';
        later = h.later;
        left = ap (group l
            c) h.left;
        right = h.right;
        is_one = h.is_one;
        is_other = h.is_other;
        joined = e ∙ ap (group l c) h.joined;
      }

  -- Where a text meets a text, they become one.
  pub join_met : (u v : Forest) → meets is_text u v ≡ true → Met u v
  unfolding join meet ◌⋈◌ ends_in_text begins_with_text meets
  join_met nil v h = let z : ◌≡◌ {A = ℕ} 0 1 = cc in absurd (omega arith)
  join_met (byte b u) v h = met_byte b (join_met u v h)
  join_met (group l c nil) nil h =
      let e = (both (is_text l) false h).1 in
      let z : ◌≡◌ {A = ℕ} 0 1 = cc in
      absurd (omega arith)
  join_met (group l c nil) (byte b v) h =
      let e = (both (is_text l) false h).1 in
      let z : ◌≡◌ {A = ℕ} 0 1 = cc in
      absurd (omega arith)
  join_met (group l c nil) (group l' c' v) h =
      record {
        before = nil;
        label = l;
        text = c;
        label' = l';
        text' = c';
        later = v;
        left = refl;
        right = refl;
        is_one =
            (both (is_text l) (is_text l') h).0;
        is_other = (both (is_text l) (is_text l') h).1;
        joined = ap (λ (x : Bool). pick x
            (group l (c ⋈ c') v) (group l c (group l' c' v))) h;
      }
  join_met (group l c (byte b u)) v h = met_group l c refl (join_met (byte b u) v h)
  join_met (group l c (group l' c' u)) v h = met_group l c refl (join_met (group l' c' u) v h)

  -- Two cases are all: a text meets a text, or not.
  pub data Joining (u v : Forest) : Type 0 where
    apart : meets is_text u v ≡ false → join is_text u v ≡ u ⋈ v → Joining u v
    met : meets is_text u v ≡ true → Met u v → Joining u v

  -- One of the two holds.
  pub joining : (u v : Forest) → Joining u v
  joining u v = go (meets is_text u v) refl
    where
      go : (b : Bool) → meets is_text u v ≡ b → Joining u v
      go true e = met e (join_met u v e)
      go false e = apart e (join_apart u v e)

  -- Widths add up.
  pub width_join : (u v : Forest) → width (join is_text u v) ≡ width u + width v
  unfolding width
  width_join u v = go (joining u v)
    where
      go : Joining u v → width (join is_text u v) ≡ width u + width v
      go (apart e h) = ap width h ∙ width_behind u v
      go (met e h) = omega (
        arith,
        ap width h.joined,
        width_behind h.before (group h.label (h.text ⋈ h.text') h.later),
        width_behind h.text h.text',
        ap width h.left,
        width_behind h.before (group h.label h.text nil),
        ap width h.right,
      )

  -- Counts add up where no text meets a text.
  pub count_apart : (u v : Forest) → meets is_text u v ≡ false → count (join is_text u v) ≡ count u + count v
  count_apart u v e = ap count (join_apart u v e) ∙ count_behind u v

  -- Where no text meets a text: the rows of the one, then those of the other, moved behind the one.
  pub records_apart : (u v : Forest) (at n par deep : ℕ)
      → meets is_text u v ≡ false
      → Foreign par n (count v)
      → records at n par deep (join is_text u v)
      ≡ records at n par deep u ++ moved (width u) (count u) 0 par par (records at n par deep v)
  records_apart u v at n par deep e o =
      ap (records at n par deep) (join_apart u v e) ∙ records_join u v at n par deep
      ∙ ap (λ (t : List ℕ). records at n par deep u ++ t)
      (records_same v (omega arith) (omega arith) refl (omega arith) ∙ records_moved (width u)
      (count u) 0 par par v at n deep o)

  -- The texts of a forest that stand in none of its groups have no nodes inside them.
  unfoldable pub Bare : Forest → Type 0
  Bare nil = Unit {0}
  Bare (byte b u) = Bare u
  Bare (group l c u) = (is_text l ≡ true → count c ≡ 0) × Bare u

  bare_last : (u : Forest) (l : Label) (c v : Forest) → Bare (u ⋈ group l c v) → is_text l ≡ true → count c ≡ 0
  unfolding Bare ◌⋈◌
  bare_last nil l c v h e = h.0 e
  bare_last (byte b u) l c v h e = bare_last u l c v h e
  bare_last (group l' c' u) l c v h e = bare_last u l c v h.1 e

  -- Texts are nodes.
  module _ (nodes : (d : ℕ) → is_text (content d) ≡ false) where
    text_node_lem : (l : Label) → is_text l ≡ true → (k : ℕ) × (x : ℕ) × (l ≡ node k x)
    text_node_lem (node k x) e = (k, x, refl)
    text_node_lem (content d) e = let h = nodes d in let z : ◌≡◌ {A = ℕ} 0 1 = cc in absurd (omega arith)

    count_text : (l : Label) (c u : Forest) → is_text l ≡ true → count (group l c u) ≡ 1 + count c + count u
    unfolding count
    count_text (node k x) c u e = refl
    count_text (content d) c u e = let h = nodes d in let z : ◌≡◌ {A = ℕ} 0 1 = cc in absurd (omega arith)

    -- Where a text meets a text there is one record less.
    pub count_met : (u v : Forest) → meets is_text u v ≡ true → count (join is_text u v) + 1 ≡ count u + count v
    unfolding count
    count_met u v e = let h = join_met u v e in omega (
      arith,
      ap count h.joined,
      count_behind h.before (group h.label (h.text ⋈ h.text') h.later),
      count_text h.label (h.text ⋈ h.text') h.later h.is_one,
      count_behind h.text h.text',
      ap count h.left,
      count_behind h.before (group h.label h.text nil),
      count_text h.label h.text nil h.is_one,
      ap count h.right,
      count_text h.label' h.text' h.later h.is_other,
    )

    rows_met : {u v : Forest} (h : Met u v) (at n par deep : ℕ)
        → count h.text ≡ 0
        → count h.text' ≡ 0
        → Foreign par n (count v)
        → records at n par deep (join is_text u v)
        ≡ last_ends (width u + first_end (records at n par deep v)) (records at n par deep u)
        ++ moved (width u) (count u - 1) 0 par par (drop row_words (records at n par deep v))
    unfolding one other
    rows_met {u} {v} h at n par deep z z' o = go (text_node_lem h.label h.is_one) (text_node_lem h.label' h.is_other)
      where
        Goal : Forest → Forest → Type 0
        Goal u' v' =
            records at n par deep (join is_text u v)
            ≡ last_ends (width u' + first_end (records at n par deep v')) (records at n par deep u') ++ moved (width u')
            (count u' - 1) 0 par par (drop row_words (records at n par deep v'))

        go : (k : ℕ) × (x : ℕ) × (h.label ≡ node k x) → (k' : ℕ) × (x' : ℕ) × (h.label' ≡ node k' x') → Goal u v
        go (k, x, e) (k', x', e') =
            let left : h.before ⋈ group (node k x) h.text nil
            ≡ u = sym (h.left ∙ ap (λ (l : Label). h.before ⋈ group l h.text nil) e) in
            let right : group (node k' x') h.text' h.later
            ≡ v = sym (h.right ∙ ap (λ (l : Label). group l h.text' h.later) e') in
            subst (λ (w : Forest). Goal u w) right
            (subst (λ (w : Forest). Goal w (group (node k' x') h.text' h.later)) left
            (ap (records at n par deep)
            (h.joined ∙ ap (λ (l : Label). h.before ⋈ group l (h.text ⋈ h.text') h.later) e)
            ∙ merged h.before k x h.text k' x' h.text' h.later at n par deep z z'
            (subst (λ (w : Forest). Foreign par n (count w)) (sym right) o)))

    -- Where a text meets a text, with no nodes inside them: the rows of the one, the last with the end of the other's
    -- first; then the other's but its first, moved behind.
    pub records_met : (u v : Forest) (at n par deep : ℕ)
        → meets is_text u v ≡ true
        → Bare u
        → Bare v
        → Foreign par n (count v)
        → records at n par deep (join is_text u v)
        ≡ last_ends (width u + first_end (records at n par deep v)) (records at n par deep u)
        ++ moved (width u) (count u - 1) 0 par par (drop row_words (records at n par deep v))
    unfolding Bare
    records_met u v at n par deep e bu bv o = let h = join_met u v e in
        rows_met h at n par deep (bare_last h.before h.label h.text nil (subst Bare h.left bu) h.is_one)
        ((subst Bare h.right bv).0 h.is_other) o
