-- What replacing a content does to the record table.
use mathlib.Core.Path.{◌≡◌, refl, sym, ap, ◌∙◌}
use mathlib.Core.Logic.{◌≢◌}
use mathlib.Core.Bool.{Bool, true, false}
use mathlib.Core.List.{List, [], ◌++◌, append_assoc}
use Prim.Native.Nat.{ℕ, ◌+◌, ◌*◌, ◌≤◌, ◌<◌}
use native.Mathlib.Omega.{arith}
use lib.ListN.{length, length-append}
use lib.Dec.{eqb, ltb}
use borrow.Author.Tests.{eq-eqb, ne_eqb, lt-ltb, le-ltb}
use Rattle.rules.specs.Forest.{node, content, Forest, nil, byte, group, width}
use Rattle.rules.specs.Parse.{pick}
use Rattle.rules.specs.Record.{row_words, row, count, records}
use Rattle.rules.proofs.Forests.{records_same, length_records}
use Rattle.rules.proofs.Spots.{Spot, arrived, under, past, skip, fill, bytes_before, fill_same, fits, width_fill}
use Rattle.rules.proofs.Spots.{count_fill}
use Rattle.rules.proofs.Rows.{Row, fields, in_front, each_row, Table, table_append, table_records, row_same}
use Rattle.rules.proofs.Rows.{each_row_append}
use Rattle.rules.proofs.Moved.{Foreign, changed, shifted, moved, records_from_zero}
use Rattle.rules.specs.Replaced.{Change, place_along, number_along}
unfoldable pub use Rattle.rules.specs.Replaced.{widened, pushed_parent, pushed, records_before, holder, holders}

-- What changes where the content c₀ is replaced by v.
abbrev pub change_of : (c₀ v : Forest) → Change
change_of c₀ v = record { old_bytes = width c₀; new_bytes = width v; old_records = count c₀; new_records = count v }

widened_ancestor : (n₀ : ℕ) (c₀ v : Forest) (k a z p n x d : ℕ)
    → n₀ < n
    → widened n₀ (change_of c₀ v) (fields k a z p n x d)
    ≡ fields k a (place_along (change_of c₀ v) z) p (number_along (change_of c₀ v) n) x d
unfolding widened
widened_ancestor n₀ c₀ v k a z p n x d h = rw (lt-ltb n₀ n h)

widened_other : (n₀ : ℕ) (c₀ v : Forest) (k a z p n x d : ℕ)
    → n ≤ n₀
    → widened n₀ (change_of c₀ v) (fields k a z p n x d) ≡ fields k a z p n x d
unfolding widened
widened_other n₀ c₀ v k a z p n x d h = rw (le-ltb n₀ n h)

parent_before : (n₀ par : ℕ) (c₀ v : Forest) (p : ℕ) → p < n₀ + count c₀ → pushed_parent n₀ par (change_of c₀ v) p ≡ p
unfolding pushed_parent
parent_before n₀ par c₀ v p h = rw (lt-ltb p (n₀ + count c₀) h)

parent_outermost : (n₀ par : ℕ) (c₀ v : Forest) → pushed_parent n₀ par (change_of c₀ v) par ≡ par
unfolding pushed_parent
parent_outermost n₀ par c₀ v = go (ltb par (n₀ + count c₀))
  where
    go : (b : Bool) → pick b par (pick (eqb par par) par (number_along (change_of c₀ v) par)) ≡ par
    go true = refl
    go false = rw (eq-eqb par par refl)

parent_behind : (n₀ par : ℕ) (c₀ v : Forest) (p : ℕ)
    → n₀ + count c₀ ≤ p
    → p ≢ par
    → pushed_parent n₀ par (change_of c₀ v) p ≡ number_along (change_of c₀ v) p
unfolding pushed_parent
parent_behind n₀ par c₀ v p h o = rw (le-ltb p (n₀ + count c₀) h, ne_eqb p par o)

-- The rows of a forest in front of the content stay.
rows_stay : (n₀ : ℕ) (c₀ v r : Forest) (at n p deep : ℕ)
    → n + count r ≤ n₀
    → each_row (widened n₀ (change_of c₀ v)) (records at n p deep r) ≡ records at n p deep r
unfolding records count each_row
rows_stay n₀ c₀ v nil at n p deep h = refl
rows_stay n₀ c₀ v (byte b u) at n p deep h = rows_stay n₀ c₀ v u (at + 1) n p deep h
rows_stay n₀ c₀ v (group (node k x) c u) at n p deep h =
    (λ i. in_front (widened_other n₀ c₀ v k at (at + width c) p (n + (1 + count c)) x deep (omega arith) i)
    (each_row (widened n₀ (change_of c₀ v)) (records at (n + 1) n (deep + 1) c ++ records (at + width c)
    (n + (1 + count c)) p deep u)))
    ∙ ap (λ (t : List ℕ). row k at (at + width c) p (n + (1 + count c)) x deep t)
    (each_row_append (widened n₀ (change_of c₀ v)) (table_records c at (n + 1) n (deep + 1)) _
    ∙ (λ i. rows_stay n₀ c₀ v c at (n + 1) n (deep + 1) (omega arith) i
    ++ rows_stay n₀ c₀ v u (at + width c) (n + (1 + count c)) p deep (omega arith) i))
rows_stay n₀ c₀ v (group (content d) c u) at n p deep h =
    each_row_append (widened n₀ (change_of c₀ v)) (table_records c at n p deep) _
    ∙ (λ i. rows_stay n₀ c₀ v c at n p deep (omega arith) i
    ++ rows_stay n₀ c₀ v u (at + width c) (n + count c) p deep (omega arith) i)

-- The rows of a forest behind the content are pushed: a and n are its place and number before, a' and n' after.
rows_pushed : (n₀ par : ℕ) (c₀ v r : Forest) (p deep : ℕ) {a a' n n' : ℕ}
    → width c₀ ≤ a
    → n₀ + count c₀ ≤ n
    → place_along (change_of c₀ v) a ≡ a'
    → number_along (change_of c₀ v) n ≡ n'
    → pushed_parent n₀ par (change_of c₀ v) p ≡ p
    → Foreign par n (count r)
    → records a' n' p deep r ≡ each_row (pushed n₀ par (change_of c₀ v)) (records a n p deep r)
unfolding changed pushed
rows_pushed n₀ par c₀ v r p deep {a} {a'} {n} {n'} ha hn ea en ep o =
    records_same r (sym ea) (sym en) (sym ep) refl
    ∙ shifted (place_along (change_of c₀ v)) (number_along (change_of c₀ v)) (pushed_parent n₀ par (change_of c₀ v))
    (λ y. y)
    (width c₀) (n₀ + count c₀) par
    (λ x y h. omega arith) (λ x y h. omega arith) (parent_behind n₀ par c₀ v) (λ y. refl) r a n p deep ha hn o
    ∙ (λ i. each_row (λ t. same t i) (records a n p deep r))
  where
    same : (t : Row)
        → changed (place_along (change_of c₀ v)) (number_along (change_of c₀ v)) (pushed_parent n₀ par (change_of c₀ v))
        (λ y. y) t
        ≡ pushed n₀ par (change_of c₀ v) t
    same (fields k a z q m x y) = refl

-- ---- three parts of a list, and one more part before or behind them

regroup : (f b t m : List ℕ) {s m₁ : List ℕ} → s ≡ f ++ (m₁ ++ b) → m₁ ≡ m → s ++ t ≡ f ++ (m ++ (b ++ t))
regroup f b t m e q =
    (λ i. e i ++ t) ∙ append_assoc f _ t ∙ ap (λ (l : List ℕ). f ++ l) ((λ i. q i ++ b ++ t) ∙ append_assoc m b t)

preceded : (c f b m : List ℕ) {s m₁ : List ℕ} → s ≡ f ++ (m₁ ++ b) → m₁ ≡ m → c ++ s ≡ (c ++ f) ++ (m ++ b)
preceded c f b m e q = (λ i. c ++ e i) ∙ (λ i. c ++ (f ++ (q i ++ b))) ∙ sym (append_assoc c f (m ++ b))

-- ---- where the content's records stand

module _ {d : ℕ} {c₀ : Forest} where
  -- At least one record follows the content in the group that holds it.
  unfoldable pub Followed : {u : Forest} → Spot d c₀ u → Type 0
  Followed (arrived {v = v} p q) = 1 ≤ count v
  Followed (under ω) = Followed ω
  Followed (past ω) = Followed ω
  Followed (skip ω) = Followed ω

  -- The content's records are among those of what it stands in.
  pub count_fits : {u : Forest} (ω : Spot d c₀ u) → records_before ω + count c₀ ≤ count u
  unfolding records_before count
  count_fits (arrived {l = node k x} p q) = omega (arith, ap count q)
  count_fits (arrived {l = content d'} p q) = omega (arith, ap count q)
  count_fits (under {l = node k x} ω) = omega (arith, count_fits ω)
  count_fits (under {l = content d'} ω) = omega (arith, count_fits ω)
  count_fits (past {l = node k x} ω) = omega (arith, count_fits ω)
  count_fits (past {l = content d'} ω) = omega (arith, count_fits ω)
  count_fits (skip ω) = count_fits ω

  -- And one more follows them.
  followed_fits : {u : Forest} (ω : Spot d c₀ u) → Followed ω → records_before ω + count c₀ < count u
  unfolding records_before count Followed
  followed_fits (arrived {l = node k x} p q) f = omega (arith, ap count q)
  followed_fits (arrived {l = content d'} p q) f = omega (arith, ap count q)
  followed_fits (under {l = node k x} ω) f = omega (arith, followed_fits ω f)
  followed_fits (under {l = content d'} ω) f = omega (arith, followed_fits ω f)
  followed_fits (past {l = node k x} ω) f = omega (arith, followed_fits ω f)
  followed_fits (past {l = content d'} ω) f = omega (arith, followed_fits ω f)
  followed_fits (skip ω) f = followed_fits ω f

  -- The rows in front of a content v put there.
  unfoldable pub front : {u : Forest} (at n par deep : ℕ) → Spot d c₀ u → Forest → List ℕ
  front at n par deep (arrived p q) v = []
  front at n par deep (under {l = node k x} ω) v =
      row k at (at + width (fill ω v)) par (n + (1 + count (fill ω v))) x deep (front at (n + 1) n (deep + 1) ω v)
  front at n par deep (under {l = content d'} ω) v = front at n par deep ω v
  front at n par deep (past {l = node k x} {c = c} ω) v =
      row k at (at + width c) par (n + (1 + count c)) x deep
      (records at (n + 1) n (deep + 1) c ++ front (at + width c) (n + (1 + count c)) par deep ω v)
  front at n par deep (past {l = content d'} {c = c} ω) v =
      records at n par deep c ++ front (at + width c) (n + count c) par deep ω v
  front at n par deep (skip ω) v = front (at + 1) n par deep ω v

  -- The rows behind it.
  unfoldable pub back : {u : Forest} (at n par deep : ℕ) → Spot d c₀ u → Forest → List ℕ
  back at n par deep (arrived {v = r} p q) v = records (at + width v) (n + count v) par deep r
  back at n par deep (under {l = node k x} {v = r} ω) v =
      back at (n + 1) n (deep + 1) ω v ++ records (at + width (fill ω v)) (n + (1 + count (fill ω v))) par deep r
  back at n par deep (under {l = content d'} {v = r} ω) v =
      back at n par deep ω v ++ records (at + width (fill ω v)) (n + count (fill ω v)) par deep r
  back at n par deep (past {l = node k x} {c = c} ω) v = back (at + width c) (n + (1 + count c)) par deep ω v
  back at n par deep (past {l = content d'} {c = c} ω) v = back (at + width c) (n + count c) par deep ω v
  back at n par deep (skip ω) v = back (at + 1) n par deep ω v

  -- The rows of a content v put there.
  abbrev pub middle : {u : Forest} (at n par deep : ℕ) → Spot d c₀ u → Forest → List ℕ
  middle at n par deep ω v =
      records (at + bytes_before ω) (n + records_before ω) (holder n par ω) (holders deep ω) v

  -- A table is the rows in front of a content, the content's, and those behind it.
  pub three_parts : {u : Forest} (ω : Spot d c₀ u) (v : Forest) (at n par deep : ℕ)
      → records at n par deep (fill ω v) ≡ front at n par deep ω v ++
      (middle at n par deep ω v ++ back at n par deep ω v)
  unfolding records fill bytes_before records_before holder holders front back
  three_parts (arrived {l = node k x} p q) v at n par deep = let z : ◌≡◌ {A = ℕ} 0 1 = cc in absurd (omega arith)
  three_parts (arrived {l = content d'} {v = r} p q) v at n par deep =
      ap (λ (t : List ℕ). t ++ records (at + width v) (n + count v) par deep r)
      (records_same v (omega arith) (omega arith) refl refl)
  three_parts (under {l = node k x} {v = r} ω) v at n par deep =
      ap (λ (t : List ℕ). row k at (at + width (fill ω v)) par (n + (1 + count (fill ω v))) x deep t)
      (regroup (front at (n + 1) n (deep + 1) ω v) (back at (n + 1) n (deep + 1) ω v) _
      (middle at n par deep (under {l = node k x} {v = r} ω) v)
      (three_parts ω v at (n + 1) n (deep + 1)) (records_same v refl (omega arith) refl refl))
  three_parts (under {l = content d'} {v = r} ω) v at n par deep =
      regroup (front at n par deep ω v) (back at n par deep ω v) _ (middle at n par deep ω v)
      (three_parts ω v at n par deep) refl
  three_parts (past {l = node k x} {c = c} ω) v at n par deep =
      ap (λ (t : List ℕ). row k at (at + width c) par (n + (1 + count c)) x deep t)
      (preceded (records at (n + 1) n (deep + 1) c) (front (at + width c) (n + (1 + count c)) par deep ω v)
      (back (at + width c) (n + (1 + count c)) par deep ω v) (middle at n par deep (past {l = node k x} {c = c} ω) v)
      (three_parts ω v (at + width c) (n + (1 + count c)) par deep)
      (records_same v (omega arith) (omega arith) refl refl))
  three_parts (past {l = content d'} {c = c} ω) v at n par deep =
      preceded (records at n par deep c) (front (at + width c) (n + count c) par deep ω v)
      (back (at + width c) (n + count c) par deep ω v) (middle at n par deep (past {l = content d'} {c = c} ω) v)
      (three_parts ω v (at + width c) (n + count c) par deep) (records_same v (omega arith) (omega arith) refl refl)
  three_parts (skip {b = b} ω) v at n par deep =
      preceded [] (front (at + 1) n par deep ω v) (back (at + 1) n par deep ω v)
      (middle at n par deep (skip {b = b} ω) v)
      (three_parts ω v (at + 1) n par deep) (records_same v (omega arith) refl refl refl)

  -- The rows in front of the content: an ancestor's row ends further on, any other stays.
  front_widened : {u : Forest} (ω : Spot d c₀ u) → Followed ω → (v : Forest) (n₀ at n p deep : ℕ)
      → n + records_before ω ≡ n₀
      → front at n p deep ω v ≡ each_row (widened n₀ (change_of c₀ v)) (front at n p deep ω c₀)
  unfolding records_before Followed front each_row
  front_widened (arrived p₁ q) f v n₀ at n p deep e = refl
  front_widened (under {l = node k x} {c = c} ω) f v n₀ at n p deep e =
      let w = width_fill ω v in let w' = width_fill ω c₀ in let h = fits ω in
      let m = count_fill ω v in let m' = count_fill ω c₀ in let g = followed_fits ω f in
      sym ((λ i. in_front
      (widened_ancestor n₀ c₀ v k at (at + width (fill ω c₀)) p (n + (1 + count (fill ω c₀))) x deep (omega arith) i)
      (each_row (widened n₀ (change_of c₀ v)) (front at (n + 1) n (deep + 1) ω c₀)))
      ∙ row_same k at p x deep (omega arith) (omega arith)
      (sym (front_widened ω f v n₀ at (n + 1) n (deep + 1) (omega arith))))
  front_widened (under {l = content d'} ω) f v n₀ at n p deep e = front_widened ω f v n₀ at n p deep e
  front_widened (past {l = node k x} {c = c} ω) f v n₀ at n p deep e =
      sym ((λ i. in_front (widened_other n₀ c₀ v k at (at + width c) p (n + (1 + count c)) x deep (omega arith) i)
      (each_row (widened n₀ (change_of c₀ v))
      (records at (n + 1) n (deep + 1) c ++ front (at + width c) (n + (1 + count c)) p deep ω c₀)))
      ∙ ap (λ (t : List ℕ). row k at (at + width c) p (n + (1 + count c)) x deep t)
      (each_row_append (widened n₀ (change_of c₀ v)) (table_records c at (n + 1) n (deep + 1)) _
      ∙ (λ i. rows_stay n₀ c₀ v c at (n + 1) n (deep + 1) (omega arith) i
      ++ sym (front_widened ω f v n₀ (at + width c) (n + (1 + count c)) p deep (omega arith)) i)))
  front_widened (past {l = content d'} {c = c} ω) f v n₀ at n p deep e =
      sym (each_row_append (widened n₀ (change_of c₀ v)) (table_records c at n p deep) _
      ∙ (λ i. rows_stay n₀ c₀ v c at n p deep (omega arith) i
      ++ sym (front_widened ω f v n₀ (at + width c) (n + count c) p deep (omega arith)) i))
  front_widened (skip ω) f v n₀ at n p deep e = front_widened ω f v n₀ (at + 1) n p deep e

  -- The rows behind the content are whole rows.
  table_back : {u : Forest} (ω : Spot d c₀ u) (v : Forest) (at n p deep : ℕ) → Table (back at n p deep ω v)
  unfolding back
  table_back (arrived {v = r} p₁ q) v at n p deep = table_records r (at + width v) (n + count v) p deep
  table_back (under {l = node k x} {v = r} ω) v at n p deep =
      table_append (table_back ω v at (n + 1) n (deep + 1)) (table_records r _ _ p deep)
  table_back (under {l = content d'} {v = r} ω) v at n p deep =
      table_append (table_back ω v at n p deep) (table_records r _ _ p deep)
  table_back (past {l = node k x} {c = c} ω) v at n p deep = table_back ω v (at + width c) (n + (1 + count c)) p deep
  table_back (past {l = content d'} {c = c} ω) v at n p deep = table_back ω v (at + width c) (n + count c) p deep
  table_back (skip ω) v at n p deep = table_back ω v (at + 1) n p deep

  -- The rows behind the content: places and numbers go along.
  back_pushed : {u : Forest} (ω : Spot d c₀ u) (v : Forest) (n₀ par at n p deep : ℕ)
      → n + records_before ω ≡ n₀
      → pushed_parent n₀ par (change_of c₀ v) p ≡ p
      → ((q : ℕ) → n₀ + count c₀ ≤ q → q < n + count u → q ≢ par)
      → back at n p deep ω v ≡ each_row (pushed n₀ par (change_of c₀ v)) (back at n p deep ω c₀)
  unfolding records_before back count
  back_pushed (arrived {l = node k x} {v = r} p₁ q₁) v n₀ par at n p deep e k₁ o =
      let z : ◌≡◌ {A = ℕ} 0 1 = cc in
      absurd (omega arith)
  back_pushed (arrived {l = content d'} {v = r} p₁ q₁) v n₀ par at n p deep e k o =
      let h = ap count q₁ in
      rows_pushed n₀ par c₀ v r p deep (omega arith) (omega arith) (omega arith) (omega arith) k
      (λ q l g. o q (omega arith) (omega arith))
  back_pushed (under {l = node kind x} {v = r} ω) v n₀ par at n p deep e k o =
      let w = width_fill ω v in let w' = width_fill ω c₀ in let h = fits ω in
      let m = count_fill ω v in let m' = count_fill ω c₀ in let g = count_fits ω in
      let inner : back at (n + 1) n (deep + 1) ω v ≡ each_row (pushed n₀ par (change_of c₀ v))
      (back at (n + 1) n (deep + 1) ω c₀) =
      back_pushed ω v n₀ par at (n + 1) n (deep + 1) (omega arith) (parent_before n₀ par c₀ v n (omega arith))
      (λ q l s. o q l (omega arith)) in
      let later : records (at + width (fill ω v)) (n + (1 + count (fill ω v))) p deep r
      ≡ each_row (pushed n₀ par (change_of c₀ v)) (records (at + width (fill ω c₀))
      (n + (1 + count (fill ω c₀))) p deep r) =
      rows_pushed n₀ par c₀ v r p deep (omega arith) (omega arith) (omega arith) (omega arith) k
      (λ q l s. o q (omega arith) (omega arith)) in
      (λ i. inner i ++ later i) ∙ sym (each_row_append (pushed n₀ par (change_of c₀ v))
      (table_back ω c₀ at (n + 1) n (deep + 1)) _)
  back_pushed (under {l = content d'} {v = r} ω) v n₀ par at n p deep e k o =
      let w = width_fill ω v in let w' = width_fill ω c₀ in let h = fits ω in
      let m = count_fill ω v in let m' = count_fill ω c₀ in let g = count_fits ω in
      let inner : back at n p deep ω v ≡ each_row (pushed n₀ par (change_of c₀ v)) (back at n p deep ω c₀) =
      back_pushed ω v n₀ par at n p deep e k (λ q l s. o q l (omega arith)) in
      let later : records (at + width (fill ω v)) (n + count (fill ω v)) p deep r
      ≡ each_row (pushed n₀ par (change_of c₀ v)) (records (at + width (fill ω c₀)) (n + count (fill ω c₀)) p deep r) =
      rows_pushed n₀ par c₀ v r p deep (omega arith) (omega arith) (omega arith) (omega arith) k
      (λ q l s. o q (omega arith) (omega arith)) in
      (λ i. inner i ++ later i) ∙ sym (each_row_append (pushed n₀ par (change_of c₀ v)) (table_back ω c₀ at n p deep) _)
  back_pushed (past {l = node kind x} {c = c} ω) v n₀ par at n p deep e k o =
      back_pushed ω v n₀ par (at + width c) (n + (1 + count c)) p deep (omega arith) k (λ q l s. o q l (omega arith))
  back_pushed (past {l = content d'} {c = c} ω) v n₀ par at n p deep e k o =
      back_pushed ω v n₀ par (at + width c) (n + count c) p deep (omega arith) k (λ q l s. o q l (omega arith))
  back_pushed (skip ω) v n₀ par at n p deep e k o = back_pushed ω v n₀ par (at + 1) n p deep e k o

  -- There is a row in front of the content for each record before it.
  length_front : {u : Forest} (ω : Spot d c₀ u) (v : Forest) (at n p deep : ℕ)
      → length (front at n p deep ω v) ≡ row_words * records_before ω
  unfolding front records_before
  length_front (arrived p₁ q) v at n p deep = refl
  length_front (under {l = node k x} ω) v at n p deep = let h = length_front ω v at (n + 1) n (deep + 1) in omega arith
  length_front (under {l = content d'} ω) v at n p deep = length_front ω v at n p deep
  length_front (past {l = node k x} {c = c} ω) v at n p deep =
      let h = length_front ω v (at + width c) (n + (1 + count c)) p deep in
      let g = length_records c at (n + 1) n (deep + 1) in
      simp length-append (omega arith)
  length_front (past {l = content d'} {c = c} ω) v at n p deep =
      let h = length_front ω v (at + width c) (n + count c) p deep in
      let g = length_records c at n p deep in
      simp length-append (omega arith)
  length_front (skip ω) v at n p deep = length_front ω v (at + 1) n p deep

  -- ---- the law

  -- The table of u, which stands at `at` under par and so many records with the first record n, and its table with
  -- another content v in the spot.
  pub record Edited {u : Forest} (ω : Spot d c₀ u) (at n par deep : ℕ) : Type 0 where
    -- the rows in front of the content, and those behind it
    pub ahead : List ℕ
    pub rest : List ℕ
    -- a row for each record before the content
    pub size : length ahead ≡ row_words * records_before ω
    -- the table before
    pub was : records at n par deep u
        ≡ ahead ++ (records (at + bytes_before ω) (n + records_before ω) (holder n par ω) (holders deep ω) c₀ ++ rest)
    -- the table after: ancestors end further on, the new content stands in the place of the old, and behind it
    -- places and numbers go along
    pub now : (v : Forest) → records at n par deep (fill ω v)
        ≡ each_row (widened (n + records_before ω) (change_of c₀ v)) ahead
        ++ (records (at + bytes_before ω) (n + records_before ω) (holder n par ω) (holders deep ω) v
        ++ each_row (pushed (n + records_before ω) par (change_of c₀ v)) rest)

  -- Replacing a content that a record follows changes the table so. par is none of the records.
  pub edited : {u : Forest} (ω : Spot d c₀ u)
      → Followed ω
      → (at n par deep : ℕ) → Foreign par n (count u)
      → Edited ω at n par deep
  edited {u} ω f at n par deep o = record {
    ahead = front at n par deep ω c₀;
    rest = back at n par deep ω c₀;
    size = length_front ω c₀ at n par deep;
    was = ap (records at n par deep) (sym (fill_same ω)) ∙ three_parts ω c₀ at n par deep;
    now = λ v. three_parts ω v at n par deep
        ∙ (λ i. front_widened ω f v (n + records_before ω) at n par deep refl i
        ++ (records (at + bytes_before ω) (n + records_before ω) (holder n par ω) (holders deep ω) v
        ++ back_pushed ω v (n + records_before ω) par at n par deep refl
        (parent_outermost (n + records_before ω) par c₀ v)
        (λ q l r. o q (omega arith) r) i));
  }

  -- The same, with the new content's rows taken from its own table, whose outermost parent is `missing`:
  -- they stand there moved along.
  pub edited_moved : {u : Forest} (ω : Spot d c₀ u) (at n par deep missing : ℕ) (h : Edited ω at n par deep)
      (v : Forest)
      → count v ≤ missing
      → records at n par deep (fill ω v)
      ≡ each_row (widened (n + records_before ω) (change_of c₀ v)) h.ahead
      ++ (moved (at + bytes_before ω) (n + records_before ω) (holders deep ω) missing (holder n par ω)
      (records 0 0 missing 0 v)
      ++ each_row (pushed (n + records_before ω) par (change_of c₀ v)) h.rest)
  edited_moved ω at n par deep missing h v l = h.now v
      ∙ ap (λ (t : List ℕ). each_row (widened (n + records_before ω) (change_of c₀ v)) h.ahead
      ++ (t ++ each_row (pushed (n + records_before ω) par (change_of c₀ v)) h.rest))
      (records_from_zero missing (holder n par ω) v (at + bytes_before ω) (n + records_before ω)
      (holders deep ω) l)
