-- The fact on shifts: what stands elsewhere, with other numbers, has the same table, moved.
use mathlib.Core.Path.{◌≡◌, refl, sym, ◌∙◌}
use mathlib.Core.Logic.{◌≢◌}
use mathlib.Core.List.{◌++◌}
use Prim.Native.Nat.{ℕ, ◌+◌, ◌≤◌, ◌<◌}
use native.Mathlib.Omega.{arith}
use borrow.Author.Tests.{eq-eqb, ne_eqb}
use Rattle.rules.specs.Forest.{node, content, Forest, nil, byte, group, width}
use Rattle.rules.specs.Record.{count, records}
use Rattle.rules.proofs.Forests.{records_same}
use Rattle.rules.proofs.Rows.{Row, fields, each_row, table_records, row_same, each_row_append}
unfoldable pub use Rattle.rules.specs.Moved.{reparent, moved_row, moved}

-- par is none of the m records from n on.
abbrev pub Foreign : (par n m : ℕ) → Type 0
Foreign par n m = (q : ℕ) → n ≤ q → q < n + m → q ≢ par

-- A smaller number is none of them.
pub below : {par : ℕ} (n m : ℕ) → par < n → Foreign par n m
below n m h q l r = omega arith

-- A number past them is none of them: the missing one, for one.
pub beyond : {par : ℕ} (n m : ℕ) → n + m ≤ par → Foreign par n m
beyond n m h q l r = omega arith

-- A row with its two places, its parent, its `after` and its depth changed, each by a function of its own.
unfoldable pub changed : (place number parent depth : ℕ → ℕ) → Row → Row
changed place number parent depth (fields kind a z p n x d) =
    fields kind (place a) (place z) (parent p) (number n) x (depth d)

-- A shift: from A on places and from N on numbers go in step, a parent from N on, but par, is changed as a number is,
-- and depths go in step.
module _ (place number parent depth : ℕ → ℕ) (A N par : ℕ)
    (places : (x y : ℕ) → A ≤ x → place (x + y) ≡ place x + y)
    (numbers : (x y : ℕ) → N ≤ x → number (x + y) ≡ number x + y)
    (parents : (q : ℕ) → N ≤ q → q ≢ par → parent q ≡ number q)
    (depths : (x : ℕ) → depth (x + 1) ≡ depth x + 1) where
  -- A forest that a shift moves has its table changed row by row.
  pub shifted : (u : Forest) (at n p deep : ℕ) → A ≤ at → N ≤ n → Foreign par n (count u)
      → records (place at) (number n) (parent p) (depth deep) u
      ≡ each_row (changed place number parent depth) (records at n p deep u)
  unfolding records count changed each_row
  shifted nil at n p deep ha hn o = refl
  shifted (byte b u) at n p deep ha hn o =
      records_same u (sym (places at 1 ha)) refl refl refl ∙ shifted u (at + 1) n p deep (omega arith) hn o
  shifted (group (node k x) c u) at n p deep ha hn o =
      let z = places at (width c) ha in
      let m = numbers n (1 + count c) hn in
      let inner : records (place at) (number n + 1) (number n) (depth deep + 1) c
      ≡ each_row (changed place number parent depth) (records at (n + 1) n (deep + 1) c) =
      records_same c refl (sym (numbers n 1 hn)) (sym (parents n hn (o n (omega arith) (omega arith))))
      (sym (depths deep))
      ∙ shifted c at (n + 1) n (deep + 1) ha (omega arith) (λ q l r. o q (omega arith) (omega arith)) in
      let later : records (place at + width c) (number n + (1 + count c)) (parent p) (depth deep) u
      ≡ each_row (changed place number parent depth) (records (at + width c) (n + (1 + count c)) p deep u) =
      records_same u (sym z) (sym m) refl refl
      ∙ shifted u (at + width c) (n + (1 + count c)) p deep (omega arith) (omega arith)
      (λ q l r. o q (omega arith) (omega arith)) in
      row_same k (place at) (parent p) x (depth deep) (sym z) (sym m)
      ((λ i. inner i ++ later i)
      ∙ sym (each_row_append (changed place number parent depth) (table_records c at (n + 1) n (deep + 1)) _))
  shifted (group (content d) c u) at n p deep ha hn o =
      let inner : records (place at) (number n) (parent p) (depth deep) c
      ≡ each_row (changed place number parent depth) (records at n p deep c) =
      shifted c at n p deep ha hn (λ q l r. o q l (omega arith)) in
      let later : records (place at + width c) (number n + count c) (parent p) (depth deep) u
      ≡ each_row (changed place number parent depth) (records (at + width c) (n + count c) p deep u) =
      records_same u (sym (places at (width c) ha)) (sym (numbers n (count c) hn)) refl refl
      ∙ shifted u (at + width c) (n + count c) p deep (omega arith) (omega arith)
      (λ q l r. o q (omega arith) (omega arith)) in
      (λ i. inner i ++ later i)
      ∙ sym (each_row_append (changed place number parent depth) (table_records c at n p deep) _)

reparent_par : (m par par' : ℕ) → reparent m par par' par ≡ par'
unfolding reparent
reparent_par m par par' = rw (eq-eqb par par refl)

reparent_other : (m par par' : ℕ) {p : ℕ} → p ≢ par → reparent m par par' p ≡ m + p
unfolding reparent
reparent_other m par par' {p} h = rw (ne_eqb p par h)

moved_is : (k m deeper par par' : ℕ) (r : Row)
    → changed (λ a. k + a) (λ n. m + n) (reparent m par par') (λ d. deeper + d) r ≡ moved_row k m deeper par par' r
unfolding changed moved_row
moved_is k m deeper par par' (fields kind a z p n x d) = refl

-- THE FACT ON SHIFTS: a forest k bytes and m records further on and in so many more records, under par' and not par,
-- has its table moved.
pub records_moved : (k m deeper par par' : ℕ) (u : Forest) (at n deep : ℕ)
    → Foreign par n (count u)
    → records (k + at) (m + n) par' (deeper + deep) u ≡ moved k m deeper par par' (records at n par deep u)
unfolding moved
records_moved k m deeper par par' u at n deep o =
    records_same u refl refl (sym (reparent_par m par par')) refl
    ∙ shifted (λ a. k + a) (λ a. m + a) (reparent m par par') (λ d. deeper + d) 0 0 par
    (λ x y h. omega arith) (λ x y h. omega arith) (λ q h e. reparent_other m par par' e) (λ x. omega arith)
    u at n par deep (omega arith) (omega arith) o
    ∙ (λ i. each_row (λ r. moved_is k m deeper par par' r i) (records at n par deep u))

-- Any table of a forest is its table from the first place and number on, with no ancestors, moved.
pub records_from_zero : (par par' : ℕ) (u : Forest) (at n deep : ℕ)
    → count u ≤ par
    → records at n par' deep u ≡ moved at n deep par par' (records 0 0 par 0 u)
records_from_zero par par' u at n deep h =
    records_same u (omega arith) (omega arith) refl (omega arith)
    ∙ records_moved at n deep par par' u 0 0 0 (beyond 0 (count u) (omega arith))
