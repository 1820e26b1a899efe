-- Stores into a table: runs of words, rows behind rows, and what a part that was lent says of the whole.
use mathlib.Core.Path.{◌≡◌, refl, sym, ap, ◌∙◌}
use mathlib.Core.List.{List, [], ◌∷◌, ◌++◌, append-nil}
use Prim.Native.Nat.{ℕ, suc, ◌+◌, ◌*◌, ◌-◌, ◌≤◌, ◌<◌, ◌^◌}
use native.Mathlib.Nat.{zero-add, suc-add, add-suc}
use native.Mathlib.Omega.{arith}
use native.Mathlib.Decide.{dec_lt}
use lib.ListN.{length, set, take, drop, take-append-drop, length-drop, drop_of_length-le}
use lib.Seq.{sets, sets-eq, set_comm, set_out, length-take-le, take_all, take-set-le}
use borrow.Author.Rules.{rules}
use borrow.Rule.Slice.PartMut.{put_mid, mid_of}
use Rattle.rules.specs.Forest.{node, Forest, nil, group, ◌⋈◌, width}
use Rattle.rules.specs.Record.{row_words, row, count, records}
use Rattle.rules.proofs.Forests.{length_records, records_join}
use Rattle.jsx.specs.Table.{written}
use Rattle.table.specs.Slot.{Seat, seat_inside, rows_from}
use Rattle.table.specs.Contract.{Start, Words, node_row, Put, Stored}

-- ---- runs of words

-- One run behind another.
pub sets_append : (a b t : List ℕ) (i : ℕ) → sets t i (a ++ b) ≡ sets (sets t i a) (i + length a) b
sets_append [] b t i = let e : i ≡ i + 0 = omega arith in ap (λ (k : ℕ). sets t k b) e
sets_append (x ∷ a) b t i =
    let e : suc i + length a ≡ i + suc (length a) = omega arith in
    sets_append a b (set t i x) (suc i) ∙ ap (λ (k : ℕ). sets (sets (set t i x) (suc i) a) k b) e

-- A word in front of a run.
set_sets : (b t : List ℕ) (i k x : ℕ) → i < k → sets (set t i x) k b ≡ set (sets t k b) i x
set_sets [] t i k x h = refl
set_sets (y ∷ b) t i k x h =
    ap (λ (l : List ℕ). sets l (suc k) b) (set_comm t i k x y (omega arith))
    ∙ set_sets b (set t k y) i (suc k) x (omega arith)

-- Two runs that do not meet, in either order.
pub sets_swap : (a b t : List ℕ) (i k : ℕ) → i + length a ≤ k → sets (sets t i a) k b ≡ sets (sets t k b) i a
sets_swap [] b t i k h = refl
sets_swap (x ∷ a) b t i k h =
    sets_swap a b (set t i x) (suc i) k (omega arith)
    ∙ ap (λ (l : List ℕ). sets l (suc i) a) (set_sets b t i k x (omega arith))

-- What comes later in the table may be stored first.
pub sets_before : (a b t : List ℕ) (i k : ℕ) → k ≡ i + length a → sets (sets t k b) i a ≡ sets t i (a ++ b)
sets_before a b t i k e =
    sym (sets_swap a b t i k (omega arith)) ∙ ap (λ (j : ℕ). sets (sets t i a) j b) e ∙ sym (sets_append a b t i)

-- Nothing is stored past the end.
pub sets_out : (ws t : List ℕ) (i : ℕ) → length t ≤ i → sets t i ws ≡ t
sets_out [] t i h = refl
sets_out (w ∷ ws) t i h =
    let e = set_out t i w h in
    ap (λ (l : List ℕ). sets l (suc i) ws) e ∙ sets_out ws t (suc i) (omega arith)

-- Nothing is changed before the place of a store.
pub sets_front : (ws t : List ℕ) (i j : ℕ) → j ≤ i → take j (sets t i ws) ≡ take j t
sets_front [] t i j h = refl
sets_front (w ∷ ws) t i j h = sets_front ws (set t i w) (suc i) j (omega arith) ∙ take-set-le j t i w h

-- Rows that fit, stored at the front, are written as document 01 says.
pub sets_written : (rows t : List ℕ) → length rows ≤ length t → sets t 0 rows ≡ written rows t
unfolding written
sets_written rows t h =
    let e : 0 + length rows ≡ length rows = zero-add (length rows) in
    sets-eq rows t 0 (omega arith) ∙ ap (λ (k : ℕ). rows ++ drop k t) e

-- One word is stored by setting it.
pub word_stored : (t : List ℕ) (k w : ℕ) → Put k (w ∷ []) t (set t k w)
word_stored t k w = record { is = refl }

-- Past the end of the table, a word is stored by changing nothing.
pub word_out : (t : List ℕ) (k w : ℕ) → length t ≤ k → Put k (w ∷ []) t t
word_out t k w h = record { is = sym (set_out t k w h) }

-- Three words, stored one by one.
pub three_stored : {t t₁ t₂ t₃ : List ℕ} {k k₁ k₂ a b c : ℕ}
    → Put k (a ∷ []) t t₁
    → Put k₁ (b ∷ []) t₁ t₂
    → Put k₂ (c ∷ []) t₂ t₃
    → k₁ ≡ k + 1
    → k₂ ≡ k + 2
    → Put k (a ∷ b ∷ c ∷ []) t t₃
three_stored {k = k} {k₁} {k₂} {a} {b} {c} h₁ h₂ h₃ e₁ e₂ =
    let f₁ : k₁ ≡ suc k = omega arith in
    let f₂ : k₂ ≡ suc (suc k) = omega arith in
    record {
      is = h₃.is ∙ (λ i. set (h₂.is i) (f₂ i) c) ∙ (λ i. set (set (h₁.is i) (f₁ i) b) (suc (suc k)) c);
    }

-- ---- rows

-- A forest's rows, stored behind another's: those of the two together.
pub stored : (u v : Forest) (t : List ℕ) (q : Seat) (at i p k j : ℕ)
    → p ≡ at + width u
    → k ≡ q.number + count u
    → j ≡ i + row_words * count u
    → sets (sets t i (rows_from q at u)) j (records p k q.parent q.depth v) ≡ sets t i (rows_from q at (u ⋈ v))
stored u v t q at i p k j d e z =
    let h = length_records u at q.number q.parent q.depth in
    let j' : j ≡ i + length (rows_from q at u) = omega arith in
    (λ y. sets (sets t i (rows_from q at u)) (j' y) (records (d y) (e y) q.parent q.depth v))
    ∙ sym (sets_append (rows_from q at u) (records (at + width u) (q.number + count u) q.parent q.depth v) t i)
    ∙ ap (sets t i) (sym (records_join u v at q.number q.parent q.depth))

-- A node's own row, stored after the rows below it.
pub headed : (c : Forest) (t : List ℕ) (q : Seat) (at i j k z x m : ℕ)
    → z ≡ at + width c
    → m ≡ count c
    → j ≡ i + row_words
    → sets (sets t j (rows_from (seat_inside q) at c)) i (node_row q k at z x m)
    ≡ sets t i (rows_from q at (group (node k x) c nil))
unfolding records
headed c t q at i j k z x m hz hm hj =
    let below = rows_from (seat_inside q) at c in
    sets_before (node_row q k at z x m) below t i j hj
    ∙ (λ y. sets t i (row k at (hz y) q.parent (q.number + (1 + hm y)) x q.depth (sym (append-nil below) y)))

-- Nothing that has no node has a row.
pub rows_none : (c : Forest) (q : Seat) (at : ℕ) → count c ≡ 0 → rows_from q at c ≡ []
rows_none c q at h = go (rows_from q at c) (omega (arith, length_records c at q.number q.parent q.depth))
  where
    go : (l : List ℕ) → length l ≡ 0 → l ≡ []
    go [] e = refl
    go (x ∷ l) e = absurd (omega arith)

-- The row of a node with no node below it.
pub leaf_row : (c : Forest) (q : Seat) (at k z x : ℕ)
    → z ≡ at + width c
    → count c ≡ 0
    → node_row q k at z x 0 ≡ rows_from q at (group (node k x) c nil)
unfolding records
leaf_row c q at k z x hz hc =
    let below = rows_from (seat_inside q) at c in
    let none = sym (append-nil below ∙ rows_none c (seat_inside q) at hc) in
    λ y. row k at (hz y) q.parent (q.number + (1 + sym hc y)) x q.depth (none y)

-- ---- a part that was lent, `&mut t[a..]`, where a is the word k or the end

set_after : (p q : List ℕ) (j w : ℕ) → set (p ++ q) (length p + j) w ≡ p ++ set q j w
set_after [] q j w = ap (λ (i : ℕ). set q i w) (zero-add j)
set_after (x ∷ p) q j w =
    ap (λ (i : ℕ). set (x ∷ p ++ q) i w) (suc-add (length p) j) ∙ ap (λ (l : List ℕ). x ∷ l) (set_after p q j w)

sets_after : (ws p q : List ℕ) (j : ℕ) → sets (p ++ q) (length p + j) ws ≡ p ++ sets q j ws
sets_after [] p q j = refl
sets_after (w ∷ ws) p q j =
    ap (λ (l : List ℕ). sets l (suc (length p + j)) ws) (set_after p q j w)
    ∙ ap (λ (i : ℕ). sets (p ++ set q j w) i ws) (sym (add-suc (length p) j))
    ∙ sets_after ws p (set q j w) (suc j)

-- What is stored at the front of the part is stored at k of the whole.
pub lent : (ws t : List ℕ) {k a : ℕ} {y : List ℕ}
    → Start (length t) k a
    → y ≡ sets (mid_of a (length t - a) t) 0 ws
    → put_mid a (length t - a) t y ≡ sets t k ws
lent ws t {k} {a} {y} st e =
    let h = st.inside in
    let n : length (drop a t) ≡ length t - a = length-drop a t in
    let m : take (length t - a) (drop a t) ≡ drop a t = take_all (length t - a) (drop a t) (omega arith) in
    let o : drop (length t - a) (drop a t) ≡ [] = drop_of_length-le (drop a t) {i = length t - a} (omega arith) in
    let l : length (take a t) ≡ a = length-take-le a t h in
    let z : length (take a t) + 0 ≡ a = omega arith in
    ap (λ (r : List ℕ). take a t ++ (y ++ r)) o
    ∙ ap (λ (r : List ℕ). take a t ++ r) (append-nil y ∙ e ∙ ap (λ (r : List ℕ). sets r 0 ws) m)
    ∙ sym (sets_after ws (take a t) (drop a t) 0)
    ∙ ap (λ (r : List ℕ). sets r (length (take a t) + 0) ws) (take-append-drop a t)
    ∙ ap (λ (i : ℕ). sets t i ws) z
    ∙ go (dec_lt k (length t))
  where
    go : Dec (k < length t) → sets t a ws ≡ sets t k ws
    go (yes p) = ap (λ (i : ℕ). sets t i ws) (st.there (omega arith))
    go (no q) =
        let w = st.none (omega arith) in
        sets_out ws t a (omega arith) ∙ sym (sets_out ws t k (omega arith))

-- A row that was stored at the front of a part is stored at its place of the whole.
pub stored_at : (t y : List ℕ) (k a : ℕ) {q : Seat} {kind b z x m : ℕ}
    → Start (length t) k a
    → Stored 0 q kind b z x m (mid_of a (length t - a) t) y
    → Stored k q kind b z x m t (put_mid a (length t - a) t y)
stored_at t y k a {q} {kind} {b} {z} {x} {m} st w = record {
  is = lent (node_row q kind b z x m) t st w.is;
  small = w.small;
}

-- In a table of no words nothing is stored.
pub stored_none : (t : List ℕ) (k : ℕ) (q : Seat) (kind a z x m : ℕ)
    → length t ≡ 0
    → q.number + (1 + m) < 2 ^ 32
    → Stored k q kind a z x m t t
stored_none t k q kind a z x m h f =
    record { is = sym (sets_out (node_row q kind a z x m) t k (omega arith)); small = f }

-- So a row is stored there by changing nothing.
pub row_out : (t : List ℕ) {q : Seat} {kind a z x : ℕ} (m : ℕ)
    → Words q kind a z x m
    → length t ≡ 0
    → Stored 0 q kind a z x m t t
row_out t {q} {kind} {a} {z} {x} m w h = stored_none t 0 q kind a z x m h w.4

pub ruleset writer_steps = (rules, word_stored, word_out, three_stored, row_out)
