-- A rule on its way: what it has read so far, with its rows stored, and what is left of it.
-- Every step of a reader's code is one law here.
use mathlib.Core.Path.{◌≡◌, refl, sym, ap, ◌∙◌}
use mathlib.Core.Bool.{Bool, true, false}
use mathlib.Core.List.{List, []}
use Prim.Native.Char.{Char, code}
use Prim.Native.Nat.{ℕ, suc, ◌+◌, ◌*◌, ◌≤◌, ◌<◌}
use native.Mathlib.Omega.{arith}
use lib.ListN.{length}
use lib.Seq.{sets, length-sets}
use Rattle.rules.specs.Forest.{Label, node, Forest, nil, group, ◌⋈◌, width}
use Rattle.rules.specs.Rule.{Test, Rule, done, stop, step, when, after, seq, many, wrap, node_of}
use Rattle.rules.specs.Parse.{Answer, got, trouble, pick, and_then, behind, byte_at, parse, read_at}
use Rattle.rules.specs.Record.{row_words, count}
use Rattle.rules.proofs.Forests.{behind_nil, width_behind, count_behind}
use Rattle.rules.proofs.Run.{goes, behind_none, behind_behind, wide_got}
use Rattle.rules.proofs.Again.{seq_no, wrap_no, wrap_got, after_no, after_got}
use Rattle.rules.proofs.Turns.{many_more, many_last, many_no}
use Rattle.jsx.specs.Byte.{is, need, expect}
use Rattle.lex.specs.Contract.{out_of, Leaf}
use Rattle.lex.specs.Answer.{Ans, Got, No}
use Rattle.lex.proofs.Laws as Lex
use Rattle.lex.proofs.Bare.{bare, flat_got, count_flat}
use Rattle.table.specs.Slot.{Seat, seat_inside, seat_behind, rows_from}
use Rattle.table.specs.Contract.{node_row, Stored}
use Rattle.table.specs.Reader.{Made}
use Rattle.table.proofs.Laws.{stored, headed, leaf_row, rows_none}
use Rattle.table.proofs.Made.{made_done, made_no, made_got, made_count, refused}

-- The rule G began at `at`, in the seat q, at the word i of t₀. It has read up to p, with m records, which are stored:
-- t. The rule g is left.
pub record Upto (s : List ℕ) (G : Rule) (at : ℕ) (q : Seat) (i : ℕ) (t₀ : List ℕ) (g : Rule) (p m : ℕ) (t : List ℕ)
    : Type 0 where
  pub acc : Forest
  pub so : read_at s G at ≡ behind acc (read_at s g p)
  pub ends : p ≡ at + width acc
  pub inside : p ≤ length s
  pub all : m ≡ count acc
  pub few : 2 * at + m ≤ 2 * p
  pub wrote : t ≡ sets t₀ i (rows_from q at acc)
  pub long : length t ≡ length t₀

-- ---- steps

-- Nothing is read yet.
pub upto_begin : {s : List ℕ} (G : Rule) {at : ℕ} (q : Seat) (i : ℕ) (t : List ℕ)
    → at ≤ length s
    → Upto s G at q i t G at 0 t
unfolding width count Rattle.rules.specs.Record.records
upto_begin {s} G {at} q i t h = record {
  acc = nil;
  so = sym (behind_none (read_at s G at));
  ends = omega arith;
  inside = h;
  all = refl;
  few = omega arith;
  wrote = refl;
  long = refl;
}

module _ {s : List ℕ} {G : Rule} {at : ℕ} {q : Seat} {i : ℕ} {t₀ : List ℕ} {g : Rule} {p m : ℕ} {t : List ℕ}
    (v : Upto s G at q i t₀ g p m t) where
  -- The same, by another rule that answers the same here.
  pub upto_as : {h : Rule} → read_at s g p ≡ read_at s h p → Upto s G at q i t₀ h p m t
  upto_as e = record {
    acc = v.acc;
    so = v.so ∙ ap (behind v.acc) e;
    ends = v.ends;
    inside = v.inside;
    all = v.all;
    few = v.few;
    wrote = v.wrote;
    long = v.long;
  }

  -- The same, with the count said otherwise.
  pub upto_count : {k : ℕ} → m ≡ k → Upto s G at q i t₀ g p k t
  upto_count e = rw e at v

  -- More was read: o, up to z, with j records, which are stored behind the others.
  pub upto_more : {h : Rule} (o : Forest) {z j : ℕ} {t' : List ℕ}
      → read_at s g p ≡ behind o (read_at s h z)
      → z ≡ p + width o
      → z ≤ length s
      → j ≡ count o
      → 2 * p + j ≤ 2 * z
      → t' ≡ sets t (i + row_words * m) (rows_from (seat_behind m q) p o)
      → Upto s G at q i t₀ h z (m + j) t'
  upto_more {h} o {z} {j} {t'} e w b c f x =
      let w₁ = width_behind v.acc o in
      let c₁ = count_behind v.acc o in
      let en = v.ends in
      let al = v.all in
      let k : i + row_words * m ≡ i + row_words * count v.acc = omega arith in
      let now = rows_from (seat_behind m q) p o in
      record {
        acc = v.acc ⋈ o;
        so = v.so ∙ ap (behind v.acc) e ∙ behind_behind v.acc o (read_at s h z);
        ends = omega arith;
        inside = b;
        all = omega arith;
        few = omega (arith, v.few);
        wrote = x
            ∙ ap (λ (y : List ℕ). sets y (i + row_words * m) now) v.wrote
            ∙ stored v.acc o t₀ q at i p (q.number + m) (i + row_words * m) en (ap (λ (y : ℕ). q.number + y) al) k;
        long = ap length x ∙ length-sets t (i + row_words * m) now ∙ v.long;
      }

  -- More was read, with no record.
  pub upto_bare : {h : Rule} (o : Forest) {z : ℕ}
      → read_at s g p ≡ behind o (read_at s h z)
      → z ≡ p + width o
      → z ≤ length s
      → count o ≡ 0
      → Upto s G at q i t₀ h z m t
  upto_bare {h} o {z} e w b c =
      let none : rows_from (seat_behind m q) p o ≡ [] = rows_none o (seat_behind m q) p c in
      let on = upto_more {h = h} o {j = 0} e w b (sym c) (omega arith) (λ y. sets t (i + row_words * m) (sym none y)) in
      let k : m + 0 ≡ m = omega arith in
      rw k at on

  -- What is left refuses.
  pub upto_no : {x a b c d : ℕ} → read_at s g p ≡ trouble x a b c d → read_at s G at ≡ trouble x a b c d
  upto_no e = v.so ∙ ap (behind v.acc) e

-- The seat behind no record.
pub same_seat : (q : Seat) → q ≡ seat_behind 0 q
same_seat q =
    let n : q.number ≡ q.number + 0 = omega arith in
    λ i. record { number = n i; parent = q.parent; depth = q.depth }

-- ---- by the byte here, or behind what was looked over

module _ {s : List ℕ} {G : Rule} {at : ℕ} {q : Seat} {i : ℕ} {t₀ : List ℕ} {f : Test} {x y : Rule} {p m : ℕ}
    {t : List ℕ} where
  -- The byte here passes the test: the first rule is left.
  pub upto_when : {b : ℕ}
      → Upto s G at q i t₀ (when f x y) p m t
      → b ≡ byte_at s p
      → f b ≡ true
      → Upto s G at q i t₀ x p m t
  upto_when v e h = upto_as v (Lex.when_yes s (suc (length s)) 0 p f x y (sym (ap f e) ∙ h))

  -- The byte here fails the test: the second rule is left.
  pub upto_else : {b : ℕ}
      → Upto s G at q i t₀ (when f x y) p m t
      → b ≡ byte_at s p
      → f b ≡ false
      → Upto s G at q i t₀ y p m t
  upto_else v e h = upto_as v (Lex.when_no s (suc (length s)) 0 p f x y (sym (ap f e) ∙ h))

  module _ {l : Rule} (v : Upto s G at q i t₀ (after l f x y) p m t) {w : Bool → Forest → ℕ} {r : Ans} {k : ℕ}
      (z : Leaf w r s l p k) where
    -- What is looked over refuses: so does G.
    pub look_no : {c₁ c₂ c₃ c₄ c₅ : ℕ} → r ≡ No c₁ c₂ c₃ c₄ c₅ → read_at s G at ≡ trouble c₁ c₂ c₃ c₄ c₅
    look_no h = upto_no v (after_no s (suc (length s)) l 0 p (Lex.leaf_no z h) f x y)

    module _ (go : goes l ≡ true) {e j b : ℕ} (h : r ≡ Got e j) (d : b ≡ byte_at s e) where
      -- The byte behind what is looked over passes the test: the first rule is left, from here on.
      pub look_yes : f b ≡ true → Upto s G at q i t₀ x p m t
      look_yes c =
          let c' : f (byte_at s e) ≡ true = sym (ap f d) ∙ c in
          upto_as v (after_got s (suc (length s)) l 0 p (Lex.leaf_got go z h) f x y ∙ rw c')

      -- The byte behind what is looked over fails the test: the second rule is left, from here on.
      pub look_else : f b ≡ false → Upto s G at q i t₀ y p m t
      look_else c =
          let c' : f (byte_at s e) ≡ false = sym (ap f d) ∙ c in
          upto_as v (after_got s (suc (length s)) l 0 p (Lex.leaf_got go z h) f x y ∙ rw c')

-- ---- one rule, then the other

module _ {s : List ℕ} {G : Rule} {at : ℕ} {q : Seat} {i : ℕ} {t₀ : List ℕ} {x y : Rule} {p m : ℕ} {t : List ℕ}
    (v : Upto s G at q i t₀ (seq x y) p m t) where
  module _ {w : Bool → Forest → ℕ} {r : Ans} {k : ℕ} (z : Leaf w r s x p k) where
    -- The first is a leaf, and it refuses: so does G.
    pub leaf_stops : {c₁ c₂ c₃ c₄ c₅ : ℕ} → r ≡ No c₁ c₂ c₃ c₄ c₅ → read_at s G at ≡ trouble c₁ c₂ c₃ c₄ c₅
    leaf_stops h = upto_no v (seq_no s (suc (length s)) x 0 p (Lex.leaf_no z h) y)

    -- The first is a leaf that has got bytes alone: the second is left behind them.
    pub leaf_goes : goes x ≡ true → bare x ≡ true → {e j : ℕ} → r ≡ Got e j → Upto s G at q i t₀ y e m t
    leaf_goes go ba h =
        let e = Lex.leaf_got go z h in
        upto_bare v _
        (Lex.seq_is s (suc (length s)) 0 p x y e)
        (wide_got s (suc (length s)) x 0 p e)
        (z.far _ _ h).1
        (count_flat _ (flat_got s (suc (length s)) x 0 p ba e))

  -- The first has read bytes alone.
  pub read_goes : bare x ≡ true
      → {o : Forest} {e : ℕ} → read_at s x p ≡ got true o e
      → e ≤ length s
      → Upto s G at q i t₀ y e m t
  read_goes ba {o} e b =
      upto_bare v o (Lex.seq_is s (suc (length s)) 0 p x y e) (wide_got s (suc (length s)) x 0 p e) b
      (count_flat o (flat_got s (suc (length s)) x 0 p ba e))

  -- The first is a byte, which is there.
  pub byte_goes : (c : Char) {b : ℕ}
      → x ≡ expect c
      → code c < 256
      → b ≡ byte_at s p
      → b ≡ code c
      → Upto s G at q i t₀ y (p + 1) m t
  unfolding expect bare need
  byte_goes c {b} e j f h =
      let i : p < length s = Lex.before_end s p (code c) (sym f ∙ h) j in
      let there = Lex.when_yes s (suc (length s)) 0 p (is c) step need (Lex.byte_is f h)
      ∙ Lex.step_is s (suc (length s)) 0 p i in
      read_goes (ap bare e) (ap (λ (z : Rule). read_at s z p) e ∙ there) (omega arith)

  module _ {r : Ans} {k : ℕ} {q₁ : Seat} {i₁ : ℕ} {t' : List ℕ} (z : Made r s x p k q₁ i₁ t t') where
    -- The first is a reader that writes, and it refuses: so does G.
    pub made_stops : {c₁ c₂ c₃ c₄ c₅ : ℕ} → r ≡ No c₁ c₂ c₃ c₄ c₅ → read_at s G at ≡ trouble c₁ c₂ c₃ c₄ c₅
    made_stops h = upto_no v (seq_no s (suc (length s)) x 0 p (made_no z h) y)

    -- The first is a reader that has written at its place in the table: the second is left behind what it made.
    pub made_goes : goes x ≡ true → q₁ ≡ seat_behind m q → i₁ ≡ i + row_words * m → {e j : ℕ} → r ≡ Got e j
        → Upto s G at q i t₀ y e (m + j) t'
    made_goes go eq ei h =
        let e = made_got z go h in
        let f = z.of.far _ _ h in
        upto_more v _
        (Lex.seq_is s (suc (length s)) 0 p x y e)
        (wide_got s (suc (length s)) x 0 p e)
        f.1
        (made_count z go h)
        f.0
        (z.of.wrote _ _ h ∙ (λ o. sets t (ei o) (rows_from (eq o) p (out_of (read_at s x p)))))

-- ---- the last of a rule

module _ {s : List ℕ} {G : Rule} {at : ℕ} {q : Seat} {i : ℕ} {t₀ : List ℕ} {x : Rule} {p m : ℕ} {t : List ℕ}
    (v : Upto s G at q i t₀ x p m t) where
  module _ {w : Bool → Forest → ℕ} {r : Ans} {k : ℕ} (z : Leaf w r s x p k) where
    -- A leaf is left, and it refuses: so does G.
    pub last_leaf_stops : {c₁ c₂ c₃ c₄ c₅ : ℕ} → r ≡ No c₁ c₂ c₃ c₄ c₅ → read_at s G at ≡ trouble c₁ c₂ c₃ c₄ c₅
    last_leaf_stops h = upto_no v (Lex.leaf_no z h)

    -- A leaf is left, and it has got bytes alone: nothing more is left.
    pub last_leaf : goes x ≡ true → bare x ≡ true → {e j : ℕ} → r ≡ Got e j → Upto s G at q i t₀ done e m t
    unfolding parse
    last_leaf go ba {e = z₁} h =
        let e = Lex.leaf_got go z h in
        upto_bare v _
        (e ∙ ap (λ (o : Forest). got true o z₁) (sym (behind_nil _)))
        (wide_got s (suc (length s)) x 0 p e)
        (z.far _ _ h).1
        (count_flat _ (flat_got s (suc (length s)) x 0 p ba e))

  module _ {r : Ans} {k : ℕ} {q₁ : Seat} {i₁ : ℕ} {t' : List ℕ} (z : Made r s x p k q₁ i₁ t t') where
    -- A reader that writes is left, and it refuses: so does G.
    pub last_made_stops : {c₁ c₂ c₃ c₄ c₅ : ℕ} → r ≡ No c₁ c₂ c₃ c₄ c₅ → read_at s G at ≡ trouble c₁ c₂ c₃ c₄ c₅
    last_made_stops h = upto_no v (made_no z h)

    -- A reader is left, and it has written at its place in the table: nothing more is left.
    pub last_made : goes x ≡ true → q₁ ≡ seat_behind m q → i₁ ≡ i + row_words * m → {e j : ℕ} → r ≡ Got e j
        → Upto s G at q i t₀ done e (m + j) t'
    unfolding parse
    last_made go eq ei {e = z₁} h =
        let e = made_got z go h in
        let f = z.of.far _ _ h in
        upto_more v _
        (e ∙ ap (λ (o : Forest). got true o z₁) (sym (behind_nil _)))
        (wide_got s (suc (length s)) x 0 p e)
        f.1
        (made_count z go h)
        f.0
        (z.of.wrote _ _ h ∙ (λ o. sets t (ei o) (rows_from (eq o) p (out_of (read_at s x p)))))

-- ---- loops: a turn T of `many T`, which began at p, is itself on its way

-- A turn that is through goes on, with what was read on its way.
pub turn_read : {s : List ℕ} {T : Rule} {p : ℕ} {q : Seat} {i z j : ℕ} {t t' : List ℕ}
    (u : Upto s T p q i t done z j t')
    → read_at s T p ≡ got true u.acc z
unfolding parse
turn_read {z = z} u = u.so ∙ ap (λ (o : Forest). got true o z) (behind_nil u.acc)

-- A turn that has come to its `stop` ends the loop, with what was read on its way.
pub stop_read : {s : List ℕ} {T : Rule} {p : ℕ} {q : Seat} {i z j : ℕ} {t t' : List ℕ}
    (u : Upto s T p q i t stop z j t')
    → read_at s T p ≡ got false u.acc z
unfolding parse
stop_read {z = z} u = u.so ∙ ap (λ (o : Forest). got false o z) (behind_nil u.acc)

-- What a turn stored.
turn_wrote : {s : List ℕ} {T g : Rule} {p : ℕ} {q₁ : Seat} {i₁ z j : ℕ} {t t' : List ℕ} (q : Seat) (i m : ℕ)
    → q₁ ≡ seat_behind m q
    → i₁ ≡ i + row_words * m
    → (u : Upto s T p q₁ i₁ t g z j t')
    → t' ≡ sets t (i + row_words * m) (rows_from (seat_behind m q) p u.acc)
turn_wrote {p = p} {t = t} q i m eq ei u = u.wrote ∙ (λ o. sets t (ei o) (rows_from (eq o) p u.acc))

module _ {s : List ℕ} {G T : Rule} {at : ℕ} {q : Seat} {i : ℕ} {t₀ : List ℕ} {p m : ℕ} {t : List ℕ} where
  module _ {q₁ : Seat} {i₁ z j : ℕ} {t' : List ℕ} (eq : q₁ ≡ seat_behind m q) (ei : i₁ ≡ i + row_words * m) where
    -- `many T` is the last of G, and had one more turn: it is left from there on.
    pub loop_on : Upto s G at q i t₀ (many T) p m t → Upto s T p q₁ i₁ t done z j t' → p < z
        → Upto s G at q i t₀ (many T) z (m + j) t'
    loop_on v u l =
        upto_more v _ (many_more s T 0 p (turn_read u) l v.inside) u.ends u.inside u.all u.few
        (turn_wrote q i m eq ei u)

    -- `many T` is the last of G, and had its last turn: nothing more is left.
    pub loop_out : Upto s G at q i t₀ (many T) p m t
        → Upto s T p q₁ i₁ t stop z j t'
        → Upto s G at q i t₀ done z (m + j) t'
    unfolding parse
    loop_out v u =
        upto_more v _
        (many_last s T 0 p (stop_read u) ∙ ap (λ (o : Forest). got true o z) (sym (behind_nil u.acc)))
        u.ends u.inside u.all u.few (turn_wrote q i m eq ei u)

    -- Something is behind `many T`, which had one more turn: both are left from there on.
    pub loop_on_then : {y : Rule} → Upto s G at q i t₀ (seq (many T) y) p m t → Upto s T p q₁ i₁ t done z j t' → p < z
        → Upto s G at q i t₀ (seq (many T) y) z (m + j) t'
    unfolding parse
    loop_on_then {y} v u l =
        upto_more v _
        (go (read_at s (many T) z) (many_more s T 0 p (turn_read u) l v.inside))
        u.ends u.inside u.all u.few (turn_wrote q i m eq ei u)
      where
        next : Answer → Answer
        next x = and_then x (λ a o z. pick a (behind o (read_at s y z)) (got false o z))

        push : (x : Answer) → next (behind u.acc x) ≡ behind u.acc (next x)
        push (got true o z) = sym (behind_behind u.acc o (read_at s y z))
        push (got false o z) = refl
        push (trouble a b c d e) = refl

        go : (x : Answer)
            → read_at s (many T) p ≡ behind u.acc x
            → next (read_at s (many T) p) ≡ behind u.acc (next x)
        go x e = ap next e ∙ push x

    -- Something is behind `many T`, which had its last turn: that alone is left.
    pub loop_out_then : {y : Rule} → Upto s G at q i t₀ (seq (many T) y) p m t → Upto s T p q₁ i₁ t stop z j t'
        → Upto s G at q i t₀ y z (m + j) t'
    loop_out_then {y} v u =
        upto_more v _ (Lex.seq_is s (suc (length s)) 0 p (many T) y (many_last s T 0 p (stop_read u)))
        u.ends u.inside u.all u.few (turn_wrote q i m eq ei u)

  -- `many T` is the last of G, and a turn refuses: so does G.
  pub loop_stops : {x a b c d : ℕ} → Upto s G at q i t₀ (many T) p m t → read_at s T p ≡ trouble x a b c d
      → read_at s G at ≡ trouble x a b c d
  loop_stops v e = upto_no v (many_no s T 0 p e)

  -- Something is behind `many T`, and a turn refuses: so does G.
  pub loop_stops_then : {y : Rule} {x a b c d : ℕ} → Upto s G at q i t₀ (seq (many T) y) p m t
      → read_at s T p ≡ trouble x a b c d
      → read_at s G at ≡ trouble x a b c d
  loop_stops_then {y} v e = upto_no v (seq_no s (suc (length s)) (many T) 0 p (many_no s T 0 p e) y)

-- ---- to close a return

-- The rule is through.
pub upto_made : {s : List ℕ} {G : Rule} {at : ℕ} {q : Seat} {i : ℕ} {t₀ : List ℕ} {p m : ℕ} {t : List ℕ} (k : ℕ)
    → Upto s G at q i t₀ done p m t
    → at + k ≤ p
    → Made (Got p m) s G at k q i t₀ t
upto_made {s} {at = at} {q} {i} {t₀} {p} {m} {t} k v h = record {
  of = made_done s v.acc at k q i t₀ t p m (turn_read v) v.all (v.few, v.inside, h) v.wrote;
}

-- A reader of all that is left is called last, and its answer is handed up.
pub handed_up : {r : Ans} {s : List ℕ} {G g : Rule} {at p j : ℕ} {q q₁ : Seat} {i i₁ : ℕ} {t t' : List ℕ} (k : ℕ)
    → Upto s G at q i t g p 0 t
    → goes g ≡ true
    → Made r s g p j q₁ i₁ t t'
    → q₁ ≡ q
    → i₁ ≡ i
    → at + k ≤ p + j
    → Made r s G at k q i t t'
handed_up {r} {s} {G} {g} {at} {p} {j} {q} {i = i} {t = t} {t'} k v go l eq ei h = by r refl
  where
    by : (x : Ans) → r ≡ x → Made r s G at k q i t t'
    by (Got z m) e =
        let far = l.of.far _ _ e in
        let n : i + row_words * 0 ≡ i = omega arith in
        let on = upto_count (last_made v l go (eq ∙ same_seat q) (ei ∙ sym n) e) {k = m} (omega arith) in
        rw e (upto_made k on (omega arith))
    by (No n a b c d) e = refused (upto_no v (made_no l e)) e

-- What is inside a node is through, and then its own row was stored.
pub node_made : {s : List ℕ} {G : Rule} {at : ℕ} {q : Seat} {i : ℕ} {t₀ : List ℕ} {p m : ℕ} {t t' : List ℕ} (K k : ℕ)
    → Upto s G at (seat_inside q) (i + row_words) t₀ done p m t
    → at + k ≤ p
    → Stored i q K at p 0 m t t'
    → 2 * at + (m + 1) ≤ 2 * p
    → Made (Got p (m + 1)) s (node_of K G) at k q i t₀ t'
unfolding count
node_made {s} {G} {at} {q} {i} {t₀} {p} {m} {t} {t'} K k v h w f =
    let al = v.all in
    record {
      of = made_done s (group (node K 0) v.acc nil) at k q i t₀ t' p (m + 1)
          (wrap_got s (suc (length s)) G 0 at (turn_read v) (λ o. node K 0))
          (omega arith)
          (f, v.inside, h)
          (w.is
          ∙ ap (λ (y : List ℕ). sets y i (node_row q K at p 0 m)) v.wrote
          ∙ headed v.acc t₀ q at i (i + row_words) K p 0 m v.ends v.all refl);
    }

-- What is inside a node refuses.
pub node_no : (s : List ℕ) (G : Rule) (at : ℕ) {x a b c d : ℕ} (K : ℕ)
    → read_at s G at ≡ trouble x a b c d
    → read_at s (node_of K G) at ≡ trouble x a b c d
node_no s G at K e = wrap_no s (suc (length s)) G 0 at e (λ o. node K 0)

-- A node that holds bytes alone: they were read, and its row was stored.
pub leaf_made : {s : List ℕ} {g : Rule} {at : ℕ} {q : Seat} {i : ℕ} {t t' : List ℕ} {o : Forest} {e K x : ℕ}
    (label : Forest → Label) (k : ℕ)
    → bare g ≡ true
    → read_at s g at ≡ got true o e
    → label o ≡ node K x
    → e ≤ length s
    → at + (k + 1) ≤ e
    → Stored i q K at e x 0 t t'
    → Made (Got e 1) s (wrap label g) at (k + 1) q i t t'
unfolding count
leaf_made {s} {g} {at} {q} {i} {t} {t'} {o} {e} {K} {x} label k ba r l b f w =
    let none = count_flat o (flat_got s (suc (length s)) g 0 at ba r) in
    let wide = wide_got s (suc (length s)) g 0 at r in
    record {
      of = made_done s (group (node K x) o nil) at (k + 1) q i t t' e 1
          (wrap_got s (suc (length s)) g 0 at r label ∙ ap (λ (y : Label). got true (group y o nil) e) l)
          (omega arith)
          (omega arith)
          (w.is ∙ ap (sets t i) (leaf_row o q at K e x wide none));
    }
