-- Steps that many readers of the cycle share: a leaf that says whether it goes on, a leaf in the place of a reader, two
-- readers one behind the other, loops, and nodes.
use mathlib.Core.Path.{◌≡◌, refl, sym, ap, subst, ◌∙◌}
use mathlib.Core.Bool.{Bool, true, false}
use mathlib.Core.List.{List}
use Prim.Native.Nat.{ℕ, suc, ◌+◌, ◌*◌, ◌-◌, ◌≤◌, ◌<◌, ◌^◌}
use native.Mathlib.Omega.{arith}
use lib.ListN.{length}
use lib.Seq.{sets}
use borrow.Rule.Slice.PartMut.{put_mid, mid_of}
use mir.Syntax.{w64}
use mir.Val.{Fits}
use Rattle.rules.specs.Forest.{node, Forest}
use Rattle.rules.specs.Rule.{Rule, stop, seq, many, node_of, ◌⨾◌}
use Rattle.rules.specs.Parse.{Answer, got, trouble, parse, read_at}
use Rattle.rules.specs.Record.{row_words, count}
use Rattle.rules.proofs.Forests.{behind_nil}
use Rattle.rules.proofs.Run.{goes, wide_got}
use Rattle.rules.proofs.Again.{seq_no, wrap_got}
use Rattle.lex.specs.Contract.{view, out_of, nothing, Leaf}
use Rattle.lex.specs.Answer.{Ans, Got, No}
use Rattle.lex.proofs.Bare.{bare, flat_got, count_flat}
use Rattle.table.specs.Slot.{Seat, seat_inside, seat_behind}
use Rattle.table.specs.Contract.{Start, Words, Stored}
use Rattle.table.specs.Reader.{Room, Made}
use Rattle.table.proofs.Laws.{rows_none}
use Rattle.table.proofs.Made.{made_as, made_no, made_lent, made_done, refused}
use Rattle.table.proofs.Upto.{Upto, upto_begin, upto_as, upto_count, upto_bare, upto_no, leaf_stops, read_goes}
use Rattle.table.proofs.Upto.{made_goes, last_made, last_made_stops, loop_on, loop_out, loop_stops, upto_made}
use Rattle.table.proofs.Upto.{node_made, node_no, same_seat, turn_read}
use Rattle.table.proofs.Asked.{reader_asked}
use Rattle.tag.specs.Token.{goes_on}
use Rattle.token.proofs.Told.{told_goes, told_stop}

-- ---- a leaf that says whether it goes on

module _ {s : List ℕ} {G L R : Rule} {at : ℕ} {q : Seat} {i : ℕ} {t₀ : List ℕ} {p m : ℕ} {t : List ℕ}
    (v : Upto s G at q i t₀ (seq L R) p m t) (ba : bare L ≡ true) {r : Ans} {k : ℕ} (l : Leaf goes_on r s L p k)
    {e j : ℕ} (h : r ≡ Got e j) where
  -- It goes on: what is behind it is left.
  pub on_more : (j ≡ 0 → ⊥) → Upto s G at q i t₀ R e m t
  on_more x = read_goes v ba (told_goes l h x) (l.far _ _ h).1

  -- It stops: so does the whole.
  pub on_last : j ≡ 0 → Upto s G at q i t₀ stop e m t
  unfolding parse
  on_last x =
      let o = out_of (read_at s L p) in
      let y = told_stop l h x in
      upto_bare v o
      (rw y (ap (λ (u : Forest). got false u e) (sym (behind_nil o))))
      (wide_got s (suc (length s)) L 0 p y)
      (l.far _ _ h).1
      (count_flat o (flat_got s (suc (length s)) L 0 p ba y))

-- ---- a leaf in the place of a reader

-- A leaf that reads bytes alone makes no record and writes nothing.
pub leaf_makes : {r : Ans} {s : List ℕ} {g : Rule} {at k : ℕ} (q : Seat) (i : ℕ) (t : List ℕ)
    → bare g ≡ true
    → Leaf nothing r s g at k
    → Made r s g at k q i t t
leaf_makes {r} {s} {g} {at} {k} q i t ba l = by (read_at s g at) refl r refl
  where
    by : (x : Answer) → read_at s g at ≡ x → (y : Ans) → r ≡ y → Made r s g at k q i t t
    by (trouble n a b c d) e y f = refused e (l.is ∙ ap (view nothing) e)
    by (got a o p) e y f =
        let is : r ≡ Got p 0 = l.is ∙ ap (view nothing) e in
        let far = l.far _ _ is in
        let none = count_flat o (flat_got s (suc (length s)) g 0 at ba e) in
        rw is (record {
          of = made_done s o at k q i t t p 0 e (sym none) (omega arith)
              (ap (sets t i) (sym (rows_none o q at none)));
        })

-- It is the first of two, in the place of a reader that would have written there.
pub leaf_made_as : {r : Ans} {s : List ℕ} {g : Rule} (G : Rule) {at k : ℕ} {q : Seat} {i : ℕ} {t : List ℕ} (j : ℕ)
    → bare g ≡ true
    → Leaf nothing r s g at k
    → read_at s g at ≡ read_at s G at
    → j ≤ k
    → Made r s G at j q i t t
leaf_made_as G {q = q} {i} {t} j ba l e f = made_as (leaf_makes q i t ba l) G j e f

-- ---- what the calls of a reader ask, behind one that has made something

module _ {c : ℕ} {s : List ℕ} {at : ℕ} {q : Seat} (room : Room c s at q) {r : Ans} {g : Rule} {k : ℕ} {q₁ : Seat}
    {i : ℕ} {t t' : List ℕ} (l : Made r s g at k q₁ i t t') {e m : ℕ} (h : r ≡ Got e m) where
  -- Room behind it.
  pub made_room : {d : ℕ} {u : List ℕ} {y : ℕ} {q₂ : Seat} → c ≤ d → u ≡ s → y ≡ e → q₂ ≡ seat_behind m q
      → Room d u y q₂
  made_room i f z w =
      let far = l.of.far _ _ h in
      let few = room.few in
      rw (f, z, w) (record {
        short = room.short;
        inside = far.1;
        few = omega arith;
        held = room.held;
        shallow = omega (arith, room.shallow);
      })

  -- The number of the seat behind it is a word.
  pub made_slot : c ≤ 100 → {x y : ℕ} → x ≡ q.number → y ≡ m → x + y < 2 ^ 32
  made_slot j f z =
      let far = l.of.far _ _ h in
      let few = room.few in
      let short = room.short in
      omega arith

  -- So is its place in the table.
  pub made_row : {y : ℕ} → y ≡ m → Fits w64 (row_words * y)
  made_row z =
      let far = l.of.far _ _ h in
      let short = room.short in
      omega arith

  -- Room behind it and a leaf.
  module _ {r₂ : Ans} {w : Bool → Forest → ℕ} {g₂ : Rule} {k₂ : ℕ} (l₂ : Leaf w r₂ s g₂ e k₂) {p j : ℕ}
      (h₂ : r₂ ≡ Got p j) where
    -- Room behind both.
    pub made_leaf_room : {d : ℕ} {u : List ℕ} {y : ℕ} {q₂ : Seat} → c ≤ d → u ≡ s → y ≡ p → q₂ ≡ seat_behind m q
        → Room d u y q₂
    made_leaf_room i f z w =
        let far = l.of.far _ _ h in
        let far₂ = l₂.far _ _ h₂ in
        let few = room.few in
        rw (f, z, w) (record {
          short = room.short;
          inside = far₂.1;
          few = omega arith;
          held = room.held;
          shallow = omega (arith, room.shallow);
        })

-- What a reader has got began within the input.
pub made_began : {r : Ans} {s : List ℕ} {g : Rule} {at k : ℕ} {q : Seat} {i : ℕ} {t t' : List ℕ} {e m : ℕ}
    → Made r s g at k q i t t'
    → r ≡ Got e m
    → at ≤ length s
made_began l h = let far = l.of.far _ _ h in omega arith

-- As many records as two readers have made are a number.
pub both_fit : {c : ℕ} {s : List ℕ} {at : ℕ} {q : Seat} {r r₂ : Ans} {g g₂ : Rule} {p₁ p₂ k k₂ : ℕ} {q₁ q₂ : Seat}
    {i i₂ e m z n : ℕ} {t t' t₂ t₃ : List ℕ} {x y : ℕ}
    → Room c s at q
    → Made r s g p₁ k q₁ i t t'
    → r ≡ Got e m
    → Made r₂ s g₂ p₂ k₂ q₂ i₂ t₂ t₃
    → r₂ ≡ Got z n
    → x ≡ m
    → y ≡ n
    → Fits w64 (x + y)
both_fit room l h l₂ h₂ e f =
    let far = l.of.far _ _ h in
    let far₂ = l₂.of.far _ _ h₂ in
    let short = room.short in
    omega arith

pub ruleset cycle_asked = (reader_asked, made_room, made_slot, made_row, made_leaf_room, both_fit)

-- ---- two readers, one behind the other

-- The rule G reads X, then Y; both go on.
pub record Splits (s : List ℕ) (G : Rule) (at : ℕ) (X Y : Rule) : Type 0 where
  pub same : read_at s G at ≡ read_at s (X ⨾ Y) at
  pub first : goes X ≡ true
  pub second : goes Y ≡ true

-- The rule G reads X first.
pub record Begins (s : List ℕ) (G : Rule) (at : ℕ) (X : Rule) : Type 0 where
  pub rest : Rule
  pub same : read_at s G at ≡ read_at s (X ⨾ rest) at

-- So it does if it is these two.
pub begins : {s : List ℕ} {G X Y : Rule} {at : ℕ} → Splits s G at X Y → Begins s G at X
begins {Y = Y} is = record { rest = Y; same = is.same }

-- The first refuses.
pub two_refuses : {s : List ℕ} {G X : Rule} {at k j : ℕ} {q : Seat} {r : Ans} {t t₁ t' : List ℕ} {x a b g y : ℕ}
    → Made r s X at k q 0 t t₁
    → r ≡ No x a b g y
    → Begins s G at X
    → Made r s G at j q 0 t t'
two_refuses {s} {G} {X} {at} l h is =
    refused (is.same ∙ seq_no s (suc (length s)) X 0 at (made_no l h) is.rest) h

module _ {s : List ℕ} {G X Y : Rule} {at : ℕ} (is : Splits s G at X Y) {c : ℕ} {q : Seat} (room : Room c s at q)
    {r : Ans} {k₁ : ℕ} {t t₁ : List ℕ} (l : Made r s X at k₁ q 0 t t₁) where
  two_begun : Upto s G at q 0 t (X ⨾ Y) at 0 t
  two_begun = upto_as (upto_begin G q 0 t room.inside) is.same

  -- The first is read: the second is left.
  pub two_first : {e k : ℕ} → r ≡ Got e k → Upto s G at q 0 t Y e k t₁
  two_first {e} {k} h =
      let z : 0 + row_words * 0 ≡ 0 = omega arith in
      upto_count (made_goes two_begun l is.first (same_seat q) (sym z) h) {k = k} (omega arith)

  module _ {e k : ℕ} (h : r ≡ Got e k) {a : ℕ} (st : Start (length t₁) (row_words * k) a) {q₂ : Seat}
      (eq : q₂ ≡ seat_behind k q) {r₂ : Ans} {k₂ : ℕ} {u : List ℕ}
      (l₂ : Made r₂ s Y e k₂ q₂ 0 (mid_of a (length t₁ - a) t₁) u) where
    -- The second refuses.
    pub two_refuses_inside : {t' : List ℕ} {x a b g y j : ℕ} → r₂ ≡ No x a b g y → Made r₂ s G at j q 0 t t'
    two_refuses_inside h₂ = refused (last_made_stops (two_first h) (made_lent t₁ st l₂ refl) h₂) h₂

    -- Both are read.
    pub two_are : {z m y x j : ℕ} {t₂ : List ℕ}
        → r₂ ≡ Got z m
        → t₂ ≡ put_mid a (length t₁ - a) t₁ u
        → j ≤ k₁ + k₂
        → y ≡ z
        → x ≡ k + m
        → Made (Got y x) s G at j q 0 t t₂
    two_are {z} {m} {j = j} h₂ w b f g =
        let far = l.of.far _ _ h in
        let far₂ = l₂.of.far _ _ h₂ in
        rw (f, g)
        (upto_made j (last_made (two_first h) (made_lent t₁ st l₂ w) is.second eq (omega arith) h₂) (omega arith))

pub ruleset two_steps = (two_refuses, two_refuses_inside, two_are)

-- ---- loops

-- The rule G is a loop, and each turn of it reads a leaf L that says whether it goes on, then R.
pub record Loops (s : List ℕ) (G L R : Rule) : Type 0 where
  pub turn : Rule
  pub is : G ≡ many turn
  pub same : (p : ℕ) → p ≤ length s → read_at s turn p ≡ read_at s (L ⨾ R) p
  pub bytes : bare L ≡ true
  pub on : goes R ≡ true

-- Where a loop stands: the room that it began with, and how far its rule is.
pub record Loop (c : ℕ) (s : List ℕ) (G : Rule) (at : ℕ) (q : Seat) (t₀ : List ℕ) (p m : ℕ) (t : List ℕ) : Type 0 where
  pub room : Room c s at q
  pub here : Upto s G at q 0 t₀ G p m t

-- It begins.
pub loop_begins : {c : ℕ} {s : List ℕ} {G : Rule} {at : ℕ} {q : Seat} {t : List ℕ} → Room c s at q
    → Loop c s G at q t at 0 t
loop_begins {G = G} {q = q} {t} room = record { room = room; here = upto_begin G q 0 t room.inside }

-- Room for what stands behind a leaf in a turn.
module _ {c : ℕ} {s : List ℕ} {G : Rule} {at : ℕ} {q : Seat} {t₀ : List ℕ} {p m : ℕ} {t : List ℕ}
    (v : Loop c s G at q t₀ p m t) where
  -- Here is within the input.
  pub loop_inside : (w : List ℕ) {y : ℕ} → y ≡ p → w ≡ s → y ≤ length w
  loop_inside w e f = rw (e, f) v.here.inside

  -- The number of the seat behind what was made so far is a word.
  pub loop_slot : c ≤ 100 → {x y : ℕ} → x ≡ q.number → y ≡ m → x + y < 2 ^ 32
  loop_slot j e f =
      let room = v.room in
      let here = v.here in
      let few = room.few in
      let short = room.short in
      let a = here.few in
      let b = here.inside in
      omega arith

  -- So is its place in the table.
  pub loop_row : {y : ℕ} → y ≡ m → Fits w64 (row_words * y)
  loop_row e =
      let a = v.here.few in
      let b = v.here.inside in
      let short = v.room.short in
      omega arith

  -- Room here.
  pub loop_room_here : {u : List ℕ} {y : ℕ} {q₁ : Seat} → u ≡ s → y ≡ p → q₁ ≡ seat_behind m q → Room c u y q₁
  loop_room_here f z w =
      let few = v.room.few in
      let a = v.here.few in
      rw (f, z, w)
      (record {
        short = v.room.short;
        inside = v.here.inside;
        few = omega arith;
        held = v.room.held;
        shallow = omega (arith, v.room.shallow);
      })

  -- Room behind a leaf.
  pub loop_room : {w : Bool → Forest → ℕ} {r : Ans} {L : Rule} {k e j : ℕ} → Leaf w r s L p k → r ≡ Got e j
      → {u : List ℕ} {y : ℕ} {q₁ : Seat} → u ≡ s
      → y ≡ e
      → q₁ ≡ seat_behind m q
      → Room c u y q₁
  loop_room l h f z w =
      let far = l.far _ _ h in
      let few = v.room.few in
      let a = v.here.few in
      rw (f, z, w)
      (record {
        short = v.room.short;
        inside = far.1;
        few = omega arith;
        held = v.room.held;
        shallow = omega (arith, v.room.shallow);
      })

-- The rule G is a loop, and each turn of it reads L first.
pub record Turns (s : List ℕ) (G L : Rule) : Type 0 where
  pub rest : Rule
  pub loops : Loops s G L rest

module _ {s : List ℕ} {G L R : Rule} (is : Loops s G L R) {c at : ℕ} {q : Seat} {t₀ : List ℕ} {p m : ℕ} {t : List ℕ}
    (v : Loop c s G at q t₀ p m t) where
  loop_left : Upto s G at q 0 t₀ (many is.turn) p m t
  loop_left = subst (λ (g : Rule). Upto s G at q 0 t₀ g p m t) is.is v.here

  loop_turn : Upto s is.turn p (seat_behind m q) (row_words * m) t (L ⨾ R) p 0 t
  loop_turn =
      upto_as (upto_begin is.turn (seat_behind m q) (row_words * m) t v.here.inside) (is.same p v.here.inside)

module _ {s : List ℕ} {G L : Rule} {c at : ℕ} {q : Seat} {t₀ : List ℕ} {p m : ℕ} {t : List ℕ}
    (v : Loop c s G at q t₀ p m t) {r : Ans} {k : ℕ} (l : Leaf goes_on r s L p k) where
  -- The leaf refuses.
  pub loop_refuses : {t' : List ℕ} {x a b g y : ℕ} → r ≡ No x a b g y → Turns s G L → Made r s G at 0 q 0 t₀ t'
  loop_refuses h is = refused (loop_stops (loop_left is.loops v) (leaf_stops (loop_turn is.loops v) l h)) h

  -- The leaf stops: the loop ends.
  pub loop_ends : {e j y x : ℕ} → r ≡ Got e j → j ≡ 0 → Turns s G L → y ≡ e → x ≡ m → Made (Got y x) s G at 0 q 0 t₀ t
  loop_ends h n is f g =
      let far = l.far _ _ h in
      let ends = v.here.ends in
      let o = loop_out refl (omega arith) (loop_left is.loops v)
      (on_last (loop_turn is.loops v) is.loops.bytes l h n) in
      rw (f, g) (upto_made 0 (upto_count o {k = m} (omega arith)) (omega arith))

module _ {s : List ℕ} {G L R : Rule} (is : Loops s G L R) {c at : ℕ} {q : Seat} {t₀ : List ℕ} {p m : ℕ} {t : List ℕ}
    (v : Loop c s G at q t₀ p m t) {r : Ans} {k₁ : ℕ} (l : Leaf goes_on r s L p k₁) where
  module _ {e j : ℕ} (h : r ≡ Got e j) where
    module _ (n : j ≡ 0 → ⊥) {a : ℕ} (st : Start (length t) (row_words * m) a) {q₂ : Seat} (eq : q₂ ≡ seat_behind m q)
        {r₂ : Ans}
        {u : List ℕ} (l₂ : Made r₂ s R e 1 q₂ 0 (mid_of a (length t - a) t) u) where
      -- What stands behind the leaf refuses.
      pub loop_refuses_inside : {t' : List ℕ} {x a b g y : ℕ} → r₂ ≡ No x a b g y → Made r₂ s G at 0 q 0 t₀ t'
      loop_refuses_inside h₂ =
          refused (loop_stops (loop_left is v)
          (last_made_stops (on_more (loop_turn is v) is.bytes l h n) (made_lent t st l₂ refl) h₂)) h₂

      module _ {z k : ℕ} (h₂ : r₂ ≡ Got z k) where
        -- The turn passes a byte.
        pub loop_less : {y : ℕ} → y ≡ z → length s - y < length s - p
        loop_less f =
            let far = l.far _ _ h in
            let far₂ = l₂.of.far _ _ h₂ in
            omega arith

        -- The records so far are a number.
        pub loop_fits : {y : ℕ} → y ≡ k → Fits w64 (m + y)
        loop_fits f =
            let far = l.far _ _ h in
            let far₂ = l₂.of.far _ _ h₂ in
            let few = v.here.few in
            let here = v.here.inside in
            let short = v.room.short in
            omega arith

        -- The loop goes on.
        pub loop_again : {y x : ℕ} {t' : List ℕ}
            → t' ≡ put_mid a (length t - a) t u
            → y ≡ z
            → x ≡ m + k
            → Loop c s G at q t₀ y x t'
        loop_again {t' = t'} w f g =
            let far = l.far _ _ h in
            let far₂ = l₂.of.far _ _ h₂ in
            let on = last_made (on_more (loop_turn is v) is.bytes l h n) (made_lent t st l₂ w) is.on
            (eq ∙ same_seat (seat_behind m q)) (omega arith) h₂ in
            let past = upto_count on {k = k} (omega arith) in
            let next = loop_on refl (omega arith) (loop_left is v) past (omega arith) in
            rw (f, g)
            (record {
              room = v.room;
              here = subst (λ (g : Rule). Upto s G at q 0 t₀ g z (m + k) t')
                  (sym is.is) next;
            })

pub ruleset loop_steps = (loop_begins, loop_refuses, loop_ends, loop_refuses_inside, loop_again)

pub ruleset loop_asked = (
  reader_asked,
  loop_inside,
  loop_slot,
  loop_row,
  loop_room_here,
  loop_room,
  loop_less,
  loop_fits,
)

-- ---- nodes

-- The rule N is a node of the kind K. Inside it bytes are read up to p, and then G is left, which goes on. It has at
-- most
-- one record more than bytes.
pub record Wraps (s : List ℕ) (N : Rule) (at K : ℕ) (G : Rule) (p : ℕ) : Type 0 where
  pub within : Rule
  pub node : read_at s N at ≡ read_at s (node_of K within) at
  pub here : (q : Seat) (i : ℕ) (t : List ℕ) → Upto s within at q i t G p 0 t
  pub on : goes G ≡ true
  pub few : (o : Forest) (z : ℕ) → read_at s N at ≡ got true o z → at + count o ≤ z + 1

-- The rule N is a node, and inside it G is left at p.
pub record Holds (s : List ℕ) (N : Rule) (at : ℕ) (G : Rule) (p : ℕ) : Type 0 where
  pub kind : ℕ
  pub wraps : Wraps s N at kind G p

lent_inside : (q : Seat) (t : List ℕ) {r : Ans} {s : List ℕ} {G : Rule} {p k : ℕ} {q₁ : Seat} {a : ℕ} {u t₁ : List ℕ}
    → Start (length t) row_words a
    → q₁ ≡ seat_inside q
    → Made r s G p k q₁ 0 (mid_of a (length t - a) t) u
    → t₁ ≡ put_mid a (length t - a) t u
    → Made r s G p k (seat_inside q) row_words t t₁
lent_inside q t {r} {s} {G} {p} {k} {t₁ = t₁} st eq l w =
    subst (λ (x : Seat). Made r s G p k x row_words t t₁) eq (made_lent t st l w)

-- What is inside refuses.
pub node_refuses : {s : List ℕ} {N G : Rule} {at p k j : ℕ} {q q₁ : Seat} {r : Ans} {t t' u u₁ : List ℕ} {x a b g y : ℕ}
    → Made r s G p k q₁ 0 u u₁
    → r ≡ No x a b g y
    → Holds s N at G p
    → Made r s N at j q 0 t t'
node_refuses {s} {at = at} {q = q} {t = t} l h is =
    refused (is.wraps.node ∙ node_no s is.wraps.within at is.kind
    (upto_no (is.wraps.here q 0 t) (made_no l h))) h

module _ {s : List ℕ} {N G : Rule} {at K p : ℕ} (t : List ℕ) {a : ℕ} (st : Start (length t) row_words a) {q q₁ : Seat}
    (eq : q₁ ≡ seat_inside q) {r : Ans} {k : ℕ} {u : List ℕ}
    (l : Made r s G p k q₁ 0 (mid_of a (length t - a) t) u) where
  -- It is read, and the node's row was stored.
  pub node_is : {z m y x j : ℕ} {t₁ t₂ : List ℕ}
      → r ≡ Got z m
      → t₁ ≡ put_mid a (length t - a) t u
      → Stored 0 q K at z 0 m t₁ t₂
      → Wraps s N at K G p
      → 1 ≤ j
      → at + j ≤ p + k
      → y ≡ z
      → x ≡ m + 1
      → Made (Got y x) s N at j q 0 t t₂
  unfolding count
  node_is {z} {m} {j = j} {t₁} {t₂} h w st₂ is o b f g =
      let far = l.of.far _ _ h in
      let up = last_made (is.here (seat_inside q) row_words t) (lent_inside q t st eq l w) is.on
      (same_seat (seat_inside q))
      refl h in
      let up₁ = upto_count up {k = m} (omega arith) in
      let whole = wrap_got s (suc (length s)) is.within 0 at (turn_read up₁) (λ o. node K 0) in
      let few = is.few _ z (is.node ∙ whole) in
      let all = up₁.all in
      rw (f, g) (made_as (node_made K j up₁ (omega arith) st₂ (omega arith)) N j (sym is.node) (omega arith))

-- A node's words are numbers.
pub node_words : {c : ℕ} {s : List ℕ} {at : ℕ} {q : Seat} {r : Ans} {G : Rule} {p k : ℕ} {q₁ : Seat} {t u : List ℕ}
    {z m K : ℕ}
    → Room c s at q
    → c ≤ 100
    → Made r s G p k q₁ 0 t u
    → r ≡ Got z m
    → K < 2 ^ 32
    → {q₂ : Seat} {x y w : ℕ} → q₂ ≡ q
    → x ≡ at
    → y ≡ z
    → w ≡ m
    → Words q₂ K x y 0 w
node_words room i l h b f g e w =
    let far = l.of.far _ _ h in
    let few = room.few in
    let short = room.short in
    let inside = room.inside in
    let held = room.held in
    let deep = room.shallow in
    rw (f, g, e, w) (omega arith)

-- So is the count of records with the node.
pub node_fits : {c : ℕ} {s : List ℕ} {at : ℕ} {q : Seat} {r : Ans} {G : Rule} {p k : ℕ} {q₁ : Seat} {t u : List ℕ}
    {z m y : ℕ}
    → Room c s at q
    → Made r s G p k q₁ 0 t u
    → r ≡ Got z m
    → y ≡ m
    → Fits w64 (y + 1)
node_fits room l h f =
    let far = l.of.far _ _ h in
    let short = room.short in
    omega arith

pub ruleset node_steps = (node_refuses, node_is)

pub ruleset node_asked = (reader_asked, node_words, node_fits)
