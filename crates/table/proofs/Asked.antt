-- What the calls of a reader ask, from the answers of the calls before them.
-- A value that the code has copied since is a variable of its own, with an equation.
use mathlib.Core.Path.{◌≡◌}
use mathlib.Core.Bool.{Bool}
use mathlib.Core.List.{List}
use Prim.Native.Nat.{ℕ, ◌+◌, ◌≤◌, ◌<◌, ◌^◌}
use native.Mathlib.Omega.{arith}
use lib.ListN.{length}
use Rattle.lex.proofs.Results.{results}
use mir.Syntax.{w64}
use mir.Val.{Fits}
use Rattle.rules.specs.Forest.{Forest}
use Rattle.rules.specs.Rule.{Rule}
use Rattle.lex.specs.Contract.{Leaf, Past}
use Rattle.lex.specs.Answer.{Ans}
use Rattle.lex.specs.Answer.{Got}
use Rattle.table.specs.Slot.{Seat, seat_inside}
use Rattle.table.specs.Contract.{Enterable}
use Rattle.table.specs.Reader.{Room, Made}

-- ---- an end is within the input

module _ {w : Bool → Forest → ℕ} {r : Ans} {s : List ℕ} {g : Rule} {at k p m : ℕ} (l : Leaf w r s g at k)
    (h : r ≡ Got p m) where
  -- What a leaf has got ends within the input.
  pub leaf_inside : (u : List ℕ) {y : ℕ} → y ≡ p → u ≡ s → y ≤ length u
  leaf_inside u e f = rw (e, f) (l.far _ _ h).1

  -- What a leaf has got ends not before it began.
  pub leaf_past : {x y : ℕ} → x ≡ at → y ≡ p → x ≤ y
  leaf_past e f = let z = l.far _ _ h in rw (e, f) (omega arith)

  -- Room behind a leaf, for the same records.
  pub leaf_room : {c d : ℕ} {q q₁ : Seat} {u : List ℕ} {y : ℕ}
      → Room c s at q
      → c ≤ d
      → y ≡ p
      → q₁ ≡ q
      → u ≡ s
      → Room d u y q₁
  leaf_room room i x z f =
      let far = l.far _ _ h in
      rw (x, z, f)
      (record {
        short = room.short;
        inside = omega arith;
        few = omega (arith, room.few);
        held = room.held;
        shallow = room.shallow;
      })

-- What was passed ends within the input.
pub past_inside : {s : List ℕ} {g : Rule} {at k p : ℕ} (u : List ℕ) {y : ℕ}
    → Past p s g at k
    → y ≡ p
    → u ≡ s
    → y ≤ length u
past_inside u l e f = rw (e, f) l.far.1

-- What was passed ends not before it began.
pub past_past : {s : List ℕ} {g : Rule} {at k p x y : ℕ} → Past p s g at k → x ≡ at → y ≡ p → x ≤ y
past_past l e f = let z = l.far in rw (e, f) (omega arith)

-- What a reader has made ends within the input.
pub made_inside : {r : Ans} {s : List ℕ} {g : Rule} {at k : ℕ} {q : Seat} {i p m : ℕ} {t t' : List ℕ}
    (u : List ℕ) {y : ℕ}
    → Made r s g at k q i t t'
    → r ≡ Got p m
    → y ≡ p
    → u ≡ s
    → y ≤ length u
made_inside u l h e f = rw (e, f) (l.of.far _ _ h).1

-- ---- room

module _ {c : ℕ} {s : List ℕ} {at : ℕ} {q : Seat} (room : Room c s at q) where
  -- The same room, and more of it.
  pub room_here : {d : ℕ} {u : List ℕ} {y : ℕ} {q₁ : Seat} → c ≤ d → u ≡ s → y ≡ at → q₁ ≡ q → Room d u y q₁
  room_here i e f g =
      rw (e, f, g)
      (record {
        short = room.short;
        inside = room.inside;
        few = omega (arith, room.few);
        held = room.held;
        shallow = room.shallow;
      })

  -- Room inside the record here.
  pub room_inside : {d : ℕ} {u : List ℕ} {y : ℕ} {q₁ : Seat} → c + 1 ≤ d → c ≤ 100 → u ≡ s → y ≡ at → q₁ ≡ seat_inside q
      → Room d u y q₁
  room_inside i j e f g =
      let few = room.few in
      let here = room.inside in
      let short = room.short in
      let deep = room.shallow in
      rw (e, f, g)
      (record {
        short = room.short;
        inside = room.inside;
        few = omega arith;
        held = omega arith;
        shallow = omega arith;
      })

  -- The record here may be entered,
  pub enter_here : c ≤ 100 → {q₁ : Seat} → q₁ ≡ q → Enterable q₁
  enter_here j e =
      let few = room.few in
      let here = room.inside in
      let short = room.short in
      let deep = room.shallow in
      rw e (record { small = omega arith; shallow = omega arith })

  -- and so may the one inside it.
  pub enter_inside : c ≤ 100 → {q₁ : Seat} → q₁ ≡ seat_inside q → Enterable q₁
  enter_inside j e =
      let few = room.few in
      let here = room.inside in
      let short = room.short in
      let deep = room.shallow in
      rw e (record { small = omega arith; shallow = omega arith })

  -- One record on from the seat inside is a word.
  pub inside_fits : c ≤ 100 → {q₁ : Seat} {n : ℕ} → q₁ ≡ seat_inside q → n ≡ q₁.number → n + 1 < 2 ^ 32
  inside_fits j f e =
      let few = room.few in
      let here = room.inside in
      let short = room.short in
      rw (e, f) (omega arith)

  -- As many records as a reader has made, and two more, are a number.
  pub made_sum : {r : Ans} {g : Rule} {p k : ℕ} {q₁ : Seat} {i z m : ℕ} {t t' : List ℕ} {y n : ℕ}
      → Made r s g p k q₁ i t t'
      → r ≡ Got z m
      → y ≡ m
      → n ≤ 2
      → Fits w64 (y + n)
  made_sum l h e f =
      let far = l.of.far _ _ h in
      let short = room.short in
      omega arith

pub ruleset reader_asked = (
  results,
  leaf_inside,
  leaf_past,
  leaf_room,
  past_inside,
  past_past,
  made_inside,
  room_here,
  room_inside,
  enter_here,
  enter_inside,
  inside_fits,
  made_sum,
)
