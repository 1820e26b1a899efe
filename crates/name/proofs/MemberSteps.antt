-- A member's name: what each need of its reader follows from.
use mathlib.Core.Path.{◌≡◌, refl, ap, ◌∙◌}
use mathlib.Core.Bool.{true}
use mathlib.Core.List.{List}
use Prim.Native.Nat.{ℕ, suc, ◌+◌, ◌*◌, ◌-◌}
use native.Mathlib.Omega.{arith}
use lib.ListN.{length}
use Rattle.lex.proofs.Results.{results}
use borrow.Rule.Slice.PartMut.{put_mid, mid_of}
use Rattle.rules.specs.Rule.{many, ◌⨾◌}
use Rattle.rules.specs.Forest.{direct}
use Rattle.rules.specs.Parse.{behind}
use Rattle.rules.specs.Record.{row_words}
use Rattle.rules.proofs.Again.{wrap_got}
use Rattle.rules.proofs.Run.{goes}
use Rattle.jsx.specs.Kind as Kind
use Rattle.jsx.specs.Byte.{need}
use Rattle.jsx.specs.Name.{object_name, part, object, dotted, member}
use Rattle.lex.specs.Contract.{bytes_from, Past}
use Rattle.lex.specs.Answer.{Ans, Got, No}
use Rattle.lex.proofs.Laws as Lex
use Rattle.table.specs.Slot.{Seat, seat_inside, seat_behind}
use Rattle.table.specs.Contract.{Start, Words, Stored}
use Rattle.table.specs.Reader.{Room, Made}
use Rattle.table.proofs.Made.{refused, made_no, made_lent}
use Rattle.table.proofs.Upto.{Upto, upto_begin, upto_count, same_seat, made_goes, last_made, node_made, node_no}
use Rattle.table.proofs.Asked.{reader_asked}
use Rattle.name.specs.Contract.{Spelt}
use Rattle.name.proofs.Parts.{object_made}

goes_object : goes object ≡ true
unfolding goes object part need
goes_object = refl

goes_rest : goes (many dotted) ≡ true
unfolding goes
goes_rest = refl

module _ {s : List ℕ} {at e : ℕ} {q : Seat} (room : Room 3 s at q) (l : Past e s part at 1) {q₁ : Seat}
    (f : q₁ ≡ seat_inside q)
    (t : List ℕ) {t₁ : List ℕ} (w : Spelt row_words q₁ (object_name (bytes_from s at (e - at))) at e t t₁) where
  -- The object was read, and its row stored.
  behind_object : Upto s (object ⨾ many dotted) at (seat_inside q) (0 + row_words) t (many dotted) e 1 t₁
  behind_object =
      let i = room.inside in
      let far = l.far in
      made_goes (upto_begin (object ⨾ many dotted) (seat_inside q) (0 + row_words) t i)
      (object_made l.is far.0 far.1 w) goes_object (f ∙ same_seat (seat_inside q)) (omega arith) refl

  module _ {a : ℕ} (st : Start (length t₁) (2 * row_words) a) {q₂ : Seat} (f₂ : q₂ ≡ seat_behind 1 q₁) {r : Ans}
      {u t₂ : List ℕ}
      (m : Made r s (many dotted) e 0 q₂ 0 (mid_of a (length t₁ - a) t₁) u)
      (g : t₂ ≡ put_mid a (length t₁ - a) t₁ u) where
    rest : Made r s (many dotted) e 0 q₂ (2 * row_words) t₁ t₂
    rest = made_lent t₁ st m g

    -- They were read, and the member's own row was stored.
    pub member_made : {z j y k : ℕ} {t₃ : List ℕ}
        → r ≡ Got z j
        → Stored 0 q Kind.member at z 0 (j + 1) t₂ t₃
        → y ≡ z
        → k ≡ j + 2
        → Made (Got y k) s member at 1 q 0 t t₃
    unfolding member
    member_made {j = j} h st₂ x v =
        let far = l.far in
        let far₂ = rest.of.far _ _ h in
        let slot : q₂ ≡ seat_behind 1 (seat_inside q) = f₂ ∙ (λ i. seat_behind 1 (f i)) in
        let through = last_made behind_object rest goes_rest slot (omega arith) h in
        let c : 1 + j ≡ j + 1 = omega arith in
        let k₂ : j + 1 + 1 ≡ j + 2 = omega arith in
        rw (x, v) (rw k₂ at (node_made Kind.member 1 (upto_count through c) (omega arith) st₂ (omega arith)))

-- The parts behind the object refuse.
pub member_stops : {s : List ℕ} {at e : ℕ} {q q₂ : Seat} {r : Ans} {t t' v u : List ℕ} {n b c d z : ℕ}
    → Past e s part at 1
    → Made r s (many dotted) e 0 q₂ 0 v u
    → r ≡ No n b c d z
    → Made r s member at 1 q 0 t t'
unfolding member object
member_stops {s} {at} {e} l m h =
    let read = wrap_got s (suc (length s)) part 0 at l.is (λ o. object_name (direct o)) in
    refused (node_no s (object ⨾ many dotted) at Kind.member
    (Lex.seq_is s (suc (length s)) 0 at object (many dotted) read ∙ ap (behind _) (made_no m h))) h

-- ---- what the calls ask

module _ {s : List ℕ} {at e : ℕ} {q : Seat} (room : Room 3 s at q) (l : Past e s part at 1) where
  -- Room for the parts behind the object.
  pub member_room : {q₁ q₂ : Seat} {u : List ℕ} {y : ℕ}
      → q₁ ≡ seat_inside q
      → q₂ ≡ seat_behind 1 q₁
      → u ≡ s
      → y ≡ e
      → Room 4 u y q₂
  member_room f f₂ g h =
      let few = room.few in
      let short = room.short in
      let here = room.inside in
      let far = l.far in
      rw (f₂, f, g, h) (record {
        short = room.short;
        inside = far.1;
        few = omega arith;
        held = omega arith;
        shallow = omega (arith, room.shallow);
      })

  module _ {q₂ : Seat} {r : Ans} {k : ℕ} {t u : List ℕ} (m : Made r s (many dotted) e 0 q₂ k t u) {z j : ℕ}
      (h : r ≡ Got z j) where
    -- Its own row may be stored.
    pub member_words : {q₁ : Seat} {x y c : ℕ} → q₁ ≡ q → x ≡ at → y ≡ z → c ≡ j + 1 → Words q₁ Kind.member x y 0 c
    member_words f g₁ g₂ g₃ =
        let few = room.few in
        let short = room.short in
        let here = room.inside in
        let held = room.held in
        let deep = room.shallow in
        let far = l.far in
        let far₂ = m.of.far _ _ h in
        rw (f, g₁, g₂, g₃) (omega arith)

pub ruleset member_steps = (results, member_stops, member_made)

pub ruleset member_asked = (reader_asked, member_room, member_words)
