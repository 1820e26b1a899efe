-- The end of an element or a fragment, with its row: what each need of their readers follows from.
use mathlib.Core.Path.{◌≡◌, sym, ap, ◌∙◌}
use mathlib.Core.List.{List}
use Prim.Native.Nat.{ℕ, ◌+◌, ◌*◌, ◌-◌, ◌≤◌, ◌<◌, ◌^◌}
use native.Mathlib.Omega.{arith}
use lib.ListN.{length}
use Rattle.lex.proofs.Results.{results}
use borrow.Rule.Slice.PartMut.{put_mid, mid_of}
use mir.Syntax.{w64}
use mir.Val.{Fits}
use Rattle.rules.specs.Parse.{Answer}
use Rattle.rules.specs.Record.{row_words}
use Rattle.lex.specs.Contract.{out_of}
use Rattle.lex.specs.Answer.{Ans, Got, No}
use Rattle.lex.proofs.Laws as Lex
use Rattle.table.specs.Slot.{Seat, seat_inside, seat_behind, rows_from}
use Rattle.table.specs.Contract.{Enterable, Start, Words, Stored}
use Rattle.table.specs.Reader.{Room, MadeOf}
use Rattle.table.proofs.Laws.{lent}
use Rattle.closing.proofs.OpenedSteps.{opening_copy}
use Rattle.row.specs.Shut.{Shut}

-- A reader that was lent the part from the word k on.
pub made_of_lent : {r : Ans} {x : Answer} {s : List ℕ} {at j : ℕ} {q : Seat} (t : List ℕ) {u : List ℕ} {k a : ℕ}
    → Start (length t) k a
    → MadeOf r x s at j q 0 (mid_of a (length t - a) t) u
    → MadeOf r x s at j q k t (put_mid a (length t - a) t u)
made_of_lent {x = x} {at = at} {q = q} t st l = record {
  is = l.is;
  far = l.far;
  wrote = λ p m y. lent (rows_from q at (out_of x)) t st (l.wrote p m y);
}

-- ---- the closing tag, and then the row

module _ {s : List ℕ} {c : ℕ} (v : ℕ) (j : Seat) (t : List ℕ) {k i : ℕ} (st : Start (length t) k i)
    (f : k ≡ row_words * (v + 1))
    {j₁ : Seat} (g₁ : j₁ ≡ seat_inside j) {j₂ : Seat} (g₂ : j₂ ≡ seat_behind v j₁)
    {r : Ans} {x : Answer} {u : List ℕ} (l : MadeOf r x s c 3 j₂ 0 (mid_of i (length t - i) t) u) where
  closing_made : MadeOf r x s c 3 (seat_behind v (seat_inside j)) (row_words * (v + 1)) t (put_mid i (length t - i) t u)
  closing_made =
      let slot : j₂ ≡ seat_behind v (seat_inside j) = g₂ ∙ ap (seat_behind v) g₁ in
      rw (f, slot) at (made_of_lent t st l)

  -- The tag is refused.
  pub shut_stops : {kind extra at : ℕ} {t' : List ℕ} {n a b d y : ℕ} → r ≡ No n a b d y
      → Shut r x s kind extra at c v j t t'
  shut_stops {kind} {extra} {at} {t'} h = record {
    closed = r;
    between = put_mid i (length t - i) t u;
    made = closing_made;
    refuses = λ n a b d y e. e;
    ends = λ z m e.
        Lex.none_got
        (λ z m. (r ≡ Got z (v + m + 1)) × Stored 0 j kind at z extra (v + m) (put_mid i (length t - i) t u) t') z m
        (sym h ∙ e);
  }

  -- It is there, and the row was stored.
  pub shut_made : {z m : ℕ} → r ≡ Got z m
      → {kind extra at y n : ℕ} {t₁ t₂ : List ℕ} → t₁ ≡ put_mid i (length t - i) t u
      → Stored 0 j kind at z extra (v + m) t₁ t₂
      → y ≡ z
      → n ≡ v + m + 1
      → Shut (Got y n) x s kind extra at c v j t t₂
  shut_made {z} {m} h {kind} {extra} {at} {y} {n} {t₁} {t₂} e w ey en =
      record {
        closed = r;
        between = put_mid i (length t - i) t u;
        made = closing_made;
        refuses = λ n' a b d y' h'. Lex.none_got (λ z' m'. Got y n ≡ No n' a b d y') z m (sym h' ∙ h);
        ends = λ z' m' h'.
            Lex.this_got
            (λ z' m'. (Got y n ≡ Got z' (v + m' + 1))
            × Stored 0 j kind at z' extra (v + m') (put_mid i (length t - i) t u) t₂)
            ((λ o. Got (ey o) (en o)), rw e at w) z' m' (sym h ∙ h');
      }

pub ruleset shut_steps = (results, shut_stops, shut_made)

-- ---- what the calls ask

module _ {s : List ℕ} {c : ℕ} (v : ℕ) (j : Seat) (room : Room 3 s c (seat_behind v (seat_inside j))) where
  -- The record may be entered;
  pub shut_enter : {j₁ : Seat} → j₁ ≡ j → Enterable j₁
  shut_enter g =
      let few = room.few in
      let here = room.inside in
      let short = room.short in
      let deep = room.shallow in
      rw g (record { small = omega arith; shallow = omega arith })

  -- the seat behind what is there so far stays within 32 bits,
  pub behind_fits : {j₁ : Seat} {n m : ℕ} → j₁ ≡ seat_inside j → n ≡ j₁.number → m ≡ v → n + m < 2 ^ 32
  behind_fits g e f =
      let few = room.few in
      let here = room.inside in
      let short = room.short in
      rw (e, f, g) (omega arith)

  -- and has room for the closing tag.
  pub shut_room : {j₁ j₂ j₃ : Seat} {u : List ℕ} {y : ℕ} → j₁ ≡ seat_inside j → j₂ ≡ seat_behind v j₁
      → u ≡ s
      → y ≡ c
      → j₃ ≡ j₂
      → Room 3 u y j₃
  shut_room g₁ g₂ e f g₃ = rw (e, f, g₃ ∙ g₂ ∙ ap (seat_behind v) g₁) room

  module _ {r : Ans} {x : Answer} {j₂ : Seat} {t u : List ℕ} (l : MadeOf r x s c 3 j₂ 0 t u) {z m : ℕ} (h : r ≡ Got z m)
    where
      -- As many records as there are is a number.
      pub shut_fits : {a b : ℕ} → a ≡ v → b ≡ m → Fits w64 (a + b)
      shut_fits e f =
          let few = room.few in
          let here = room.inside in
          let short = room.short in
          let far = l.far _ _ h in
          omega arith

      -- The row may be stored.
      pub shut_words : {at kind extra a y b : ℕ} {j₃ : Seat} → j.parent < 2 ^ 32 → at ≤ c → kind < 3 → extra < 2
          → j₃ ≡ j
          → a ≡ at
          → y ≡ z
          → b ≡ v + m
          → Words j₃ kind a y extra b
      shut_words p q d₁ d₂ g e f o =
          let deep = room.shallow in
          let few = room.few in
          let here = room.inside in
          let short = room.short in
          let far = l.far _ _ h in
          rw (g, e, f, o) (omega arith)

pub ruleset shut_asked = (results, opening_copy, shut_enter, behind_fits, shut_room, shut_fits, shut_words)
