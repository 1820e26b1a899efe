-- The loop over a member's parts: what each need of its reader follows from.
use mathlib.Core.Path.{◌≡◌, refl, sym, ◌∙◌}
use mathlib.Core.List.{List}
use Prim.Native.Char.{code}
use Prim.Native.Nat.{ℕ, ◌+◌, ◌*◌, ◌-◌, ◌≤◌, ◌<◌, ◌^◌}
use native.Mathlib.Omega.{arith}
use lib.Dec.{lit<}
use lib.ListN.{length}
use Rattle.lex.proofs.Results.{results}
use borrow.Author.Tests.{eq-eqb, ne_eqb}
use mir.Syntax.{w64}
use mir.Val.{Fits}
use Rattle.rules.specs.Rule.{many, ◌⨾◌}
use Rattle.rules.specs.Parse.{byte_at}
use Rattle.rules.specs.Record.{row_words}
use Rattle.jsx.specs.Blank.{blanks}
use Rattle.jsx.specs.Name.{dotted_part, dotted}
use Rattle.lex.specs.Contract.{nothing, Leaf}
use Rattle.lex.specs.Answer.{Ans, Got, No}
use Rattle.lex.proofs.Laws as Lex
use Rattle.lex.proofs.Bare.{goes_blanks, bare_blanks}
use Rattle.table.specs.Slot.{Seat, seat_behind}
use Rattle.table.specs.Reader.{Room, Made}
use Rattle.table.proofs.Made.{refused, made_length}
use Rattle.table.proofs.Upto.{Upto, upto_begin, upto_count, upto_made, same_seat, look_no, look_yes, look_else}
use Rattle.table.proofs.Upto.{leaf_goes, leaf_stops, byte_goes, last_made, last_made_stops, loop_on, loop_out}
use Rattle.table.proofs.Upto.{loop_stops}
use Rattle.name.proofs.Parts.{goes_dotted}

-- The last part ends at p, and m parts were read since `at`.
pub record Dotted (s : List ℕ) (at : ℕ) (q : Seat) (t₀ : List ℕ) (p m : ℕ) (t : List ℕ) : Type 0 where
  pub room : Room 4 s at q
  pub here : Upto s (many dotted) at q 0 t₀ (many dotted) p m t

-- Before the first turn.
pub dotted_begin : {s : List ℕ} {at : ℕ} {q : Seat} (t : List ℕ) → Room 4 s at q → Dotted s at q t at 0 t
dotted_begin {q = q} t room = record { room = room; here = upto_begin (many dotted) q 0 t room.inside }

-- ---- a turn

module _ {s : List ℕ} {at : ℕ} {q : Seat} {t₀ : List ℕ} {p m : ℕ} {t : List ℕ} (v : Dotted s at q t₀ p m t) where
  turn : Upto s dotted p (seat_behind m q) (0 + row_words * m) t dotted p 0 t
  turn = upto_begin dotted (seat_behind m q) (0 + row_words * m) t v.here.inside

  module _ {r : Ans} (l : Leaf nothing r s blanks p 0) where
    -- The blanks refuse.
    pub turn_stops : {t' : List ℕ} {n a b c d : ℕ} → r ≡ No n a b c d → Made r s (many dotted) at 0 q 0 t₀ t'
    unfolding dotted
    turn_stops h = refused (loop_stops v.here (look_no turn l h)) h

    module _ {e j b : ℕ} (h : r ≡ Got e j) (y : b ≡ byte_at s e) where
      -- No dot stands behind them.
      pub turn_ends : {y₁ z : ℕ} → (b ≡ code "." → ⊥) → y₁ ≡ p → z ≡ m → Made (Got y₁ z) s (many dotted) at 0 q 0 t₀ t
      unfolding dotted
      turn_ends x f g =
          let last = look_else turn l goes_blanks h y (ne_eqb b (code ".") x) in
          let k : m + 0 ≡ m = omega arith in
          let through = upto_count (loop_out refl refl v.here last) k in
          let wide = v.here.ends in
          rw (f, g) (upto_made 0 through (omega arith))

      -- A dot stands there.
      module _ (x : b ≡ code ".") {r₂ : Ans} (l₂ : Leaf nothing r₂ s blanks (e + 1) 0) where
        behind_dot_lem : Upto s dotted p (seat_behind m q) (0 + row_words * m) t (blanks ⨾ dotted_part) (e + 1) 0 t
        unfolding dotted
        behind_dot_lem =
            byte_goes (leaf_goes (look_yes turn l goes_blanks h y (eq-eqb b (code ".") x)) l goes_blanks bare_blanks h)
            "." refl (lit< tt) y x

        -- The blanks behind the dot refuse.
        pub turn_stops_behind : {t' : List ℕ} {n a c d g : ℕ}
            → r₂ ≡ No n a c d g
            → Made r₂ s (many dotted) at 0 q 0 t₀ t'
        turn_stops_behind h₂ = refused (loop_stops v.here (leaf_stops behind_dot_lem l₂ h₂)) h₂

        module _ {a j₂ : ℕ} (h₂ : r₂ ≡ Got a j₂) {q₁ : Seat} (f : q₁ ≡ seat_behind m q) {i : ℕ}
            (g : i ≡ row_words * m) {r₃ : Ans}
            {t' : List ℕ} (l₃ : Made r₃ s dotted_part a 1 q₁ i t t') where
          at_part : Upto s dotted p (seat_behind m q) (0 + row_words * m) t dotted_part a 0 t
          at_part = leaf_goes behind_dot_lem l₂ goes_blanks bare_blanks h₂

          -- The part behind the dot refuses.
          pub turn_refused : {n b₂ c d e₂ : ℕ} → r₃ ≡ No n b₂ c d e₂ → Made r₃ s (many dotted) at 0 q 0 t₀ t'
          turn_refused h₃ = refused (loop_stops v.here (last_made_stops at_part l₃ h₃)) h₃

          -- The part behind the dot was read: the last part ends where it does, with its records behind the others.
          pub turn_goes_on : {z j₃ y₁ k : ℕ} → r₃ ≡ Got z j₃ → y₁ ≡ z → k ≡ m + j₃ → Dotted s at q t₀ y₁ k t'
          turn_goes_on {j₃ = j₃} h₃ y₁ k =
              let far₁ = l.far _ _ h in
              let far₂ = l₂.far _ _ h₂ in
              let far₃ = l₃.of.far _ _ h₃ in
              let through = last_made at_part l₃ goes_dotted (f ∙ same_seat (seat_behind m q)) (omega arith) h₃ in
              let on = loop_on refl refl v.here through (omega arith) in
              let e₁ : m + (0 + j₃) ≡ m + j₃ = omega arith in
              rw (y₁, k) (record { room = v.room; here = upto_count on e₁ })

-- ---- what the calls ask

module _ {s : List ℕ} {at : ℕ} {q : Seat} {t₀ : List ℕ} {p m : ℕ} {t : List ℕ} (v : Dotted s at q t₀ p m t) where
  -- The last part ends within the input.
  pub turn_inside : (u : List ℕ) {y : ℕ} → y ≡ p → u ≡ s → y ≤ length u
  turn_inside u e f = rw (e, f) v.here.inside

  -- As many records as were made fit.
  turn_few : q.number + m ≤ 2 * p + 4
  turn_few =
      let few = v.here.few in
      let few₀ = v.room.few in
      omega arith

  -- The number of the next record stays within 32 bits.
  pub turn_slot : {n k : ℕ} → n ≡ q.number → k ≡ m → n + k < 2 ^ 32
  turn_slot e f =
      let few = turn_few in
      let here = v.here.inside in
      let short = v.room.short in
      omega arith

  -- The place of the next row stays within 64 bits.
  pub turn_word : {k : ℕ} → k ≡ m → Fits w64 (row_words * k)
  turn_word e =
      let few = turn_few in
      let here = v.here.inside in
      let short = v.room.short in
      omega arith

  module _ {r : Ans} (l : Leaf nothing r s blanks p 0) {e j : ℕ} (h : r ≡ Got e j) where
    -- Behind the dot is still within the input.
    pub dot_inside : {b : ℕ} (u : List ℕ) {y : ℕ} → b ≡ byte_at s e → b ≡ code "." → y ≡ e + 1 → u ≡ s → y ≤ length u
    dot_inside u f x y g = let i = Lex.before_end s e (code ".") (sym f ∙ x) (lit< tt) in rw (y, g) (omega arith)

    -- The place behind the dot stays within 64 bits.
    pub dot_fits : {y : ℕ} → y ≡ e → Fits w64 (y + 1)
    dot_fits y =
        let here = l.far _ _ h in
        let short = v.room.short in
        omega arith

    module _ {r₂ : Ans} (l₂ : Leaf nothing r₂ s blanks (e + 1) 0) {a j₂ : ℕ} (h₂ : r₂ ≡ Got a j₂) where
      -- Room for the part behind the dot.
      pub turn_room : {u : List ℕ} {y : ℕ} {q₁ : Seat} → u ≡ s → y ≡ a → q₁ ≡ seat_behind m q → Room 4 u y q₁
      turn_room g f x =
          let few = turn_few in
          let far = l.far _ _ h in
          let far₂ = l₂.far _ _ h₂ in
          rw (g, f, x)
          (record {
            short = v.room.short;
            inside = far₂.1;
            few = omega arith;
            held = v.room.held;
            shallow = omega (arith, v.room.shallow);
          })

      module _ {q₁ : Seat} {i : ℕ} {t' : List ℕ} {r₃ : Ans} (l₃ : Made r₃ s dotted_part a 1 q₁ i t t') {z j₃ : ℕ}
          (h₃ : r₃ ≡ Got z j₃) where
        -- A part comes nearer to the end.
        pub turn_nearer : {y : ℕ} → y ≡ z → length s - y < length s - p
        turn_nearer f =
            let far = l.far _ _ h in
            let far₂ = l₂.far _ _ h₂ in
            let far₃ = l₃.of.far _ _ h₃ in
            omega arith

        -- The count with the part's records stays within 64 bits.
        pub turn_sum : {y k : ℕ} → y ≡ m → k ≡ j₃ → Fits w64 (y + k)
        turn_sum f g =
            let few = turn_few in
            let far = l.far _ _ h in
            let far₂ = l₂.far _ _ h₂ in
            let far₃ = l₃.of.far _ _ h₃ in
            let short = v.room.short in
            omega arith

        -- With the part's rows the table still has the length that it had before the first turn.
        pub turn_length : length t' ≡ length t₀
        turn_length = made_length l₃ h₃ ∙ v.here.long

-- The table keeps its length.
pub dotted_length : {s : List ℕ} {at : ℕ} {q : Seat} {t₀ : List ℕ} {p m : ℕ} {t : List ℕ}
    → Dotted s at q t₀ p m t
    → length t ≡ length t₀
dotted_length v = v.here.long

pub ruleset dotted_steps = (results, dotted_begin, turn_stops, turn_ends, turn_stops_behind, turn_refused, turn_goes_on)

pub ruleset dotted_asked = (
  results,
  turn_inside,
  turn_slot,
  turn_word,
  dot_inside,
  dot_fits,
  turn_room,
  turn_nearer,
  turn_sum,
  turn_length,
  dotted_length,
)
