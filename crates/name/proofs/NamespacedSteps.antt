-- A name with a colon: what each need of its reader follows from.
use mathlib.Core.Path.{◌≡◌, refl, ◌∙◌}
use mathlib.Core.Bool.{true}
use mathlib.Core.List.{List}
use Prim.Native.Char.{code}
use Prim.Native.Nat.{ℕ, suc, ◌+◌, ◌*◌, ◌-◌, ◌≤◌}
use native.Mathlib.Omega.{arith}
use lib.Dec.{lit<}
use lib.ListN.{length}
use Rattle.lex.proofs.Results.{results}
use mir.Syntax.{w64}
use mir.Val.{Fits}
use Rattle.rules.specs.Forest.{node}
use Rattle.rules.specs.Rule.{Rule, ◌⨾◌}
use Rattle.rules.specs.Record.{row_words}
use Rattle.rules.proofs.Run.{goes}
use Rattle.rules.proofs.Again.{seq_no}
use Rattle.jsx.specs.Kind as Kind
use Rattle.jsx.specs.Byte.{need, expect}
use Rattle.jsx.specs.Blank.{blanks}
use Rattle.jsx.specs.Name.{dashed, part, other_part, namespaced}
use Rattle.lex.specs.Contract.{nothing, bytes_from, Leaf}
use Rattle.lex.specs.Answer.{Ans, Got, No}
use Rattle.lex.proofs.Laws as Lex
use Rattle.lex.proofs.Bare.{goes_blanks, bare_blanks}
use Rattle.table.specs.Slot.{Seat, seat_inside, seat_behind}
use Rattle.table.specs.Contract.{Words, Stored}
use Rattle.table.specs.Reader.{Room, Made}
use Rattle.table.proofs.Made.{refused}
use Rattle.table.proofs.Upto.{Upto, upto_begin, same_seat, read_goes, byte_goes, leaf_goes, made_goes, last_made}
use Rattle.table.proofs.Upto.{last_made_stops, handed_up, node_made, node_no}
use Rattle.table.proofs.Asked.{reader_asked}
use Rattle.name.specs.declared.First.{First}
use Rattle.name.specs.Contract.{Prefix, Spelt}
use Rattle.name.proofs.Parts.{other_made}

goes_other : goes other_part ≡ true
unfolding goes other_part part need
goes_other = refl

goes_second : goes (blanks ⨾ other_part) ≡ true
unfolding goes blanks
goes_second = goes_other

-- What stands in such a name.
abbrev pair : Rule
pair = other_part ⨾ blanks ⨾ expect ":" ⨾ blanks ⨾ other_part

module _ {s : List ℕ} {f : First} {q : Seat} (room : Room 3 s f.at q) (pre : Prefix s f) {q₁ : Seat}
    (g : q₁ ≡ seat_inside q)
    (t : List ℕ) {t₁ : List ℕ}
    (w : Spelt row_words q₁ (node Kind.other_part (dashed (bytes_from s f.at (f.end - f.at)))) f.at f.end t t₁)
  where
    -- The first part was read and its row stored; then blanks, and the colon.
    behind_colon_lem : Upto s pair f.at (seat_inside q) (0 + row_words) t (blanks ⨾ other_part) (f.next + 1) 1 t₁
    behind_colon_lem =
        let far = pre.read.far in
        let far₂ = pre.passed.far in
        let first = made_goes (upto_begin pair (seat_inside q) (0 + row_words) t room.inside)
        (other_made pre.read.is far.0 far.1 w) goes_other (g ∙ same_seat (seat_inside q)) (omega arith) refl in
        byte_goes (read_goes first bare_blanks pre.passed.is far₂.1) ":" refl (lit< tt) refl pre.colon

    module _ {q₂ : Seat} (g₂ : q₂ ≡ seat_behind 1 q₁) {p : ℕ} (x : p ≡ f.next + 1) {r : Ans} {t₂ : List ℕ}
        (m : Made r s (blanks ⨾ other_part) p 1 q₂ (2 * row_words) t₁ t₂) where
      second : Made r s (blanks ⨾ other_part) (f.next + 1) 1 q₂ (2 * row_words) t₁ t₂
      second = rw x at m

      -- The second part refuses.
      pub namespaced_stops : {n a b c d : ℕ} → r ≡ No n a b c d → Made r s namespaced f.at 1 q 0 t t₂
      unfolding namespaced
      namespaced_stops h = refused (node_no s pair f.at Kind.namespaced (last_made_stops behind_colon_lem second h)) h

      -- It was read, and the name's own row was stored.
      pub namespaced_made : {z j y k : ℕ} {t₃ : List ℕ}
          → r ≡ Got z j
          → Stored 0 q Kind.namespaced f.at z 0 (j + 1) t₂ t₃
          → y ≡ z
          → k ≡ j + 2
          → Made (Got y k) s namespaced f.at 1 q 0 t t₃
      unfolding namespaced
      namespaced_made {j = j} h st e v =
          let far = pre.read.far in
          let far₂ = pre.passed.far in
          let far₃ = second.of.far _ _ h in
          let slot : q₂ ≡ seat_behind 1 (seat_inside q) = g₂ ∙ (λ i. seat_behind 1 (g i)) in
          let through = last_made behind_colon_lem second goes_second slot (omega arith) h in
          let c : 1 + j ≡ j + 1 = omega arith in
          let k₂ : j + 1 + 1 ≡ j + 2 = omega arith in
          rw (e, v) (rw k₂ at (node_made Kind.namespaced 1 (rw c at through) (omega arith) st (omega arith)))

module _ {s : List ℕ} {at : ℕ} {r : Ans} (l : Leaf nothing r s blanks at 0) {q : Seat} {k : ℕ} {t : List ℕ} where
  -- The blanks in front of a part refuse.
  pub next_stops : {t' : List ℕ} {n a b c d : ℕ} → r ≡ No n a b c d → Made r s (blanks ⨾ other_part) at 1 q k t t'
  next_stops h = refused (seq_no s (suc (length s)) blanks 0 at (Lex.leaf_no l h) other_part) h

  -- The blanks in front of a part were read: the part's answer is that of both.
  pub next_made : {p j : ℕ} {r₂ : Ans} {t' : List ℕ} → r ≡ Got p j → Made r₂ s other_part p 1 q k t t'
      → Made r₂ s (blanks ⨾ other_part) at 1 q k t t'
  next_made h m =
      let far = l.far _ _ h in
      handed_up 1 (leaf_goes (upto_begin (blanks ⨾ other_part) q k t (omega arith)) l goes_blanks bare_blanks h)
      goes_other m
      refl refl (omega arith)

-- ---- what the calls ask

module _ {s : List ℕ} {f : First} {q : Seat} (room : Room 3 s f.at q) (pre : Prefix s f) where
  -- The place behind the colon stays within 64 bits.
  pub colon_fits : {y : ℕ} → y ≡ f.next → Fits w64 (y + 1)
  colon_fits e =
      let i = Lex.before_end s f.next (code ":") pre.colon (lit< tt) in
      let short = room.short in
      omega arith

  -- The first part ends not before it began.
  pub prefix_ordered : {x y : ℕ} → x ≡ f.at → y ≡ f.end → x ≤ y
  prefix_ordered e g = let far = pre.read.far in rw (e, g) (omega arith)

  -- The first part ends within the input.
  pub prefix_inside : (u : List ℕ) {y : ℕ} → y ≡ f.end → u ≡ s → y ≤ length u
  prefix_inside u e g = rw (e, g) pre.read.far.1

  -- Room for the second part.
  pub second_room : {q₁ q₂ : Seat} {u : List ℕ} {y : ℕ}
      → q₁ ≡ seat_inside q
      → q₂ ≡ seat_behind 1 q₁
      → u ≡ s
      → y ≡ f.next + 1
      → Room 4 u y q₂
  second_room g g₂ e x =
      let few = room.few in
      let short = room.short in
      let here = room.inside in
      let far = pre.read.far in
      let far₂ = pre.passed.far in
      let i = Lex.before_end s f.next (code ":") pre.colon (lit< tt) in
      rw (g₂, g, e, x) (record {
        short = room.short;
        inside = omega arith;
        few = omega arith;
        held = omega arith;
        shallow = omega (arith, room.shallow);
      })

  module _ {q₂ : Seat} {r : Ans} {i p : ℕ} {t u : List ℕ} (m : Made r s (blanks ⨾ other_part) p 1 q₂ i t u) {z j : ℕ}
      (h : r ≡ Got z j)
      (x : p ≡ f.next + 1) where
    -- The name's own row may be stored.
    pub namespaced_words : {q₁ : Seat} {a y c : ℕ}
        → q₁ ≡ q
        → a ≡ f.at
        → y ≡ z
        → c ≡ j + 1
        → Words q₁ Kind.namespaced a y 0 c
    namespaced_words g g₁ g₂ g₃ =
        let few = room.few in
        let short = room.short in
        let here = room.inside in
        let held = room.held in
        let deep = room.shallow in
        let far = pre.read.far in
        let far₂ = pre.passed.far in
        let far₃ = m.of.far _ _ h in
        rw (g, g₁, g₂, g₃) (omega arith)

pub ruleset namespaced_steps = (results, namespaced_stops, namespaced_made)

pub ruleset next_steps = (results, next_stops, next_made)

pub ruleset namespaced_asked = (
  reader_asked,
  colon_fits,
  prefix_ordered,
  prefix_inside,
  second_room,
  namespaced_words,
)
