-- A text, and empty braces, with their rows: what each need of their readers follows from.
use mathlib.Core.Path.{◌≡◌, refl, sym, ap, ◌∙◌}
use mathlib.Core.Bool.{true}
use mathlib.Core.List.{List}
use Prim.Native.Char.{code}
use Prim.Native.Nat.{ℕ, suc, ◌+◌, ◌*◌, ◌≤◌, ◌<◌, ◌^◌}
use native.Mathlib.Omega.{arith}
use lib.Dec.{lit<}
use lib.ListN.{length}
use lib.Seq.{sets}
use Rattle.lex.proofs.Results.{results}
use borrow.Author.Tests.{eq-eqb}
use Rattle.rules.specs.Forest.{node, Forest, nil, byte, group, ◌⋈◌, width}
use Rattle.rules.specs.Rule.{Rule, step, when, many, stop, node_of, ◌⨾◌}
use Rattle.rules.specs.Parse.{got, behind, byte_at, read_at}
use Rattle.rules.specs.Record.{row_words, count, records}
use Rattle.rules.proofs.Run.{goes, behind_behind, wide_got}
use Rattle.rules.proofs.Got.{behind_got, wrap_read}
use Rattle.rules.proofs.Again.{again_own}
use Rattle.jsx.specs.Kind as Kind
use Rattle.jsx.specs.Byte.{is, need, expect}
use Rattle.jsx.specs.Blank.{blanks, pass}
use Rattle.jsx.specs.Text.{in_text, text}
use Rattle.jsx.specs.Braces.{empty_braces}
use Rattle.lex.specs.Contract.{nothing, Past}
use Rattle.lex.specs.Answer.{Got}
use Rattle.lex.proofs.Laws as Lex
use Rattle.lex.proofs.Bare.{bare, bare_blanks, count_flat, flat_got}
use Rattle.blank.proofs.Laws.{pass_is}
use Rattle.table.specs.Slot.{Seat, seat_inside, rows_from}
use Rattle.table.specs.Contract.{Stored}
use Rattle.table.specs.Reader.{Room, Made}
use Rattle.table.proofs.Laws.{leaf_row}
use Rattle.table.proofs.Asked.{inside_fits}
use Rattle.table.proofs.Upto.{Upto, upto_begin, upto_count, upto_more, same_seat, last_leaf, leaf_made, node_made}

-- ---- a text

-- What is inside it.
abbrev inside : Rule
inside = step ⨾ many (when in_text step stop)

bare_inside : bare inside ≡ true
unfolding bare
bare_inside = refl

-- It was read, and its row was stored.
pub text_made : {s : List ℕ} {at e : ℕ} → Past e s text at 1
    → {q : Seat} {t t' : List ℕ} {y : ℕ} → Stored 0 q Kind.text at e 0 0 t t'
    → y ≡ e
    → Made (Got y 1) s text at 1 q 0 t t'
unfolding text
text_made {s} {at} v w f =
    let far = v.far in
    let x = wrap_read s (suc (length s)) (λ o. node Kind.text 0) inside 0 at v.is in
    rw f (leaf_made (λ o. node Kind.text 0) 0 bare_inside x.1 refl far.1 (omega arith) w)

pub ruleset text_steps = (results, text_made)

-- ---- empty braces

-- What is inside them.
abbrev in_braces : Rule
in_braces = step ⨾ node_of Kind.empty_expression blanks ⨾ expect "}"

module _ {s : List ℕ} {at q : ℕ} (v : Past q s pass at 1) where
  -- The blanks between them,
  within : (o : Forest) × (read_at s blanks (at + 1) ≡ got true o q)
  within =
      let far = v.far in
      behind_got (byte (byte_at s at) nil) (read_at s blanks (at + 1)) (sym (pass_is s at (omega arith)) ∙ v.is)

  -- and all before the `}`.
  before : Forest
  before = byte (byte_at s at) (group (node Kind.empty_expression 0) within.0 nil)

  up_to_shut : read_at s in_braces at ≡ behind before (read_at s (expect "}") q)
  unfolding before ◌⋈◌
  up_to_shut =
      let F = suc (length s) in
      let far = v.far in
      Lex.seq_is s F 0 at step (node_of Kind.empty_expression blanks ⨾ expect "}") (Lex.step_is s F 0 at (omega arith))
      ∙ ap (behind (byte (byte_at s at) nil))
      (again_own s F blanks 0 (at + 1) within.1 (λ o. node Kind.empty_expression 0) (expect "}"))
      ∙ behind_behind (byte (byte_at s at) nil) (group (node Kind.empty_expression 0) within.0 nil)
      (read_at s (expect "}") q)

  wide : q ≡ at + 1 + width within.0
  wide = wide_got s (suc (length s)) blanks 0 (at + 1) within.1

  none : count within.0 ≡ 0
  none = count_flat within.0 (flat_got s (suc (length s)) blanks 0 (at + 1) bare_blanks within.1)

  -- The row of what is between them was stored.
  empty_stored : (j : Seat) {t t₁ : List ℕ}
      → at ≤ length s
      → Stored row_words (seat_inside j) Kind.empty_expression (at + 1) q 0 0 t t₁
      → Upto s in_braces at (seat_inside j) row_words t (expect "}") q 1 t₁
  unfolding before width count records
  empty_stored j {t} i w =
      let far = v.far in
      let wd = wide in
      let no = none in
      let k : row_words ≡ row_words + row_words * 0 = omega arith in
      upto_count
      (upto_more (upto_begin in_braces (seat_inside j) row_words t i) {h = expect "}"} before {j = 1}
      up_to_shut (omega arith) far.1 (omega arith) (omega arith)
      (w.is
      ∙ ap (sets t row_words) (leaf_row within.0 (seat_inside j) (at + 1) Kind.empty_expression q 0 wide none)
      ∙ (λ y. sets t (k y) (rows_from (same_seat (seat_inside j) y) at before))))
      (omega arith)

-- The `}`: it is read, goes on, and is bytes alone.
shut_read : (s : List ℕ) (q : ℕ) → byte_at s q ≡ code "}" → q < length s
    → read_at s (expect "}") q ≡ got true (byte (byte_at s q) nil) (q + 1)
unfolding expect
shut_read s q x i =
    let F = suc (length s) in
    Lex.when_yes s F 0 q (is "}") step need (eq-eqb (byte_at s q) (code "}") x) ∙ Lex.step_is s F 0 q i

goes_shut : goes (expect "}") ≡ true
unfolding goes expect need
goes_shut = refl

bare_shut : bare (expect "}") ≡ true
unfolding bare expect need
bare_shut = refl

-- They were read, and both rows were stored.
pub empty_made : {s : List ℕ} {at q : ℕ} {j : Seat}
    → Room 3 s at j
    → Past q s pass at 1
    → byte_at s q ≡ code "}"
    → {j₁ : Seat} {t t₁ t₂ : List ℕ} {y : ℕ} → j₁ ≡ seat_inside j
    → Stored row_words j₁ Kind.empty_expression (at + 1) q 0 0 t t₁
    → Stored 0 j Kind.container at (q + 1) 0 1 t₁ t₂
    → y ≡ q + 1
    → Made (Got y 2) s empty_braces at 2 j 0 t t₂
unfolding empty_braces
empty_made {s} {at} {q} {j} room v x g w₁ w₂ e =
    let far = v.far in
    let i = Lex.before_end s q (code "}") x (lit< tt) in
    let shut = Lex.leaf_done nothing s (expect "}") q 1 (q + 1) 0 (shut_read s q x i) refl (omega arith) in
    rw e
    (node_made Kind.container 2
    (last_leaf (empty_stored v j room.inside (rw g at w₁)) shut goes_shut bare_shut refl)
    (omega arith) w₂ (omega arith))

-- The record that the inner one stands in is within 32 bits.
pub inside_held : {s : List ℕ} {at : ℕ} {j : Seat}
    → Room 3 s at j
    → {j₁ : Seat} {n : ℕ} → j₁ ≡ seat_inside j
    → n ≡ j₁.parent
    → n < 2 ^ 32
inside_held room g e =
    let few = room.few in
    let short = room.short in
    let here = room.inside in
    rw (e, g) (omega arith)

-- So is its depth.
pub inside_shallow : {s : List ℕ} {at : ℕ} {j : Seat}
    → Room 3 s at j
    → {j₁ : Seat} {n : ℕ} → j₁ ≡ seat_inside j
    → n ≡ j₁.depth
    → n < 2 ^ 32
inside_shallow room g e =
    let few = room.few in
    let short = room.short in
    let here = room.inside in
    let deep = room.shallow in
    rw (e, g) (omega arith)

pub ruleset empty_steps = (results, empty_made)

pub ruleset empty_asked = (results, inside_fits, inside_held, inside_shallow)
