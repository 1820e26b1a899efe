-- A quoted value and its row: what each need of its reader follows from.
use mathlib.Core.Path.{◌≡◌, refl}
use mathlib.Core.List.{List}
use Prim.Native.Nat.{ℕ, suc, ◌≤◌}
use native.Mathlib.Omega.{arith}
use lib.ListN.{length}
use Rattle.lex.proofs.Results.{results}
use Rattle.rules.specs.Forest.{node}
use Rattle.rules.proofs.Got.{wrap_read}
use Rattle.jsx.specs.Kind as Kind
use Rattle.jsx.specs.Text.{quoted}
use Rattle.lex.specs.Contract.{nothing, Leaf}
use Rattle.lex.specs.Answer.{Ans, Got, No}
use Rattle.lex.proofs.Laws as Lex
use Rattle.table.specs.Slot.{Seat}
use Rattle.table.specs.Contract.{Words, Stored}
use Rattle.table.specs.Reader.{Room, Made}
use Rattle.table.proofs.Made.{refused}
use Rattle.table.proofs.Upto.{leaf_made}
use Rattle.table.proofs.Asked.{reader_asked}
use Rattle.tag.proofs.Rules.{in_quotes, goes_quoted, bare_quoted}

module _ {s : List ℕ} {at : ℕ} {r : Ans} (l : Leaf nothing r s quoted at 2) {q : Seat} {t : List ℕ} where
  -- It never closes.
  pub quoted_stops : {t' : List ℕ} {n a b c d : ℕ} → r ≡ No n a b c d → Made r s quoted at 2 q 0 t t'
  quoted_stops h = refused (Lex.leaf_no l h) h

  -- It was read, and its row was stored.
  pub quoted_made : {e j y : ℕ} {t' : List ℕ} → r ≡ Got e j → Stored 0 q Kind.quoted at e 0 0 t t' → y ≡ e
      → Made (Got y 1) s quoted at 2 q 0 t t'
  unfolding quoted
  quoted_made h w f =
      let far = l.far _ _ h in
      let x = wrap_read s (suc (length s)) (λ o. node Kind.quoted 0) in_quotes 0 at (Lex.leaf_got goes_quoted l h) in
      rw f (leaf_made (λ o. node Kind.quoted 0) 1 bare_quoted x.1 refl far.1 (omega arith) w)

-- Its row may be stored.
pub quoted_words : {c : ℕ} {s : List ℕ} {at : ℕ} {q : Seat} {r : Ans} {e j : ℕ}
    → Room c s at q
    → c ≤ 100
    → Leaf nothing r s quoted at 2
    → r ≡ Got e j
    → {q₁ : Seat} {a z : ℕ} → q₁ ≡ q
    → a ≡ at
    → z ≡ e
    → Words q₁ Kind.quoted a z 0 0
quoted_words room i l h f g k =
    let few = room.few in
    let short = room.short in
    let here = room.inside in
    let held = room.held in
    let deep = room.shallow in
    let far = l.far _ _ h in
    rw (f, g, k) (omega arith)

pub ruleset quoted_steps = (results, quoted_stops, quoted_made)

pub ruleset quoted_asked = (reader_asked, quoted_words)
