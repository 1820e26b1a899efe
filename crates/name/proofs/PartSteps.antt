-- A part with its row, and a part behind a dot: what each need of their readers follows from.
use mathlib.Core.Path.{◌≡◌, refl, sym, ap, ◌∙◌}
use mathlib.Core.Bool.{Bool, true, false}
use mathlib.Core.List.{List}
use Prim.Native.Nat.{ℕ, suc, ◌-◌}
use native.Mathlib.Omega.{arith}
use lib.ListN.{length}
use Rattle.lex.proofs.Results.{results}
use Rattle.rules.specs.Forest.{node, direct}
use Rattle.rules.specs.Parse.{read_at}
use Rattle.jsx.specs.Kind as Kind
use Rattle.jsx.specs.Name.{dashed, part, other_part, dotted_part}
use Rattle.lex.specs.Contract.{nothing, out_of, bytes_from, Leaf}
use Rattle.lex.specs.Answer.{Ans, Got, No, flag}
use Rattle.lex.proofs.Laws as Lex
use Rattle.lex.proofs.Bare.{goes_part, bare_part, direct_got}
use Rattle.table.specs.Slot.{Seat}
use Rattle.table.specs.Reader.{Made}
use Rattle.table.proofs.Made.{refused, made_as}
use Rattle.name.specs.Contract.{Spelt}
use Rattle.name.proofs.Labels.{dash_yes, dash_no}
use Rattle.name.proofs.Parts.{other_made, other_no, dotted_no, dotted_dash, dotted_is}

-- A part's bytes are the input's.
bytes : {r : Ans} {s : List ℕ} {at e j : ℕ} → Leaf nothing r s part at 1 → r ≡ Got e j
    → dashed (bytes_from s at (e - at)) ≡ dashed (direct (out_of (read_at s part at)))
bytes {s = s} {at} l h =
    ap dashed (sym (direct_got s (suc (length s)) part 0 at bare_part (Lex.leaf_got goes_part l h)))

module _ {r : Ans} {s : List ℕ} {at : ℕ} (l : Leaf nothing r s part at 1) {k : ℕ} {q : Seat} {t : List ℕ} where
  -- No part begins here.
  pub part_stops : {t' : List ℕ} {n a b c d : ℕ} → r ≡ No n a b c d → Made r s other_part at 1 q k t t'
  part_stops h = refused (other_no s at (Lex.leaf_no l h)) h

  -- No part begins behind the dot.
  pub dotted_stops : {t' : List ℕ} {n a b c d : ℕ} → r ≡ No n a b c d → Made r s dotted_part at 1 q k t t'
  dotted_stops h = refused (dotted_no s at (Lex.leaf_no l h)) h

  module _ {e j : ℕ} (h : r ≡ Got e j) where
    -- It was read, and its row was stored.
    pub part_made : {y : ℕ} {t' : List ℕ}
        → Spelt k q (node Kind.other_part (dashed (bytes_from s at (e - at)))) at e t t'
        → y ≡ e
        → Made (Got y 1) s other_part at 1 q k t t'
    part_made w f = let far = l.far _ _ h in rw f (other_made (Lex.leaf_got goes_part l h) far.0 far.1 w)

    module _ {d : Bool} (g : flag d ≡ dashed (bytes_from s at (e - at))) where
      -- A part behind a dot, with a dash in it: refusal 10, at that part.
      pub dotted_dashed : {t' : List ℕ} {y : ℕ} → d ≡ true → y ≡ e → Made (No 10 at y 0 0) s dotted_part at 1 q k t t'
      dotted_dashed i f =
          rw f (refused (dotted_dash s at (Lex.leaf_got goes_part l h) (dash_yes _ (g ∙ bytes l h) i)) refl)

      -- A part behind a dot, with no dash in it, was read, and its row was stored.
      pub dotted_made : {y : ℕ} {t' : List ℕ}
          → d ≡ false
          → Spelt k q (node Kind.other_part (dashed (bytes_from s at (e - at)))) at e t t'
          → y ≡ e
          → Made (Got y 1) s dotted_part at 1 q k t t'
      dotted_made i w f =
          made_as (part_made w f) dotted_part 1
          (dotted_is s at (Lex.leaf_got goes_part l h) (dash_no _ (g ∙ bytes l h) i)) (omega arith)

pub ruleset part_steps = (results, part_stops, part_made, dotted_stops, dotted_dashed, dotted_made)
