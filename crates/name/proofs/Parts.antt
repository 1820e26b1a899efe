-- The parts of names: what their rules answer, by what was read.
use mathlib.Core.Path.{◌≡◌, refl, sym, ap, ◌∙◌}
use mathlib.Core.Bool.{true, false}
use mathlib.Core.List.{List}
use Prim.Native.Nat.{ℕ, suc, ◌+◌, ◌-◌, ◌≤◌}
use lib.ListN.{length}
use Rattle.rules.specs.Forest.{Label, node, Forest, inside, direct}
use Rattle.rules.specs.Rule.{wrap}
use Rattle.rules.specs.Parse.{got, trouble, parse, read_at}
use Rattle.rules.proofs.Forests.{behind_nil}
use Rattle.rules.proofs.Run.{goes, calm, unmarked}
use Rattle.rules.proofs.Mark.{any_mark}
use Rattle.rules.proofs.Again.{wrap_no}
use Rattle.jsx.specs.Kind as Kind
use Rattle.jsx.specs.Byte.{need}
use Rattle.jsx.specs.Name.{has, dashed, one_name, object_name, part, one_part, other_part, object, dotted_part}
use Rattle.jsx.proofs.Again.{other_part_of, other_part_again}
use Rattle.lex.specs.Contract.{out_of, bytes_from}
use Rattle.lex.specs.Answer.{Got}
use Rattle.lex.proofs.Bare.{bare_part, direct_got}
use Rattle.table.specs.Slot.{Seat}
use Rattle.table.specs.Reader.{Made}
use Rattle.table.proofs.Upto.{leaf_made}
use Rattle.name.specs.Contract.{Spelt}

-- A name's part that was read is a node by its label, which goes by its bytes.
module _ {s : List ℕ} {at e : ℕ} (r : read_at s part at ≡ got true (out_of (read_at s part at)) e) (i : at + 1 ≤ e)
    (j : e ≤ length s)
    {k : ℕ} {q : Seat} {t t' : List ℕ} where
  labelled : (label : List ℕ → Label) → Spelt k q (label (bytes_from s at (e - at))) at e t t'
      → Made (Got e 1) s (wrap (λ o. label (direct o)) part) at 1 q k t t'
  labelled label w =
      leaf_made (λ o. label (direct o)) 0 bare_part r
      (ap label (direct_got s (suc (length s)) part 0 at bare_part r) ∙ w.says) j i w.stored

  -- With its row stored, it is made as a whole name.
  pub one_made : Spelt k q (one_name (bytes_from s at (e - at))) at e t t' → Made (Got e 1) s one_part at 1 q k t t'
  unfolding one_part
  one_made w = labelled one_name w

  -- With its row stored, it is made as another part.
  pub other_made : Spelt k q (node Kind.other_part (dashed (bytes_from s at (e - at)))) at e t t'
      → Made (Got e 1) s other_part at 1 q k t t'
  unfolding other_part
  other_made w = labelled (λ v. node Kind.other_part (dashed v)) w

  -- With its row stored, it is made as an object.
  pub object_made : Spelt k q (object_name (bytes_from s at (e - at))) at e t t' → Made (Got e 1) s object at 1 q k t t'
  unfolding object
  object_made w = labelled object_name w

-- ---- a part behind a dot

-- It goes on to its end.
pub goes_dotted : goes dotted_part ≡ true
unfolding goes dotted_part other_part part need
goes_dotted = refl

calm_other : calm other_part ≡ true
unfolding calm other_part part need
calm_other = refl

module _ (s : List ℕ) (a : ℕ) where
  -- Where no part begins, another part is refused the same.
  pub other_no : {n b c d z : ℕ} → read_at s part a ≡ trouble n b c d z → read_at s other_part a ≡ trouble n b c d z
  unfolding other_part
  other_no h = wrap_no s (suc (length s)) part 0 a h _

  -- Where no part begins, a part behind a dot is refused the same.
  pub dotted_no : {n b c d z : ℕ} → read_at s part a ≡ trouble n b c d z → read_at s dotted_part a ≡ trouble n b c d z
  unfolding dotted_part parse
  dotted_no h = rw (unmarked s (suc (length s)) other_part calm_other a 0 a ∙ other_no h)

  module _ {w : Forest} {b : ℕ} (h : read_at s part a ≡ got true w b) where
    -- A part behind a dot that holds a dash is refused by 10.
    pub dotted_dash : has "-" (direct w) ≡ true → read_at s dotted_part a ≡ trouble 10 a b 0 0
    unfolding dotted_part parse inside
    dotted_dash k = rw (any_mark s (suc (length s)) other_part 0 a a (other_part_again s (suc (length s)) 0 a h), k)

    -- A part behind a dot that holds no dash is read as another part is.
    pub dotted_is : has "-" (direct w) ≡ false → read_at s other_part a ≡ read_at s dotted_part a
    unfolding dotted_part parse inside
    dotted_is k =
        other_part_again s (suc (length s)) 0 a h
        ∙ sym (rw (any_mark s (suc (length s)) other_part 0 a a (other_part_again s (suc (length s)) 0 a h), k)
        (ap (λ (x : Forest). got true x b) (behind_nil (other_part_of w))))
