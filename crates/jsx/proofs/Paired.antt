-- A node that its record calls paired has a content inside it, and a closing tag behind that.
use mathlib.Core.Path.{◌≡◌, refl, ap, ◌∙◌}
use mathlib.Core.Bool.{Bool, true, false}
use mathlib.Core.List.{List}
use Prim.Native.Nat.{ℕ}
use lib.Dec.{eqb}
use Rattle.rules.specs.Forest.{Label, node, content, Forest, nil, group, ◌⋈◌, direct}
use Rattle.rules.specs.Rule.{Rule, paired}
use Rattle.rules.specs.Parse.{got, pick, parse}
use Rattle.rules.proofs.Run.{goes, on, got_goes}
use Rattle.rules.proofs.Got.{false_true, wrap_read, PairOut, lone, full, pair_out}
use Rattle.rules.proofs.Flow.{Fitting}
use Rattle.jsx.specs.Kind as Kind
use Rattle.jsx.specs.Byte.{need, expect}
use Rattle.jsx.specs.Blank.{blanks, pass}
use Rattle.jsx.specs.Name.{has, first_is, opens_reference, is_this, dashed, one_name, object_name}
use Rattle.jsx.specs.Expression.{Inner}
use Rattle.jsx.specs.Tag.{open_tag, open_fragment, close_tag}
use Rattle.jsx.specs.Closing.{verdict}
use Rattle.jsx.specs.Element.{children, paired_or_not}

-- An opening tag, a content and a closing tag.
abbrev pub HasContent : Forest → Type 0
HasContent o =
    (tag : Forest) × (d : ℕ) × (c : Forest) × (close : Forest)
    × (o ≡ group (node Kind.opening_tag 0) tag (group (content d) c (group (node Kind.closing_tag 0) close nil)))

-- A fragment, or an element with extra 1.
abbrev pub paired_label : Label → Bool
paired_label (node k x) = pick (eqb k Kind.fragment) true (pick (eqb k Kind.element) (eqb x 1) false)
paired_label (content d) = false

-- A node that is called paired has a content.
abbrev pub well_paired : Label → Forest → Type 0
well_paired l o = paired_label l ≡ true → HasContent o

-- A label that is never paired.
pub unpaired : (l : Forest → Label) (t : Rule) → ((o : Forest) → paired_label (l o) ≡ false) → Fitting well_paired l t
unpaired l t n s F e at a o p h k = false_true (n o) k

-- A kind that is no fragment's and no element's,
pub plain_fits : (k : ℕ) (t : Rule) → paired_label (node k 0) ≡ false → Fitting well_paired (λ o. node k 0) t
plain_fits k t n = unpaired (λ o. node k 0) t (λ o. n)

-- a part of a name,
pub other_fits : (t : Rule) → Fitting well_paired (λ o. node Kind.other_part (dashed (direct o))) t
other_fits t = unpaired (λ o. node Kind.other_part (dashed (direct o))) t (λ o. refl)

unpaired_pick : (a : Bool) (l m : Label)
    → paired_label l ≡ false
    → paired_label m ≡ false
    → paired_label (pick a l m) ≡ false
unpaired_pick true l m x y = x
unpaired_pick false l m x y = y

-- a name of one part,
pub one_fits : (t : Rule) → Fitting well_paired (λ o. one_name (direct o)) t
unfolding one_name
one_fits t =
    unpaired (λ o. one_name (direct o)) t (λ o. unpaired_pick (has "-" (direct o)) _ _ refl
    (unpaired_pick (first_is opens_reference (direct o)) _ _ refl (unpaired_pick (is_this (direct o)) _ _ refl refl)))

-- and the first part of a member.
pub object_fits : (t : Rule) → Fitting well_paired (λ o. object_name (direct o)) t
unfolding object_name
object_fits t = unpaired (λ o. object_name (direct o)) t (λ o. unpaired_pick (is_this (direct o)) _ _ refl refl)

module _ (d : ℕ) (n : Inner) where
  close_node : (s : List ℕ) (F e at : ℕ) {b : Bool} {r : Forest} {p : ℕ}
      → parse s F close_tag e at ≡ got b r p
      → (z : Forest) × (r ≡ group (node Kind.closing_tag 0) z nil)
  unfolding close_tag
  close_node s F e at h = let w = wrap_read s F (λ o. node Kind.closing_tag 0) _ e at h in (w.0, w.2)

  open_node : (s : List ℕ) (F e at : ℕ) {b : Bool} {o : Forest} {p : ℕ}
      → parse s F (open_tag n) e at ≡ got b o p
      → (t : Forest) × (o ≡ group (node Kind.opening_tag 0) t nil)
  unfolding open_tag
  open_node s F e at h = let w = wrap_read s F (λ o. node Kind.opening_tag 0) _ e at h in (w.0, w.2)

  fragment_node : (s : List ℕ) (F e at : ℕ) {b : Bool} {o : Forest} {p : ℕ}
      → parse s F open_fragment e at ≡ got b o p
      → (t : Forest) × (o ≡ group (node Kind.opening_tag 0) t nil)
  unfolding open_fragment
  fragment_node s F e at h = let w = wrap_read s F (λ o. node Kind.opening_tag 0) _ e at h in (w.0, w.2)

  three : (o o₁ c r t z : Forest)
      → o ≡ o₁ ⋈ group (content d) c r
      → o₁ ≡ group (node Kind.opening_tag 0) t nil
      → r ≡ group (node Kind.closing_tag 0) z nil
      → HasContent o
  unfolding ◌⋈◌
  three o o₁ c r t z w x y = (t, d, c, z, w ∙ (λ i. x i ⋈ group (content d) c (y i)))

  alone : (o t : Forest) → o ≡ group (node Kind.opening_tag 0) t nil → paired_or_not o ≡ 0
  unfolding paired_or_not
  alone o t h = ap paired_or_not h

  -- An element is called paired only if it has a content;
  pub element_fits : Fitting well_paired (λ o. node Kind.element (paired_or_not o))
      (paired (open_tag n) d (children n) close_tag verdict)
  element_fits s F e at a o p h k = by (pair_out s F d (open_tag n) (children n) close_tag verdict e at h)
    where
      by : PairOut s F d (open_tag n) (children n) close_tag verdict e at a o p → HasContent o
      by (lone x ae) = let t = open_node s F e at x in false_true (ap (λ (z : ℕ). eqb z 1) (alone o t.0 t.1)) k
      by (full o₁ p₁ b i p₂ b₂ r x y z nm w ae) =
          let t = open_node s F e at x in
          let c = close_node s F e p₂ z in
          three o o₁ i r t.0 c.0 w t.1 c.1

  fragment_goes : goes open_fragment ≡ true
  unfolding goes open_fragment pass blanks expect need
  fragment_goes = refl

  -- and a fragment always has one.
  pub fragment_fits : Fitting well_paired (λ o. node Kind.fragment 0)
      (paired open_fragment d (children n) close_tag verdict)
  fragment_fits s F e at a o p h k = by (pair_out s F d open_fragment (children n) close_tag verdict e at h)
    where
      by : PairOut s F d open_fragment (children n) close_tag verdict e at a o p → HasContent o
      by (lone x ae) =
          false_true refl (got_goes (parse s F open_fragment e at) (on s F open_fragment fragment_goes e at) x)
      by (full o₁ p₁ b i p₂ b₂ r x y z nm w ae) =
          let t = fragment_node s F e at x in
          let c = close_node s F e p₂ z in
          three o o₁ i r t.0 c.0 w t.1 c.1
