-- The labels and the verdict of the language see nothing of what stands in a content.
use mathlib.Core.Path.{◌≡◌, refl, sym, ap, subst, ◌∙◌}
use mathlib.Core.Bool.{Bool, true, false}
use mathlib.Core.List.{List, [], ◌∷◌}
use Prim.Native.Nat.{ℕ}
use native.Mathlib.Omega.{arith}
use lib.Dec.{eqb}
use Rattle.rules.specs.Forest.{Label, node, content, Forest, width, direct, inside}
use Rattle.rules.specs.Rule.{Verdict, fine, differ}
use Rattle.rules.specs.Parse.{pick}
use Rattle.rules.proofs.Spots.{Spot, arrived, under, past, skip, fill, direct_fill, Inside, outer, inner, inside_fill}
use Rattle.rules.proofs.Flow.{IsNode, Numbered, Steady, Fair}
use Rattle.jsx.specs.Kind as Kind
use Rattle.jsx.specs.Name.{has, first_is, is_this, opens_reference, dashed, one_name, object_name}
use Rattle.jsx.specs.Closing.{TagName, no_name, named, further_on, name_in, nodes_of, several_parts, parts_of, all_same}
use Rattle.jsx.specs.Closing.{same_name, compared, verdict}
use Rattle.jsx.specs.Element.{paired_or_not}

-- ---- labels

-- A node's label is no content's.
node_content : {X : Type 0} {k x d : ℕ} → node k x ≡ content d → X
node_content e = let z : ◌≡◌ {A = ℕ} 0 1 = cc in absurd (omega arith)

node_if : (b : Bool) (x y : Label) → IsNode x → IsNode y → IsNode (pick b x y)
node_if true x y h k = h
node_if false x y h k = k

-- A kind that is given,
pub steady_node : (k : ℕ) → Steady (λ o. node k 0)
steady_node k = record { plain = λ o. tt; stays = λ ω c₁. refl }

-- A label made of the bytes in no group.
steady_direct : (l : List ℕ → Label) → ((w : List ℕ) → IsNode (l w)) → Steady (λ o. l (direct o))
steady_direct l h = record { plain = λ o. h (direct o); stays = λ ω c₁. ap l (direct_fill ω c₁) }

one_name_node : (w : List ℕ) → IsNode (one_name w)
unfolding one_name
one_name_node w = node_if (has "-" w) _ _ tt
    (node_if (first_is opens_reference w) _ _ tt (node_if (is_this w) _ _ tt tt))

object_name_node : (w : List ℕ) → IsNode (object_name w)
unfolding object_name
object_name_node w = node_if (is_this w) _ _ tt tt

-- a name of one part,
pub steady_one_name : Steady (λ o. one_name (direct o))
steady_one_name = steady_direct one_name one_name_node

-- a part of another name,
pub steady_other_part : Steady (λ o. node Kind.other_part (dashed (direct o)))
steady_other_part = steady_direct (λ w. node Kind.other_part (dashed w)) (λ w. tt)

-- the first part of a member,
pub steady_object_name : Steady (λ o. object_name (direct o))
steady_object_name = steady_direct object_name object_name_node

-- A content stays a content, whatever stands in it.
paired_fill : {d : ℕ} {c₀ u : Forest} (ω : Spot d c₀ u) (c₁ : Forest) → paired_or_not (fill ω c₁) ≡ paired_or_not u
unfolding fill paired_or_not
paired_fill (arrived {l = node k x} p q) c₁ = refl
paired_fill (arrived {l = content d'} p q) c₁ = refl
paired_fill (under {l = node k x} ω) c₁ = refl
paired_fill (under {l = content d'} ω) c₁ = refl
paired_fill (past {l = node k x} ω) c₁ = paired_fill ω c₁
paired_fill (past {l = content d'} ω) c₁ = refl
paired_fill (skip ω) c₁ = paired_fill ω c₁

-- and an element, paired or not.
pub steady_element : Steady (λ o. node Kind.element (paired_or_not o))
steady_element = record { plain = λ o. tt; stays = λ ω c₁. ap (node Kind.element) (paired_fill ω c₁) }

-- ---- the verdict

-- The bytes of each node stay.
nodes_fill : {d : ℕ} {c₀ u : Forest} (ω : Spot d c₀ u) (c₁ : Forest) → nodes_of (fill ω c₁) ≡ nodes_of u
unfolding fill nodes_of
nodes_fill (arrived {l = node k x} p q) c₁ = node_content p
nodes_fill (arrived {l = content d'} p q) c₁ = refl
nodes_fill (under {l = node k x} {v = v} ω) c₁ = ap (λ (w : List ℕ). w ∷ nodes_of v) (direct_fill ω c₁)
nodes_fill (under {l = content d'} ω) c₁ = refl
nodes_fill (past {l = node k x} {c = c} ω) c₁ = ap (λ (w : List (List ℕ)). direct c ∷ w) (nodes_fill ω c₁)
nodes_fill (past {l = content d'} ω) c₁ = nodes_fill ω c₁
nodes_fill (skip ω) c₁ = nodes_fill ω c₁

parts_fill : (k : ℕ) {d : ℕ} {c₀ u : Forest} (ω : Spot d c₀ u) (c₁ : Forest) → parts_of k (fill ω c₁) ≡ parts_of k u
unfolding parts_of
parts_fill k ω c₁ = λ i. pick (several_parts k) (nodes_fill ω c₁ i) (direct_fill ω c₁ i ∷ [])

-- No name twice, or two names of one kind with the same parts.
data Alike : TagName → TagName → Type 0 where
  no_name_lem : Alike no_name no_name
  alike : {p p' k : ℕ} {c c' : Forest} → parts_of k c ≡ parts_of k c' → Alike (named p k c) (named p' k c')

alike_same : (x : TagName) → Alike x x
alike_same no_name = no_name_lem
alike_same (named p k c) = alike refl

alike_further : {x y : TagName} (n n' : ℕ) → Alike x y → Alike (further_on n x) (further_on n' y)
unfolding further_on
alike_further n n' no_name_lem = no_name_lem
alike_further n n' (alike e) = alike e

-- A tag's name is alike, whatever stands in a content inside the tag.
name_fill : {d : ℕ} {c₀ u : Forest} (ω : Spot d c₀ u) (c₁ : Forest) → Alike (name_in u) (name_in (fill ω c₁))
unfolding fill name_in
name_fill (arrived {l = node k x} p q) c₁ = node_content p
name_fill (arrived {l = content d'} {c} {v} p q) c₁ = alike_further (width c) (width c₁) (alike_same (name_in v))
name_fill (under {l = node k x} ω) c₁ = alike (sym (parts_fill k ω c₁))
name_fill (under {l = content d'} {c} {v} ω) c₁ = alike_further (width c) (width (fill ω c₁)) (alike_same (name_in v))
name_fill (past {l = node k x} ω) c₁ = alike refl
name_fill (past {l = content d'} {c = c} ω) c₁ = alike_further (width c) (width c) (name_fill ω c₁)
name_fill (skip ω) c₁ = alike_further 1 1 (name_fill ω c₁)

-- So is the name in the first node.
tag_name_fill : {d : ℕ} {c₀ u : Forest} (ω : Spot d c₀ u) (c₁ : Forest)
    → Alike (name_in (inside u)) (name_in (inside (fill ω c₁)))
tag_name_fill {u = u} ω c₁ = go (inside_fill ω)
  where
    go : Inside ω → Alike (name_in (inside u)) (name_in (inside (fill ω c₁)))
    go (outer f) =
        subst (λ (v : Forest). Alike (name_in (inside u)) (name_in v)) (sym (f c₁)) (alike_same (name_in (inside u)))
    go (inner ω' f) = subst (λ (v : Forest). Alike (name_in (inside u)) (name_in v)) (sym (f c₁)) (name_fill ω' c₁)

differ_fine : {X : Type 0} {n a b c d : ℕ} → differ n a b c d ≡ fine → X
differ_fine e = let z : ◌≡◌ {A = ℕ} 0 1 = cc in absurd (omega arith)

-- What is fine has passed the test, where a refusal is the other case.
fine_if : (b : Bool) (n x y z w : ℕ) → pick b fine (differ n x y z w) ≡ fine → b ≡ true
fine_if true n x y z w e = refl
fine_if false n x y z w e = differ_fine e

same_name_alike : (k l : ℕ) (c c' d : Forest) → parts_of k c ≡ parts_of k c' → same_name k c l d ≡ same_name k c' l d
unfolding same_name
same_name_alike k l c c' d e = ap (λ (ws : List (List ℕ)). pick (eqb k l) (all_same ws (parts_of l d)) false) e

-- Of two tags, the one may be changed for one whose name is alike.
compared_alike : {x y : TagName} (z : TagName) (m m' n : ℕ)
    → Alike x y
    → compared m n x z ≡ fine
    → compared m' n y z ≡ fine
unfolding compared
compared_alike no_name m m' n no_name_lem h = refl
compared_alike (named q l d) m m' n no_name_lem h = differ_fine h
compared_alike no_name m m' n (alike e) h = differ_fine h
compared_alike (named q l d) m m' n (alike {k = k} {c} {c'} e) h =
    let t : same_name k c' l d ≡ true = sym (same_name_alike k l c c' d e) ∙ fine_if (same_name k c l d) _ _ _ _ _ h in
    rw t

numbered_if : (b : Bool) (v w : Verdict) → Numbered v → Numbered w → Numbered (pick b v w)
numbered_if true v w h k = h
numbered_if false v w h k = k

compared_numbered : (m n : ℕ) (x y : TagName) → Numbered (compared m n x y)
unfolding compared
compared_numbered m n no_name no_name = tt
compared_numbered m n no_name (named q l d) = refl
compared_numbered m n (named p k c) no_name = refl
compared_numbered m n (named p k c) (named q l d) = numbered_if (same_name k c l d) _ _ tt refl

-- So the verdict on two tags is fair.
pub fair_verdict : Fair verdict
unfolding verdict
fair_verdict = record {
  numbered = λ o r. compared_numbered (width o) (width r) (name_in (inside o)) (name_in (inside r));
  stays = λ {d} {c₀} {o} ω c₁ r h. compared_alike (name_in (inside r)) (width o) (width (fill ω c₁)) (width r)
      (tag_name_fill ω c₁) h;
}
