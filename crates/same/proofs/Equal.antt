-- What the equality of two names comes to, by their first parts and separators.
use mathlib.Core.Path.{◌≡◌, refl, sym, ap, ◌∙◌}
use mathlib.Core.Bool.{Bool, true, false}
use mathlib.Core.List.{List, [], ◌∷◌}
use Prim.Native.Char.{code}
use Prim.Native.Nat.{ℕ, ◌+◌, ◌≤◌}
use native.Mathlib.Omega.{arith}
use lib.Dec.{eqb}
use borrow.Author.Tests.{eq-eqb, ne_eqb, eqb-true}
use Rattle.rules.specs.Forest.{Forest}
use Rattle.rules.specs.Rule.{Rule}
use Rattle.rules.specs.Parse.{pick, byte_at}
use Rattle.rules.proofs.Run.{never, both}
use Rattle.jsx.specs.Kind as Kind
use Rattle.jsx.specs.Name.{same}
use Rattle.jsx.specs.Closing.{all_same}
use Rattle.same.specs.Contract.{same_names, behind_colon, behind_dot, parts_from, same_parts}
use Rattle.same.proofs.Forms.{name_at, bytes_to, one_kind, one_low, Shape, shapes}
use Rattle.same.proofs.Forms.{Separator, colon, dot, Several, Form, one, several}

-- ---- lists

-- Lists that are the same are equal.
pub same_is : (u v : List ℕ) → same u v ≡ true → u ≡ v
unfolding same
same_is [] [] h = refl
same_is [] (b ∷ v) h = never h
same_is (a ∷ u) [] h = never h
same_is (a ∷ u) (b ∷ v) h = let g = both (eqb a b) (same u v) h in λ i. eqb-true a b g.0 i ∷ same_is u v g.1 i

pick_none : (x y : Bool) → y ≡ false → pick x y false ≡ false
pick_none true y h = h
pick_none false y h = refl

-- Lists of parts, by their first parts.
module _ (u v : List ℕ) (us vs : List (List ℕ)) where
  -- They differ.
  pub all_differ : same u v ≡ false → all_same (u ∷ us) (v ∷ vs) ≡ false
  unfolding all_same
  all_differ h = rw h

  -- They are the same, and the others decide.
  pub all_same_lem : same u v ≡ true → all_same (u ∷ us) (v ∷ vs) ≡ all_same us vs
  unfolding all_same
  all_same_lem h = rw h

-- There is no other.
pub all_one : (u v : List ℕ) → all_same (u ∷ []) (v ∷ []) ≡ same u v
unfolding all_same
all_one u v = go (same u v)
  where
    go : (x : Bool) → pick x true false ≡ x
    go true = refl
    go false = refl

-- ---- names

-- Whether the names at two places are equal.
abbrev pub equal : List ℕ → ℕ → ℕ → Bool
equal s a c = same_names (name_at s a) (name_at s c)

-- Names of different kinds.
kinds_differ : {o v : Forest} (k l : ℕ) {ps qs : List (List ℕ)} → Shape o k ps → Shape v l qs → (k ≡ l → ⊥)
    → same_names o v ≡ false
kinds_differ k l {ps} {qs} h g n = shapes h g ∙ ap (λ (x : Bool). pick x (all_same ps qs) false) (ne_eqb k l n)

-- A name of one part is of no kind of names of several.
low : (w : List ℕ) (k : ℕ) → 6 ≤ k → one_kind w ≡ k → ⊥
low w k h e = let l = (one_low w).2 in omega arith

-- A separator is of a kind of names of several parts.
high : {k c : ℕ} {t : Rule} → Separator k c t → 6 ≤ k
high colon = omega arith
high dot = omega arith

-- Kinds of names have different separators.
kind_apart : {k c l d : ℕ} {t u : Rule} → Separator k c t → Separator l d u → (c ≡ d → ⊥) → k ≡ l → ⊥
kind_apart colon colon n e = n refl
kind_apart colon dot n e = omega arith
kind_apart dot colon n e = omega arith
kind_apart dot dot n e = n refl

-- The first part of a name of either form.
record First (s : List ℕ) (a e : ℕ) : Type 0 where
  kind : ℕ
  others : List (List ℕ)
  shape : Shape (name_at s a) kind (bytes_to s a e ∷ others)

first_of : {s : List ℕ} {a b e p : ℕ} → Form s a b e p → First s a e
first_of (one l g) = record { kind = _; others = _; shape = g }
first_of (several i x m) = record { kind = _; others = _; shape = m.shape }

module _ {s : List ℕ} {a b e p c d f q : ℕ} where
  -- The first parts differ.
  pub differ : Form s a b e p → Form s c d f q → same (bytes_to s a e) (bytes_to s c f) ≡ false → equal s a c ≡ false
  differ m n h =
      let x = first_of m in
      let y = first_of n in
      shapes x.shape y.shape
      ∙ pick_none (eqb x.kind y.kind) _ (all_differ (bytes_to s a e) (bytes_to s c f) x.others y.others h)

  -- The first name is one part.
  pub one_part_lem : Form s a b e p → Form s c d f q → same (bytes_to s a e) (bytes_to s c f) ≡ true → e ≡ b
      → equal s a c ≡ eqb f d
  one_part_lem (one l g) (one k h) w z =
      let v = same_is (bytes_to s a e) (bytes_to s c f) w in
      let t = eq-eqb (one_kind (bytes_to s a e)) (one_kind (bytes_to s c f)) (ap one_kind v) in
      shapes g h
      ∙ (λ i. pick (t i) ((all_one (bytes_to s a e) (bytes_to s c f) ∙ w) i) false)
      ∙ sym (eq-eqb f d k)
  one_part_lem (one l g) (several {k} i x m) w z =
      let longer = m.longer in
      kinds_differ _ k g m.shape (low (bytes_to s a e) k (high i)) ∙ sym (ne_eqb f d (λ t. omega arith))
  one_part_lem (several i x m) n w z = let longer = m.longer in absurd (omega arith)

  -- Only the second one is.
  pub other_one : Form s a b e p → Form s c d f q → (e ≡ b → ⊥) → f ≡ d → equal s a c ≡ false
  other_one (one l g) n w z = absurd (w l)
  other_one (several {k} i x m) (one l h) w z =
      kinds_differ k _ m.shape h (λ y. low (bytes_to s c f) k (high i) (sym y))
  other_one (several i x m) (several j y n) w z = let longer = n.longer in absurd (omega arith)

  -- Neither is, and the separators differ.
  pub separators : Form s a b e p → Form s c d f q → (e ≡ b → ⊥) → (f ≡ d → ⊥) → (byte_at s p ≡ byte_at s q → ⊥)
      → equal s a c ≡ false
  separators (one l g) n w z y = absurd (w l)
  separators (several i x m) (one k h) w z y = absurd (z k)
  separators (several {k} i x m) (several {k = l} j x' n) w z y =
      kinds_differ k l m.shape n.shape (kind_apart i j (λ e. y (x ∙ e ∙ sym x')))

-- A name of several parts with a colon at p.
pub by_colon : {s : List ℕ} {a b e p : ℕ} → Form s a b e p → (e ≡ b → ⊥) → byte_at s p ≡ code ":"
    → Several s a b e p Kind.namespaced behind_colon
by_colon (one l g) w z = absurd (w l)
by_colon (several colon x m) w z = m
by_colon (several dot x m) w z = absurd (omega arith)

-- One with another separator.
pub by_dot : {s : List ℕ} {a b e p : ℕ} → Form s a b e p → (e ≡ b → ⊥) → (byte_at s p ≡ code ":" → ⊥)
    → Several s a b e p Kind.member behind_dot
by_dot (one l g) w z = absurd (w l)
by_dot (several colon x m) w z = absurd (z x)
by_dot (several dot x m) w z = m

-- Names with the same separator and the same first part: what is behind decides.
pub rests : {s : List ℕ} {a b e p c d f q k : ℕ} {t : Rule} → Several s a b e p k t → Several s c d f q k t
    → same (bytes_to s a e) (bytes_to s c f) ≡ true
    → equal s a c ≡ same_parts s t (p + 1) (q + 1)
rests {s} {a} {b} {e} {p} {c} {d} {f} {q} {k} {t} g h w =
    shapes g.shape h.shape
    ∙ ap (λ (x : Bool). pick x (all_same (bytes_to s a e ∷ us) (bytes_to s c f ∷ vs)) false) (eq-eqb k k refl)
    ∙ all_same_lem (bytes_to s a e) (bytes_to s c f) us vs w
  where
    us : List (List ℕ)
    us = parts_from s t (p + 1)

    vs : List (List ℕ)
    vs = parts_from s t (q + 1)
