-- The kinds of names, by their bytes.
use mathlib.Core.Path.{◌≡◌, refl, sym, ap, ◌∙◌}
use mathlib.Core.Bool.{Bool, true, false}
use mathlib.Core.List.{List, [], ◌∷◌}
use Prim.Native.Nat.{ℕ, zero, suc, ◌-◌, ◌≤◌, ◌<◌}
use native.Mathlib.Omega.{arith}
use lib.Dec.{eqb}
use borrow.Author.Rules.{rules}
use borrow.Author.Tests.{eqb-true}
use Rattle.rules.specs.Forest.{node}
use Rattle.rules.specs.Rule.{Test}
use Rattle.rules.specs.Parse.{pick, byte_at}
use Rattle.rules.proofs.Run.{never}
use Rattle.jsx.specs.Kind as Kind
use Rattle.jsx.specs.Name.{has, same, first_is, dashed, is_this, opens_reference, one_name, object_name}
use Rattle.lex.specs.Answer.{flag}
use Rattle.lex.specs.Contract.{bytes_from}

-- ---- the first byte

-- A name's first byte is the input's there.
first_is_lem : (f : Test) (s : List ℕ) (a n : ℕ) → 0 < n → first_is f (bytes_from s a n) ≡ f (byte_at s a)
unfolding first_is bytes_from
first_is_lem f s a zero h = absurd (omega arith)
first_is_lem f s a (suc n) h = refl

-- ---- dashes

-- The number for a dash is at most 1.
pub dashed_few : (w : List ℕ) → dashed w ≤ 1
unfolding dashed
dashed_few w = go (has "-" w)
  where
    go : (b : Bool) → pick {A = ℕ} b 1 0 ≤ 1
    go true = omega arith
    go false = omega arith

-- A flag that is the number for a dash tells whether there is one.
dash_is : (w : List ℕ) {d : Bool} → flag d ≡ dashed w → has "-" w ≡ d
unfolding dashed
dash_is w {d} e = go d (has "-" w) e
  where
    go : (x y : Bool) → flag x ≡ pick y 1 0 → y ≡ x
    go true true h = refl
    go true false h = absurd (omega arith)
    go false true h = absurd (omega arith)
    go false false h = refl

pub dash_yes : (w : List ℕ) {d : Bool} → flag d ≡ dashed w → d ≡ true → has "-" w ≡ true
dash_yes w e f = dash_is w e ∙ f

pub dash_no : (w : List ℕ) {d : Bool} → flag d ≡ dashed w → d ≡ false → has "-" w ≡ false
dash_no w e f = dash_is w e ∙ f

same_is : (u v : List ℕ) → same u v ≡ true → u ≡ v
unfolding same
same_is [] [] h = refl
same_is [] (b ∷ v) h = never h
same_is (a ∷ u) [] h = never h
same_is (a ∷ u) (b ∷ v) h = go (eqb a b) refl h (λ k. same_is u v k)
  where
    go : (x : Bool) → eqb a b ≡ x → pick x (same u v) false ≡ true → (same u v ≡ true → u ≡ v) → a ∷ u ≡ b ∷ v
    go true e k ih = λ i. eqb-true a b e i ∷ ih k i
    go false e k ih = never k

-- `this` has no dash.
this_undashed : (w : List ℕ) → is_this w ≡ true → dashed w ≡ 0
unfolding is_this dashed has
this_undashed w h = ap dashed (same_is w _ h)

-- ---- the kinds, by the tests of the code

numbered : (k : ℕ) {x y : Bool} → x ≡ y → node k (flag x) ≡ node k (flag y)
numbered k e = ap (λ (x : Bool). node k (flag x)) e

module _ (s : List ℕ) (a b : ℕ) {d : Bool} (i : a < b) (e : flag d ≡ dashed (bytes_from s a (b - a))) where
  -- With a dash: an identifier.
  pub name_dashed : d ≡ true → one_name (bytes_from s a (b - a)) ≡ node Kind.identifier (flag d)
  unfolding one_name
  name_dashed f = rw (dash_yes (bytes_from s a (b - a)) e f) (numbered Kind.identifier (sym f))

  module _ (f : d ≡ false) {c : ℕ} (h : c ≡ byte_at s a) {x : Bool} (k : x ≡ opens_reference c) where
    plain : has "-" (bytes_from s a (b - a)) ≡ false
    plain = dash_no (bytes_from s a (b - a)) e f

    opened : {y : Bool} → x ≡ y → first_is opens_reference (bytes_from s a (b - a)) ≡ y
    opened z = first_is_lem opens_reference s a (b - a) (omega arith) ∙ sym (ap opens_reference h) ∙ sym k ∙ z

    -- By its first byte: a reference.
    pub name_reference : x ≡ true → one_name (bytes_from s a (b - a)) ≡ node Kind.reference (flag d)
    unfolding one_name
    name_reference z = rw (plain, opened z) (numbered Kind.reference (sym f))

    module _ (z : x ≡ false) {v : Bool} (l : v ≡ is_this (bytes_from s a (b - a))) where
      -- By all its bytes: This.
      pub name_this : v ≡ true → one_name (bytes_from s a (b - a)) ≡ node Kind.this (flag d)
      unfolding one_name
      name_this w = rw (plain, opened z, sym l ∙ w) (numbered Kind.this (sym f))

      -- By none of these: an identifier.
      pub name_other : v ≡ false → one_name (bytes_from s a (b - a)) ≡ node Kind.identifier (flag d)
      unfolding one_name
      name_other w = rw (plain, opened z, sym l ∙ w) (numbered Kind.identifier (sym f))

module _ (s : List ℕ) (a b : ℕ) {v : Bool} (l : v ≡ is_this (bytes_from s a (b - a))) where
  -- An object whose bytes are `this` is This, with the number for a dash as its extra.
  pub object_this : v ≡ true → object_name (bytes_from s a (b - a)) ≡ node Kind.this (dashed (bytes_from s a (b - a)))
  unfolding object_name
  object_this h = rw (sym l ∙ h) (ap (node Kind.this) (sym (this_undashed (bytes_from s a (b - a)) (sym l ∙ h))))

  -- Any other object is a reference, with the number for a dash as its extra.
  pub object_other : v ≡ false
      → object_name (bytes_from s a (b - a)) ≡ node Kind.reference (dashed (bytes_from s a (b - a)))
  unfolding object_name
  object_other h = rw (sym l ∙ h)

pub ruleset kind_steps = (
  rules,
  name_dashed,
  name_reference,
  name_this,
  name_other,
  object_this,
  object_other,
)

-- The kind of an object is at most 5.
pub object_few : (w : List ℕ) {k x : ℕ} → object_name w ≡ node k x → k ≤ 5
unfolding object_name
object_few w {k} {x} = go (is_this w)
  where
    go : (b : Bool) → pick b (node 5 0) (node 4 (dashed w)) ≡ node k x → k ≤ 5
    go true e = let h : 5 ≡ k = cc in omega arith
    go false e = let h : 4 ≡ k = cc in omega arith

-- The kind of a name of one part is at most 5.
pub name_few : (w : List ℕ) {k x : ℕ} → one_name w ≡ node k x → k ≤ 5
unfolding one_name
name_few w {k} {x} = go (has "-" w) (first_is opens_reference w) (is_this w)
  where
    go : (a b c : Bool) → pick a (node 3 1) (pick b (node 4 0) (pick c (node 5 0) (node 3 0))) ≡ node k x → k ≤ 5
    go true b c e = let h : 3 ≡ k = cc in omega arith
    go false true c e = let h : 4 ≡ k = cc in omega arith
    go false false true e = let h : 5 ≡ k = cc in omega arith
    go false false false e = let h : 3 ≡ k = cc in omega arith
