-- Two element names: what each need of their comparison follows from.
use mathlib.Core.Path.{◌≡◌, refl, sym, ◌∙◌}
use mathlib.Core.Bool.{Bool, true, false, not}
use mathlib.Core.List.{List}
use Prim.Native.Char.{code}
use Prim.Native.Nat.{ℕ, suc, ◌+◌, ◌≤◌}
use lib.ListN.{length}
use lib.Dec.{eqb}
use borrow.Author.Rules.{rules}
use borrow.Author.Tests.{not-true, not-false}
use Rattle.rules.specs.Parse.{byte_at}
use Rattle.rules.proofs.Local.{up_got}
use Rattle.jsx.specs.Kind as Kind
use Rattle.jsx.specs.Blank.{blanks}
use Rattle.jsx.specs.Name.{same, part as name_part, element_name}
use Rattle.lex.specs.Contract.{Past}
use Rattle.same.specs.Contract.{ReadsAt, ReadTo, Named, behind_colon, behind_dot, same_parts}
use Rattle.same.proofs.Forms.{bytes_to, Several, begins, blanks_behind, form_there, form_at}
use Rattle.same.proofs.Equal as Equal
use Rattle.same.proofs.Equal.{equal}
use Rattle.same.proofs.Twins.{twins}
use Rattle.same.proofs.SameSpans.{names_twin}

-- ---- the bytes of both

-- A name begins before its end.
pub name_ordered : {s : List ℕ} {a b : ℕ} → Named s a b → {x y : ℕ} → x ≡ a → y ≡ b → x ≤ y
name_ordered {s} {a} n f g = rw (f, g) (up_got s (suc (length s)) element_name 0 a n.read)

-- They are the same.
pub same_spans : {s : List ℕ} {a b c d : ℕ} {r : Bool} → Named s a b → Named s c d
    → r ≡ same (bytes_to s a b) (bytes_to s c d)
    → r ≡ true
    → true ≡ equal s a c
same_spans n n₂ g z =
    let v = twins (name_ordered n refl refl) n.inside (name_ordered n₂ refl refl) n₂.inside (sym g ∙ z) in
    sym (names_twin n n₂ v)

-- ---- one name

module _ {s : List ℕ} {a b : ℕ} (n : Named s a b) {u : List ℕ} {y : ℕ} where
  -- A part begins it.
  pub name_begins : u ≡ s → y ≡ a → ReadsAt u name_part y
  name_begins f g = rw (f, g) (begins n)

  -- Blanks were read behind the part.
  pub name_blanks : {e : ℕ} → Past e s name_part a 1 → u ≡ s → y ≡ e → ReadsAt u blanks y
  name_blanks l f g = rw (f, g) (blanks_behind n l)

-- What is behind its separator.
module _ {s : List ℕ} {a b : ℕ} (n : Named s a b) {e : ℕ} (l : Past e s name_part a 1) (o : e ≡ b → ⊥)
    {p : ℕ} (k : Past p s blanks e 0) where
  colon_there : byte_at s p ≡ code ":" → Several s a b e p Kind.namespaced behind_colon
  colon_there = Equal.by_colon (form_at n l k) o

  dot_there : (byte_at s p ≡ code ":" → ⊥) → Several s a b e p Kind.member behind_dot
  dot_there = Equal.by_dot (form_at n l k) o

  module _ {u : List ℕ} {x y c : ℕ} (v : c ≡ byte_at s p) where
    -- Behind a colon.
    pub colon_behind : c ≡ code ":" → u ≡ s → x ≡ p + 1 → y ≡ b → ReadTo u behind_colon x y
    colon_behind z f g h = rw (f, g, h) (colon_there (sym v ∙ z)).rest

    -- Behind another separator, a dot.
    pub dot_behind : (c ≡ code ":" → ⊥) → u ≡ s → x ≡ p + 1 → y ≡ b → ReadTo u behind_dot x y
    dot_behind z f g h = rw (f, g, h) (dot_there (λ w. z (v ∙ w))).rest

    -- The byte was compared with the other name's.
    module _ {c₁ : ℕ} (w : c₁ ≡ c) where
      -- Behind a colon.
      pub colon_behind_too : c₁ ≡ code ":" → u ≡ s → x ≡ p + 1 → y ≡ b → ReadTo u behind_colon x y
      colon_behind_too z = colon_behind (sym w ∙ z)

      -- Behind a dot.
      pub dot_behind_too : (c₁ ≡ code ":" → ⊥) → u ≡ s → x ≡ p + 1 → y ≡ b → ReadTo u behind_dot x y
      dot_behind_too z = dot_behind (λ t. z (w ∙ t))

-- ---- two names

module _ {s : List ℕ} {a b c d : ℕ} (n : Named s a b) (n₂ : Named s c d)
    {e : ℕ} (l : Past e s name_part a 1) {f : ℕ} (l₂ : Past f s name_part c 1) where
  module _ {r : Bool} (g : r ≡ same (bytes_to s a e) (bytes_to s c f)) where
    -- The first parts differ.
    pub first_differs : not r ≡ true → false ≡ equal s a c
    first_differs z = sym (Equal.differ (form_there n l) (form_there n₂ l₂) (sym g ∙ not-true r z))

    -- The first name is one part.
    pub first_one : not r ≡ false → e ≡ b → eqb f d ≡ equal s a c
    first_one z o = sym (Equal.one_part_lem (form_there n l) (form_there n₂ l₂) (sym g ∙ not-false r z) o)

  module _ (o : e ≡ b → ⊥) where
    -- Only the second is.
    pub second_one : f ≡ d → false ≡ equal s a c
    second_one o₂ = sym (Equal.other_one (form_there n l) (form_there n₂ l₂) o o₂)

    module _ (o₂ : f ≡ d → ⊥) {p : ℕ} (k : Past p s blanks e 0) {q : ℕ} (k₂ : Past q s blanks f 0)
        {x : ℕ} (v : x ≡ byte_at s p) {y : ℕ} (v₂ : y ≡ byte_at s q) where
      -- The separators differ.
      pub separators_differ : (x ≡ y → ⊥) → false ≡ equal s a c
      separators_differ z =
          sym (Equal.separators (form_at n l k) (form_at n₂ l₂ k₂) o o₂ (λ w. z (v ∙ w ∙ sym v₂)))

-- The first parts are the same, and so are the separators: what is behind decides.
module _ {s : List ℕ} {a b c d : ℕ} (n : Named s a b) (n₂ : Named s c d)
    {e : ℕ} (l : Past e s name_part a 1) {f : ℕ} (l₂ : Past f s name_part c 1)
    {r : Bool} (g : r ≡ same (bytes_to s a e) (bytes_to s c f)) (z : not r ≡ false) (o : e ≡ b → ⊥) (o₂ : f ≡ d → ⊥)
    {p : ℕ} (k : Past p s blanks e 0) {q : ℕ} (k₂ : Past q s blanks f 0)
    {x : ℕ} (v : x ≡ byte_at s p) {y : ℕ} (v₂ : y ≡ byte_at s q) (w : x ≡ y) {E : Bool} where
  -- Colons.
  pub both_colon : x ≡ code ":"
      → E ≡ same_parts s behind_colon (p + 1) (q + 1)
      → E ≡ equal s a c
  both_colon i h =
      let m = colon_there n l o k (sym v ∙ i) in
      let m₂ = colon_there n₂ l₂ o₂ k₂ (sym v₂ ∙ sym w ∙ i) in
      h ∙ sym (Equal.rests m m₂ (sym g ∙ not-false r z))

  -- Dots.
  pub both_dot : (x ≡ code ":" → ⊥)
      → E ≡ same_parts s behind_dot (p + 1) (q + 1)
      → E ≡ equal s a c
  both_dot i h =
      let m = dot_there n l o k (λ t. i (v ∙ t)) in
      let m₂ = dot_there n₂ l₂ o₂ k₂ (λ t. i (w ∙ v₂ ∙ t)) in
      h ∙ sym (Equal.rests m m₂ (sym g ∙ not-false r z))

pub ruleset name_steps =
    (rules, same_spans, first_differs, first_one, second_one, separators_differ, both_colon, both_dot)

pub ruleset name_asked =
    (rules, name_ordered, name_begins, name_blanks, colon_behind, dot_behind, colon_behind_too, dot_behind_too)
