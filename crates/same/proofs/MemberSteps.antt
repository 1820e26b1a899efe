-- The parts of two members' names: what each need of their comparison follows from.
use mathlib.Core.Path.{◌≡◌, refl, sym, ◌∙◌}
use mathlib.Core.Bool.{Bool, true, false, not}
use mathlib.Core.List.{List}
use Prim.Native.Nat.{ℕ, ◌+◌}
use lib.Dec.{eqb}
use borrow.Author.Rules.{rules}
use borrow.Author.Tests.{not-true, not-false}
use Rattle.jsx.specs.Blank.{blanks}
use Rattle.jsx.specs.Name.{same, part as name_part}
use Rattle.lex.specs.Contract.{Past}
use Rattle.same.specs.Contract.{ReadsAt, ReadTo, behind_dot, same_parts}
use Rattle.same.proofs.Forms.{bytes_to}
use Rattle.same.proofs.Member as Member

-- The parts before x and y are the same; from there the names go on to b and d.
pub record Left (s : List ℕ) (p b q d x y : ℕ) : Type 0 where
  pub first : ReadTo s behind_dot x b
  pub second : ReadTo s behind_dot y d
  pub so : same_parts s behind_dot p q ≡ same_parts s behind_dot x y

-- Before the first turn.
pub left_begin : {s : List ℕ} {p b q d : ℕ} → ReadTo s behind_dot p b → ReadTo s behind_dot q d → Left s p b q d p q
left_begin g h = record { first = g; second = h; so = refl }

-- ---- a turn

module _ {s : List ℕ} {p b q d x y : ℕ} (v : Left s p b q d x y)
    {i : ℕ} (k : Past i s blanks x 0) {j : ℕ} (k₂ : Past j s blanks y 0)
    {g : ℕ} (l : Past g s name_part i 1) {h : ℕ} (l₂ : Past h s name_part j 1)
    {r : Bool} (e : r ≡ same (bytes_to s i g) (bytes_to s j h)) where
  after_first : Member.After s x b i g (Member.part_blanks v.first k l).to
  after_first = Member.after_there v.first k l

  after_second : Member.After s y d j h (Member.part_blanks v.second k₂ l₂).to
  after_second = Member.after_there v.second k₂ l₂

  -- The parts differ.
  pub turn_differs : not r ≡ true → false ≡ same_parts s behind_dot p q
  turn_differs z = sym (v.so ∙ Member.differ after_first after_second (sym e ∙ not-true r z))

  module _ (z : not r ≡ false) where
    parts_same : same (bytes_to s i g) (bytes_to s j h) ≡ true
    parts_same = sym e ∙ not-false r z

    -- The first name is over.
    pub turn_first_over : g ≡ b → eqb h d ≡ same_parts s behind_dot p q
    turn_first_over o = sym (v.so ∙ Member.first_over after_first after_second parts_same o)

    module _ (o : g ≡ b → ⊥) where
      -- Only the second is.
      pub turn_second_over : h ≡ d → false ≡ same_parts s behind_dot p q
      turn_second_over o₂ = sym (v.so ∙ Member.second_over after_first after_second parts_same o o₂)

      -- Neither is.
      pub turn_goes_on : {x₁ y₁ x₂ y₂ : ℕ} → (h ≡ d → ⊥) → Past x₁ s blanks g 0 → Past y₁ s blanks h 0
          → x₂ ≡ x₁ + 1
          → y₂ ≡ y₁ + 1
          → Left s p b q d x₂ y₂
      turn_goes_on o₂ m m₂ f f₂ =
          let a = Member.after_at v.first k l m in
          let a₂ = Member.after_at v.second k₂ l₂ m₂ in
          let n = Member.go_on a a₂ parts_same o o₂ in
          rw (f, f₂) (record { first = n.0; second = n.1; so = v.so ∙ n.2 })

-- ---- what the calls ask

module _ {s : List ℕ} {x b : ℕ} (h : ReadTo s behind_dot x b) {u : List ℕ} {y : ℕ} where
  -- Blanks were read behind the dot.
  pub dot_blanks : u ≡ s → y ≡ x → ReadsAt u blanks y
  dot_blanks f g = rw (f, g) (Member.dot_blanks h)

  module _ {i : ℕ} (k : Past i s blanks x 0) where
    -- A part was read behind those.
    pub dot_part : u ≡ s → y ≡ i → ReadsAt u name_part y
    dot_part f g = rw (f, g) (Member.dot_part h k)

    -- Blanks were read behind the part.
    pub part_blanks : {e : ℕ} → Past e s name_part i 1 → u ≡ s → y ≡ e → ReadsAt u blanks y
    part_blanks l f g = rw (f, g) (Member.part_blanks h k l)

pub ruleset member_steps = (rules, left_begin, turn_differs, turn_first_over, turn_second_over, turn_goes_on)

pub ruleset member_asked = (rules, dot_blanks, dot_part, part_blanks)
