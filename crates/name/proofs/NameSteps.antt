-- The names of elements and attributes: what each need of their readers follows from.
use mathlib.Core.Path.{◌≡◌, sym, ap, ◌∙◌}
use mathlib.Core.Bool.{Bool, true, false}
use mathlib.Core.List.{List}
use Prim.Native.Char.{code}
use Prim.Native.Nat.{ℕ, suc, ◌-◌, ◌<◌}
use native.Mathlib.Omega.{arith}
use lib.ListN.{length}
use Rattle.lex.proofs.Results.{results}
use borrow.Author.Tests.{eq-eqb, ne_eqb}
use Rattle.rules.specs.Forest.{node}
use Rattle.rules.specs.Rule.{Test, Rule, after, ◌⨾◌}
use Rattle.rules.specs.Parse.{pick, behind, byte_at, trouble, read_at}
use Rattle.rules.proofs.Again.{again, after_no, after_got, seq_no}
use Rattle.jsx.specs.Kind as Kind
use Rattle.jsx.specs.Byte.{is}
use Rattle.jsx.specs.Blank.{blanks}
use Rattle.jsx.specs.Name.{dashed, one_name, part, one_part, other_part, namespaced, member, element_name}
use Rattle.jsx.specs.Name.{attribute_name}
use Rattle.jsx.proofs.Again.{look_got}
use Rattle.lex.specs.Contract.{nothing, out_of, bytes_from, Leaf, Past}
use Rattle.lex.specs.Answer.{Ans, Got, No}
use Rattle.lex.proofs.Laws as Lex
use Rattle.lex.proofs.Bare.{goes_part, goes_blanks}
use Rattle.table.specs.Slot.{Seat}
use Rattle.table.specs.Reader.{Made}
use Rattle.table.proofs.Made.{refused, made_as}
use Rattle.table.proofs.Asked.{reader_asked}
use Rattle.name.specs.declared.First.{First}
use Rattle.name.specs.Contract.{Prefix, Spelt}
use Rattle.name.proofs.Parts.{one_made, other_made}

-- ---- a look over a part and the blanks behind it

module _ {s : List ℕ} {at : ℕ} (g : Test) (t u : Rule) {r : Ans} (l : Leaf nothing r s part at 1) where
  look_stops : {n a b c d : ℕ} → r ≡ No n a b c d → read_at s (after (part ⨾ blanks) g t u) at ≡ trouble n a b c d
  look_stops h =
      after_no s (suc (length s)) (part ⨾ blanks) 0 at (seq_no s (suc (length s)) part 0 at (Lex.leaf_no l h) blanks) g
      t u

  module _ {e j : ℕ} (h : r ≡ Got e j) {r₂ : Ans} (l₂ : Leaf nothing r₂ s blanks e 0) where
    look_stops_behind : {n a b c d : ℕ}
        → r₂ ≡ No n a b c d
        → read_at s (after (part ⨾ blanks) g t u) at ≡ trouble n a b c d
    look_stops_behind h₂ =
        after_no s (suc (length s)) (part ⨾ blanks) 0 at
        (again s (suc (length s)) part 0 at (Lex.leaf_got goes_part l h) blanks
        ∙ ap (behind (out_of (read_at s part at))) (Lex.leaf_no l₂ h₂)) g t u

    module _ {q j₂ b : ℕ} (h₂ : r₂ ≡ Got q j₂) (y : b ≡ byte_at s q) where
      looked : {x : Bool} → g (byte_at s q) ≡ x
          → read_at s (after (part ⨾ blanks) g t u) at ≡ pick x (read_at s t at) (read_at s u at)
      looked k =
          after_got s (suc (length s)) (part ⨾ blanks) 0 at
          (look_got s (suc (length s)) 0 at (Lex.leaf_got goes_part l h) (Lex.leaf_got goes_blanks l₂ h₂)) g t u
          ∙ rw k

      look_taken : g b ≡ true → read_at s t at ≡ read_at s (after (part ⨾ blanks) g t u) at
      look_taken k = sym (looked (sym (ap g y) ∙ k))

      look_left : g b ≡ false → read_at s u at ≡ read_at s (after (part ⨾ blanks) g t u) at
      look_left k = sym (looked (sym (ap g y) ∙ k))

-- ---- the steps

module _ {s : List ℕ} {at : ℕ} {r : Ans} (l : Leaf nothing r s part at 1) {q₀ : Seat} {t : List ℕ} where
  -- No part begins here, so no element's name does.
  pub element_stops : {t' : List ℕ} {n a b c d : ℕ} → r ≡ No n a b c d → Made r s element_name at 1 q₀ 0 t t'
  unfolding element_name
  element_stops h = refused (look_stops _ _ _ l h) h

  -- No part begins here, so no attribute's name does.
  pub attribute_stops : {t' : List ℕ} {n a b c d : ℕ} → r ≡ No n a b c d → Made r s attribute_name at 1 q₀ 0 t t'
  unfolding attribute_name
  attribute_stops h = refused (look_stops _ _ _ l h) h

  module _ {e j : ℕ} (h : r ≡ Got e j) {r₂ : Ans} (l₂ : Leaf nothing r₂ s blanks e 0) where
    -- The blanks behind the part of an element's name refuse.
    pub element_stops_behind : {t' : List ℕ} {n a b c d : ℕ} → r₂ ≡ No n a b c d → Made r₂ s element_name at 1 q₀ 0 t t'
    unfolding element_name
    element_stops_behind h₂ = refused (look_stops_behind _ _ _ l h l₂ h₂) h₂

    -- The blanks behind the part of an attribute's name refuse.
    pub attribute_stops_behind : {t' : List ℕ} {n a b c d : ℕ}
        → r₂ ≡ No n a b c d
        → Made r₂ s attribute_name at 1 q₀ 0 t t'
    unfolding attribute_name
    attribute_stops_behind h₂ = refused (look_stops_behind _ _ _ l h l₂ h₂) h₂

    module _ {q j₂ b : ℕ} (h₂ : r₂ ≡ Got q j₂) (y : b ≡ byte_at s q) where
      -- A colon stands there: the element's name is a namespaced one.
      pub element_spaced : {r₃ : Ans} {t' : List ℕ}
          → b ≡ code ":"
          → Made r₃ s namespaced at 1 q₀ 0 t t'
          → Made r₃ s element_name at 1 q₀ 0 t t'
      unfolding element_name
      element_spaced c m =
          made_as m element_name 1 (look_taken (is ":") _ _ l h l₂ h₂ y (eq-eqb b (code ":") c)) (omega arith)

      -- A colon stands there: the attribute's name is a namespaced one.
      pub attribute_spaced : {r₃ : Ans} {t' : List ℕ} → b ≡ code ":" → Made r₃ s namespaced at 1 q₀ 0 t t'
          → Made r₃ s attribute_name at 1 q₀ 0 t t'
      unfolding attribute_name
      attribute_spaced c m =
          made_as m attribute_name 1 (look_taken (is ":") _ _ l h l₂ h₂ y (eq-eqb b (code ":") c)) (omega arith)

      module _ (c : b ≡ code ":" → ⊥) where
        -- No colon stands there: the part is the attribute's name.
        pub attribute_one : {y₁ : ℕ} {t' : List ℕ}
            → Spelt 0 q₀ (node Kind.other_part (dashed (bytes_from s at (e - at)))) at e t t'
            → y₁ ≡ e
            → Made (Got y₁ 1) s attribute_name at 1 q₀ 0 t t'
        unfolding attribute_name
        attribute_one w f =
            let far = l.far _ _ h in
            rw f (made_as (other_made (Lex.leaf_got goes_part l h) far.0 far.1 w) attribute_name 1
            (look_left (is ":") namespaced other_part l h l₂ h₂ y (ne_eqb b (code ":") c)) (omega arith))

        -- A dot stands there: the element's name is a member.
        pub element_dotted : {r₃ : Ans} {t' : List ℕ}
            → b ≡ code "."
            → Made r₃ s member at 1 q₀ 0 t t'
            → Made r₃ s element_name at 1 q₀ 0 t t'
        unfolding element_name
        element_dotted d m =
            made_as m element_name 1
            (look_taken (is ".") member one_part l h l₂ h₂ y (eq-eqb b (code ".") d)
            ∙ look_left (is ":") namespaced _ l h l₂ h₂ y (ne_eqb b (code ":") c)) (omega arith)

        -- Neither a colon nor a dot stands there: the part is the element's name.
        pub element_one : {y₁ : ℕ} {t' : List ℕ}
            → (b ≡ code "." → ⊥)
            → Spelt 0 q₀ (one_name (bytes_from s at (e - at))) at e t t'
            → y₁ ≡ e
            → Made (Got y₁ 1) s element_name at 1 q₀ 0 t t'
        unfolding element_name
        element_one d w f =
            let far = l.far _ _ h in
            rw f (made_as (one_made (Lex.leaf_got goes_part l h) far.0 far.1 w) element_name 1
            (look_left (is ".") member one_part l h l₂ h₂ y (ne_eqb b (code ".") d)
            ∙ look_left (is ":") namespaced _ l h l₂ h₂ y (ne_eqb b (code ":") c)) (omega arith))

-- ---- what the calls ask

module _ {s : List ℕ} {at : ℕ} {r : Ans} (l : Leaf nothing r s part at 1) {e j : ℕ} (h : r ≡ Got e j) where
  -- A part that was read is not empty.
  pub part_begins : {x y : ℕ} → x ≡ at → y ≡ e → x < y
  part_begins f g = let far = l.far _ _ h in rw (f, g) (omega arith)

  -- A part that was read was passed.
  pub part_passed : {u : List ℕ} {x y : ℕ} → u ≡ s → x ≡ at → y ≡ e → Past y u part x 1
  part_passed f g k = rw (f, g, k) (record { is = Lex.leaf_got goes_part l h; far = l.far _ _ h })

  -- A part that was read, the blanks behind it and a colon are what a namespaced name begins with.
  pub prefix_seen : {r₂ : Ans} {q j₂ b : ℕ} {u : List ℕ} {f : First}
      → Leaf nothing r₂ s blanks e 0
      → r₂ ≡ Got q j₂
      → b ≡ byte_at s q
      → b ≡ code ":"
      → u ≡ s
      → f.at ≡ at
      → f.end ≡ e
      → f.next ≡ q
      → Prefix u f
  prefix_seen {f = f} l₂ h₂ y c k e₁ e₂ e₃ =
      rw k (record {
        read = rw (e₁, e₂) (record { is = Lex.leaf_got goes_part l h; far = l.far _ _ h });
        passed = rw (e₂, e₃) (record { is = Lex.leaf_got goes_blanks l₂ h₂; far = l₂.far _ _ h₂ });
        colon = rw e₃ (sym y ∙ c);
      })

pub ruleset name_steps = (
  results,
  element_stops,
  element_stops_behind,
  element_spaced,
  element_dotted,
  element_one,
  attribute_stops,
  attribute_stops_behind,
  attribute_spaced,
  attribute_one,
)

pub ruleset name_asked = (reader_asked, part_begins, part_passed, prefix_seen)
