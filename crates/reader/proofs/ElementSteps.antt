-- Elements, fragments and children, step by step.
use mathlib.Core.Path.{◌≡◌, refl, sym, ◌∙◌}
use mathlib.Core.Bool.{true}
use mathlib.Core.List.{List}
use Prim.Native.Char.{code}
use Prim.Native.Nat.{ℕ, zero, suc, ◌-◌}
use native.Mathlib.Omega.{arith}
use lib.ListN.{length}
use Rattle.rules.specs.Rule.{◌⨾◌}
use Rattle.rules.specs.Parse.{trouble, byte_at, parse, read_at}
use Rattle.rules.proofs.Run.{unmarked, calm}
use Rattle.rules.proofs.Again.{after_no, seq_no}
use Rattle.jsx.specs.Byte.{is}
use Rattle.jsx.specs.Blank.{blank, blanks, comment, comment_turn, line_comment, line_turn, pass}
use Rattle.jsx.specs.Expression.{no_sibling}
use Rattle.jsx.specs.Element.{fragment_in, named_in}
use Rattle.jsx.specs.Depth.{element_too_deep, within}
use Rattle.jsx.proofs.Goes.{within_goes}
use Rattle.lex.specs.Contract.{nothing, Leaf, Past}
use Rattle.lex.specs.Answer.{Ans, Got, No}
use Rattle.lex.proofs.Laws as Lex
use Rattle.table.specs.Slot.{Seat}
use Rattle.table.specs.Reader.{Room, Made}
use Rattle.table.proofs.Made.{made_as, refused}
use Rattle.table.proofs.Upto.{Upto, upto_begin}
use Rattle.table.proofs.Upto.{made_stops}
use Rattle.tag.proofs.Rules.{goes_sibling, bare_sibling}
use Rattle.token.proofs.Rules as K
use Rattle.reader.proofs.Levels as L
use Rattle.reader.proofs.Steps.{leaf_made_as}
use Rattle.reader.proofs.ExpressionSteps.{reader_leaf, reader_leaf_refuses}
use Rattle.reader.proofs.BracesSteps.{passed_over}

-- ---- an element or a fragment

calm_pass : calm pass ≡ true
unfolding calm pass blanks blank comment comment_turn line_comment line_turn
calm_pass = refl

too_deep_no : (s : List ℕ) (at : ℕ) {n a b c e : ℕ} → read_at s pass at ≡ trouble n a b c e
    → read_at s element_too_deep at ≡ trouble n a b c e
unfolding element_too_deep parse
too_deep_no s at h = let x = unmarked s (suc (length s)) pass calm_pass at 0 at ∙ h in rw x

-- Where the blanks behind its first byte refuse, so does it.
element_no : (s : List ℕ) (at d : ℕ) {n a b c e : ℕ} → read_at s pass at ≡ trouble n a b c e
    → read_at s (within d).element at ≡ trouble n a b c e
element_no s at zero h = L.element_deep s at zero refl ∙ too_deep_no s at h
element_no s at (suc d) h =
    L.element_is s at (suc d) (λ e. absurd (omega arith)) ∙ after_no s (suc (length s)) pass 0 at h (is ">") _ _

module _ (d : ℕ) {s : List ℕ} {at : ℕ} where
  -- No level is left for it.
  pub element_too_deep_lem : {q : Seat} {t : List ℕ} {r : Ans} → d ≡ 0 → Leaf nothing r s element_too_deep at 1
      → Made r s (within d).element at 1 q 0 t t
  element_too_deep_lem h l =
      leaf_made_as (within d).element 1 K.bare_too_deep l (sym (L.element_deep s at d h)) (omega arith)

  module _ (deep : d ≡ 0 → ⊥) {a : ℕ} (l : Past a s pass at 1) {b : ℕ} (y : b ≡ byte_at s a) where
    -- A fragment.
    pub element_fragment : {q : Seat} {t t' : List ℕ} {r : Ans} → b ≡ code ">"
        → Made r s (fragment_in (d - 1) (within (d - 1))) at 1 q 0 t t'
        → Made r s (within d).element at 1 q 0 t t'
    element_fragment x l₂ =
        let e = Lex.byte_is y x in
        made_as l₂ (within d).element 1 (sym (L.element_is s at d deep ∙ passed_over l (is ">") _ _ ∙ rw e))
        (omega arith)

    -- An element with a name.
    pub element_named : {q : Seat} {t t' : List ℕ} {r : Ans} → (b ≡ code ">" → ⊥)
        → Made r s (named_in (d - 1) (within (d - 1))) at 1 q 0 t t'
        → Made r s (within d).element at 1 q 0 t t'
    element_named x l₂ =
        let e = Lex.byte_not y x in
        made_as l₂ (within d).element 1 (sym (L.element_is s at d deep ∙ passed_over l (is ">") _ _ ∙ rw e))
        (omega arith)

pub ruleset element_steps = (element_too_deep_lem, element_fragment, element_named)

-- ---- one that is no child

module _ (d n : ℕ) {s : List ℕ} {at : ℕ} {c : ℕ} {q : Seat} (room : Room c s at q) {t : List ℕ} {r : Ans}
    (l : Leaf nothing r s pass at 1) where
  -- The blanks refuse.
  pub lone_refuses : {t' : List ℕ} {x a b g y : ℕ} → r ≡ No x a b g y
      → Made r s ((within d).element ⨾ no_sibling n) at 1 q 0 t t'
  lone_refuses h = refused
      (seq_no s (suc (length s)) (within d).element 0 at (element_no s at d (Lex.leaf_no l h)) _) h

  module _ {a j : ℕ} (h : r ≡ Got a j) {r₂ : Ans} {t₁ : List ℕ} (l₂ : Made r₂ s (within d).element at 1 q 0 t t₁) where
    lone_begun : Upto s ((within d).element ⨾ no_sibling n) at q 0 t ((within d).element ⨾ no_sibling n) at 0 t
    lone_begun = upto_begin ((within d).element ⨾ no_sibling n) q 0 t room.inside

    -- It refuses.
    pub lone_refuses_inside : {t' : List ℕ} {x a b g y : ℕ} → r₂ ≡ No x a b g y
        → Made r₂ s ((within d).element ⨾ no_sibling n) at 1 q 0 t t'
    lone_refuses_inside h₂ = refused (made_stops lone_begun l₂ h₂) h₂

    module _ {e m : ℕ} (h₂ : r₂ ≡ Got e m) {r₃ : Ans} (l₃ : Leaf nothing r₃ s (no_sibling n) e 0) where
      -- Something is behind it.
      pub lone_refuses_behind : {t' : List ℕ} {x a b g y : ℕ} → r₃ ≡ No x a b g y
          → Made r₃ s ((within d).element ⨾ no_sibling n) at 1 q 0 t t'
      lone_refuses_behind h₃ =
          reader_leaf_refuses lone_begun (within_goes d).element l₂ (goes_sibling n) (bare_sibling n) h₂ l₃ h₃

      -- It stands alone.
      pub lone_is : {z i y x : ℕ} → r₃ ≡ Got z i → y ≡ z → x ≡ m
          → Made (Got y x) s ((within d).element ⨾ no_sibling n) at 1 q 0 t t₁
      lone_is h₃ f g =
          let far₂ = l₂.of.far _ _ h₂ in
          let far₃ = l₃.far _ _ h₃ in
          reader_leaf lone_begun (within_goes d).element l₂ (goes_sibling n) (bare_sibling n) h₂ l₃ 1 h₃
          (omega arith) f g

pub ruleset lone_steps = (lone_refuses, lone_refuses_inside, lone_refuses_behind, lone_is)
