-- Bytes and tokens: what each need of their functions follows from.
use mathlib.Core.Path.{◌≡◌, refl, sym, ap, ◌∙◌}
use mathlib.Core.Bool.{Bool, false}
use mathlib.Core.List.{List, [], ◌∷◌}
use Prim.Native.Nat.{ℕ, ◌+◌, ◌≤◌, ◌<◌}
use native.Mathlib.Omega.{arith}
use lib.ListN.{length, get_or, get_or-eq_default}
use lib.Dec.{eqb}
use borrow.Author.Rules.{rules}
use Rattle.rules.specs.Rule.{step}
use Rattle.rules.specs.Parse.{byte_at, opens}
use Rattle.jsx.specs.Byte.{need}
use Rattle.lex.specs.Contract.{nothing, Leaf, expect_byte}
use Rattle.lex.specs.Answer.{Ans, Got, No}
use Rattle.lex.proofs.Laws as Laws

module _ (s : List ℕ) (at : ℕ) where
  -- Within the input, what the code reads of the list is the byte there.
  pub byte_there : {r : ℕ} → at < length s → r ≡ get_or s at 0 → r ≡ byte_at s at
  byte_there h e = e ∙ Laws.inside s at 0 256 h

  -- From the end on the byte is 256.
  pub byte_end : length s ≤ at → 256 ≡ byte_at s at
  byte_end h = sym (get_or-eq_default s 256 h)

module _ {s : List ℕ} {at b : ℕ} (e : b ≡ byte_at s at) where
  -- Something is needed, and the input ends: refusal 4.
  pub need_at_end : b ≡ 256 → Leaf nothing (No 4 at at 0 0) s need at 0
  need_at_end h = Laws.leaf_stop nothing s need at 0 refl (Laws.need_end s at (Laws.byte_is e h))

  -- Something is needed, and does not begin here: refusal 3.
  pub need_elsewhere : (b ≡ 256 → ⊥) → Leaf nothing (No 3 at at 0 0) s need at 0
  need_elsewhere h = Laws.leaf_stop nothing s need at 0 refl (Laws.need_here s at (Laws.byte_not e h))

  -- A byte that is asked for stands here, and is passed.
  pub expect_there : {c : ℕ} → c < 256 → b ≡ c → Leaf nothing (Got (at + 1) 0) s (expect_byte c) at 1
  expect_there {c} i h =
      let j = Laws.before_end s at c (sym e ∙ h) i in
      Laws.leaf_done nothing s (expect_byte c) at 1 (at + 1) 0
      (Laws.when_yes s _ 0 at (λ n. eqb n c) step need (Laws.byte_is e h) ∙ Laws.step_is s _ 0 at j) refl (omega arith)

  -- A byte that is asked for does not stand here: the answer is that of something needed.
  pub expect_missing : {c : ℕ} {r : Ans}
      → (b ≡ c → ⊥)
      → Leaf nothing r s need at 0
      → Leaf nothing r s (expect_byte c) at 1
  expect_missing {c} h l =
      Laws.leaf_refuses l (sym (Laws.when_no s _ 0 at (λ n. eqb n c) step need (Laws.byte_not e h)))
      (Laws.need_fails s at)

module _ (s : List ℕ) (at a : ℕ) {b : ℕ} (e : b ≡ byte_at s at) where
  -- Where another byte stands than the first of some bytes, they do not stand.
  pub opens_other : (w : List ℕ) → (b ≡ a → ⊥) → false ≡ opens s (a ∷ w) at
  opens_other w h = sym (Laws.opens_no s w at a (Laws.byte_not e h))

  module _ (h : b ≡ a) where
    -- Where the first of two bytes stands, both do just if the next byte is the second.
    pub opens_two : (c : ℕ) {d : ℕ} → d ≡ byte_at s (at + 1) → eqb d c ≡ opens s (a ∷ c ∷ []) at
    opens_two c f =
        ap (λ (n : ℕ). eqb n c) f
        ∙ sym (Laws.opens_yes s (c ∷ []) at a (Laws.byte_is e h) ∙ Laws.opens_one s (at + 1) c)

    -- Where the first of some bytes stands, whether all do is told by the others behind it.
    pub opens_rest : (w : List ℕ) {r : Bool} → r ≡ opens s w (at + 1) → r ≡ opens s (a ∷ w) at
    opens_rest w f = f ∙ sym (Laws.opens_yes s w at a (Laws.byte_is e h))

    -- Behind it is still within the input.
    pub behind_first : (u : List ℕ) {y : ℕ} → a < 256 → y ≡ at + 1 → u ≡ s → y ≤ length u
    behind_first u i f g = let j = Laws.before_end s at a (sym e ∙ h) i in rw (f, g) (omega arith)

pub ruleset lex_steps = (
  rules,
  byte_there,
  byte_end,
  need_at_end,
  need_elsewhere,
  expect_there,
  expect_missing,
  opens_other,
  opens_two,
  opens_rest,
  behind_first,
)
