-- A loop of a rule, turn by turn: `many t` from a place on is one turn, and `many t` from where that turn ended.
-- No fuel is left in what is said.
use mathlib.Core.Path.{◌≡◌, refl, sym, ap, ◌∙◌}
use mathlib.Core.Bool.{Bool, true, false}
use mathlib.Core.List.{List}
use Prim.Native.Nat.{ℕ, zero, suc, ◌+◌, ◌≤◌, ◌<◌}
use native.Mathlib.Omega.{arith}
use lib.ListN.{length}
use lib.Dec.{ltb}
use borrow.Author.Tests.{ltb-true}
use Rattle.rules.specs.Forest.{Forest}
use Rattle.rules.specs.Rule.{Rule, many}
use Rattle.rules.specs.Parse.{Answer, got, trouble, behind, repeat, parse, parsed}
use Rattle.rules.proofs.Ends.{top_got, turn_more, turn_last, turn_no, turn_stuck}

module _ (l : ℕ) (body : ℕ → Answer)
    (top : (at : ℕ) (o : Forest) (p : ℕ) → at ≤ l → body at ≡ got true o p → p ≤ l) where
  -- With more turns than bytes are left, the number of turns does not matter.
  pub enough : (f g at : ℕ) → at ≤ l → l < f + at → l < g + at → repeat body f at ≡ repeat body g at
  enough zero g at i h k = absurd (omega arith)
  enough (suc f) zero at i h k = absurd (omega arith)
  enough (suc f) (suc g) at i h k = go (body at) refl (λ p j m. enough f g p j (omega arith) (omega arith))
    where
      Later : Type 0
      Later = (p : ℕ) → p ≤ l → at < p → repeat body f p ≡ repeat body g p

      moved : (o : Forest) (p : ℕ) → body at ≡ got true o p → (b : Bool) → ltb at p ≡ b → Later
          → repeat body (suc f) at ≡ repeat body (suc g) at
      moved o p e true w ih =
          let m = ltb-true at p w in
          turn_more body f at e m ∙ ap (behind o) (ih p (top at o p i e) m) ∙ sym (turn_more body g at e m)
      moved o p e false w ih = turn_stuck body f at e w ∙ sym (turn_stuck body g at e w)

      go : (x : Answer) → body at ≡ x → Later → repeat body (suc f) at ≡ repeat body (suc g) at
      go (got true o p) e ih = moved o p e (ltb at p) refl ih
      go (got false o p) e ih = turn_last body f at e ∙ sym (turn_last body g at e)
      go (trouble n a b c d) e ih = turn_no body f at e ∙ sym (turn_no body g at e)

-- e: the mark, 0 where a rule is read by itself.
module _ (s : List ℕ) (t : Rule) (e at : ℕ) where
  -- A turn that goes on.
  pub many_more : {o : Forest} {p : ℕ} → parsed s t e at ≡ got true o p → at < p → at ≤ length s
      → parsed s (many t) e at ≡ behind o (parsed s (many t) e p)
  unfolding parse
  many_more {o} {p} h m i =
      let j = top_got s (suc (length s)) t e at i h in
      turn_more (parsed s t e) (length s) at h m
      ∙ ap (behind o)
      (enough (length s) (parsed s t e) (λ q o z k g. top_got s (suc (length s)) t e q k g)
      (length s) (suc (length s)) p j (omega arith) (omega arith))

  -- A turn that stops.
  pub many_last : {o : Forest} {p : ℕ} → parsed s t e at ≡ got false o p → parsed s (many t) e at ≡ got true o p
  unfolding parse
  many_last h = turn_last (parsed s t e) (length s) at h

  -- A turn that refuses.
  pub many_no : {n a b c d : ℕ} → parsed s t e at ≡ trouble n a b c d → parsed s (many t) e at ≡ trouble n a b c d
  unfolding parse
  many_no h = turn_no (parsed s t e) (length s) at h
