-- A rule that advances has passed a byte wherever it goes on.
use mathlib.Core.Path.{◌≡◌, refl, sym, ◌∙◌}
use mathlib.Core.Bool.{Bool, true, false}
use mathlib.Core.List.{List}
use Prim.Native.Nat.{ℕ, ◌+◌, ◌<◌}
use native.Mathlib.Omega.{arith}
use lib.ListN.{length}
use lib.Dec.{ltb}
use Rattle.rules.specs.Forest.{Forest, nil, byte}
use Rattle.rules.specs.Rule.{Rule, done, stop, step, refuse, when, look, after, seq, many, wrap, said, marked}
use Rattle.rules.specs.Rule.{paired}
use Rattle.rules.specs.Parse.{got, trouble, pick, byte_at, stands, parse}
use Rattle.rules.proofs.Run.{both, never}
use Rattle.rules.proofs.Got.{trouble_got, false_true, refusal_got, got_same, then_got, pick_case, SeqOut, two}
use Rattle.rules.proofs.Got.{one, seq_read, SaidOut, so, otherwise, stopped, said_read, wrap_read, PairOut, lone}
use Rattle.rules.proofs.Got.{full, pair_out}
use Rattle.rules.proofs.Local.{up_got}
use Rattle.rules.proofs.Moves.{past_got}
use Rattle.rules.proofs.Flow.{advances}

-- The first, or the second.
first_or : {X : Type 0} (a b : Bool) {A B : Bool}
    → A ≡ a
    → B ≡ b
    → pick a true b ≡ true
    → (A ≡ true → X)
    → (B ≡ true → X)
    → X
first_or true b e e' h f g = f e
first_or false b e e' h f g = g (e' ∙ h)

module _ (s : List ℕ) (F : ℕ) where
  -- What such a rule reads and goes on from ends behind where it began.
  pub advance : (t : Rule)
      → advances t ≡ true
      → (e at : ℕ) (o : Forest) (p : ℕ) → parse s F t e at ≡ got true o p
      → at < p
  unfolding parse advances
  advance done v e at o p h = never v
  advance stop v e at o p h = false_true (sym (got_same h).0) refl
  advance step v e at o p h = by (ltb at (length s)) h
    where
      by : (c : Bool)
          → pick c (got true (byte (byte_at s at) nil) (at + 1)) (trouble 4 at at 0 0) ≡ got true o p
          → at < p
      by true k = let x = (got_same k).2 in omega arith
      by false k = trouble_got k
  advance (refuse n w) v e at o p h = refusal_got n w e at h
  advance (when f t u) v e at o p h =
      let b = both (advances t) (advances u) v in
      pick_case (f (byte_at s at)) (parse s F t e at) (parse s F u e at) h (λ z. advance t b.0 e at o p z)
      (λ z. advance u b.1 e at o p z)
  advance (look w t u) v e at o p h =
      let b = both (advances t) (advances u) v in
      pick_case (stands s w at) (parse s F t e at) (parse s F u e at) h (λ z. advance t b.0 e at o p z)
      (λ z. advance u b.1 e at o p z)
  advance (after r f t u) v e at o p h =
      let b = both (advances t) (advances u) v in
      let x = then_got (parse s F r e at) _ h in
      pick_case (f (byte_at s x.2)) (parse s F t e at) (parse s F u e at) x.4 (λ z. advance t b.0 e at o p z)
      (λ z. advance u b.1 e at o p z)
  advance (seq t u) v e at o p h =
      by (seq_read s F t u e at h) (λ w q x z. advance t w e at q x z) (λ w n q z. advance u w e n q p z)
    where
      by : SeqOut (parse s F t e at) (parse s F u e) true o p
          → (advances t ≡ true → (q : Forest) (x : ℕ) → parse s F t e at ≡ got true q x → at < x)
          → (advances u ≡ true → (n : ℕ) (q : Forest) → parse s F u e n ≡ got true q p → n < p)
          → at < p
      by (two o₁ p₁ o₂ x y w) ht hu =
          let l = up_got s F t e at x in
          let m = up_got s F u e p₁ y in
          first_or (advances t) (advances u) refl refl v (λ k. let z = ht k o₁ p₁ x in
          omega arith) (λ k. let z = hu k p₁ o₂ y in omega arith)
      by (one x ae) ht hu = false_true ae refl
  advance (many t) v e at o p h = never v
  advance (wrap f t) v e at o p h = let w = wrap_read s F f t e at h in advance t v e at w.0 p w.1
  advance (said f r t u) v e at o p h =
      by (said_read s F f r t u e at h) (λ w q x z. advance r w e at q x z) (λ w n q z. advance t w e n q p z)
      (λ w n q z. advance u w e n q p z)
    where
      by : SaidOut f (parse s F r e at) (parse s F t e) (parse s F u e) true o p
          → (advances r ≡ true → (q : Forest) (x : ℕ) → parse s F r e at ≡ got true q x → at < x)
          → (advances t ≡ true → (n : ℕ) (q : Forest) → parse s F t e n ≡ got true q p → n < p)
          → (advances u ≡ true → (n : ℕ) (q : Forest) → parse s F u e n ≡ got true q p → n < p)
          → at < p
      by (so o₁ p₁ o₂ x c y w) hr ht hu =
          let l = up_got s F r e at x in
          let m = up_got s F t e p₁ y in
          first_or (advances r) (pick (advances t) (advances u) false) refl refl v (λ k. let z = hr k o₁ p₁ x in
          omega arith) (λ k. let z = ht (both (advances t) (advances u) k).0 p₁ o₂ y in omega arith)
      by (otherwise o₁ p₁ o₂ x c y w) hr ht hu =
          let l = up_got s F r e at x in
          let m = up_got s F u e p₁ y in
          first_or (advances r) (pick (advances t) (advances u) false) refl refl v (λ k. let z = hr k o₁ p₁ x in
          omega arith) (λ k. let z = hu (both (advances t) (advances u) k).1 p₁ o₂ y in omega arith)
      by (stopped x ae) hr ht hu = false_true ae refl
  advance (marked t) v e at o p h = advance t v at at o p h
  advance (paired t d c u v') v e at o p h = by (pair_out s F d t c u v' e at h)
    where
      by : PairOut s F d t c u v' e at true o p → at < p
      by (lone x ae) = past_got s F t e at v x
      by (full o₁ p₁ b i p₂ b₂ r x y z nm w ae) =
          let l₁ : at < p₁ = past_got s F t e at v x in
          let l₂ = up_got s F c e p₁ y in
          let l₃ = up_got s F u e p₂ z in
          omega arith
