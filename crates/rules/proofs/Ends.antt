-- A reading stays in the input, looks no further than one place beyond it, and needs no more turns than places.
-- For every grammar.
use mathlib.Core.Path.{◌≡◌, refl, sym, ap, subst, ◌∙◌}
use mathlib.Core.Bool.{Bool, true, false}
use mathlib.Core.List.{List}
use Prim.Native.Nat.{ℕ, zero, suc, ◌+◌, ◌≤◌, ◌<◌}
use native.Mathlib.Omega.{arith}
use lib.ListN.{length}
use lib.Dec.{ltb}
use borrow.Author.Tests.{ltb-true, lt-ltb}
use Rattle.rules.specs.Forest.{Forest, nil, byte, ◌⋈◌}
use Rattle.rules.specs.Rule.{Rule, done, stop, step, refuse, when, look, after, seq, many, wrap, said, marked}
use Rattle.rules.specs.Rule.{paired}
use Rattle.rules.specs.Parse.{Answer, got, trouble, pick, behind, byte_at, stands, repeat, parse}
use Rattle.rules.proofs.Run.{Then, Either, then_if, then_then, then_any, then_behind, then_refusal, then_judged}
use Rattle.rules.proofs.Run.{goes_repeat, Goes}
use Rattle.rules.proofs.Got.{trouble_got, then_got, behind_out, got_same}
use Rattle.rules.proofs.Local.{Up, up_repeat, LooksLoop, Looks}

-- ---- a reading stays in the input

-- What was got ends at l at most.
abbrev pub UpTo : ℕ → Bool → Forest → ℕ → Type 0
UpTo l a o p = p ≤ l

-- So does an answer, if it got something.
abbrev pub Top : ℕ → Answer → Type 0
Top l x = Then x (UpTo l)

top_behind : (l : ℕ) (u : Forest) (x : Answer) → Top l x → Top l (behind u x)
top_behind l u x h = then_behind (UpTo l) (UpTo l) u x h (λ a o p k. k)

-- A loop whose turns do.
pub top_repeat : (l : ℕ) (body : ℕ → Answer)
    → ((at : ℕ) → at ≤ l → Top l (body at))
    → (f at : ℕ) → at ≤ l
    → Top l (repeat body f at)
unfolding repeat
top_repeat l body h zero at i = tt
top_repeat l body h (suc f) at i = then_then (UpTo l) (UpTo l) (body at) _ (h at i)
    (λ a o p k. then_if (UpTo l) a _ _
    (then_if (UpTo l) (ltb at p) _ _ (top_behind l o (repeat body f p) (top_repeat l body h f p k)) tt) k)

top_step : (l at : ℕ) (b : Bool)
    → ltb at l ≡ b
    → (o : Forest) → Top l (pick b (got true o (at + 1)) (trouble 4 at at 0 0))
top_step l at true e o = let h : at < l = ltb-true at l e in omega arith
top_step l at false e o = tt

module _ (s : List ℕ) (F : ℕ) where
  abbrev In : Bool → Forest → ℕ → Type 0
  In a o p = p ≤ length s

  -- A reading that begins in the input ends in it.
  pub top : (t : Rule) (e at : ℕ) → at ≤ length s → Top (length s) (parse s F t e at)
  unfolding parse
  top done e at i = i
  top stop e at i = i
  top step e at i = top_step (length s) at (ltb at (length s)) refl (byte (byte_at s at) nil)
  top (refuse n w) e at i = then_refusal In n w e at
  top (when f t u) e at i = then_if In (f (byte_at s at)) _ _ (top t e at i) (top u e at i)
  top (look w t u) e at i = then_if In (stands s w at) _ _ (top t e at i) (top u e at i)
  top (after r f t u) e at i =
      then_any In (parse s F r e at) _ (λ a o p. then_if In (f (byte_at s p)) _ _ (top t e at i) (top u e at i))
  top (seq t u) e at i =
      then_then In In (parse s F t e at) _ (top t e at i)
      (λ a o p k. then_if In a _ _ (top_behind (length s) o (parse s F u e p) (top u e p k)) k)
  top (many t) e at i = top_repeat (length s) (parse s F t e) (λ p k. top t e p k) F at i
  top (wrap f t) e at i = then_then In In (parse s F t e at) _ (top t e at i) (λ a o p j. j)
  top (said f r t u) e at i = then_then In In (parse s F r e at) _ (top r e at i)
      (λ a o p k. then_if In a _ _ (top_behind (length s) o (pick (f o) (parse s F t e p) (parse s F u e p))
      (then_if In (f o) (parse s F t e p) (parse s F u e p) (top t e p k) (top u e p k))) k)
  top (marked t) e at i = top t at at i
  top (paired t d c u v) e at i = then_then In In (parse s F t e at) _ (top t e at i) (λ a o p k. then_if In a _ _
      (then_then In In (parse s F c e p) _ (top c e p k)
      (λ b h q m. then_then In In (parse s F u e q) _ (top u e q m) (λ b' r z n. then_judged In at q (v o r) _ n))) k)

  -- What was got in the input ends in it.
  pub top_got : (t : Rule) (e at : ℕ) {a : Bool} {o : Forest} {p : ℕ}
      → at ≤ length s
      → parse s F t e at ≡ got a o p
      → p ≤ length s
  top_got t e at i h = subst (Top (length s)) h (top t e at i)

  -- ---- and looks at no place behind the end but the first

  then_top : (x : Answer) (R : Bool → Forest → ℕ → Type 0)
      → Top (length s) x
      → ((a : Bool) (o : Forest) (p : ℕ) → p ≤ length s → R a o p)
      → Then x R
  then_top (got a o p) R h k = k a o p h
  then_top (trouble n a b c d) R h k = tt

  either_both : (b : Bool) (A B : Type 0) → A → B → Either b A B
  either_both true A B x y = x
  either_both false A B x y = y

  sees_loop : (L : ℕ → Type 0) (body : ℕ → Answer)
      → ((at : ℕ) → at ≤ length s → L at)
      → ((at : ℕ) → at ≤ length s → Top (length s) (body at))
      → (f at : ℕ) → at ≤ length s
      → LooksLoop (λ w. Unit {0}) s (suc (length s)) L body f at
  unfolding LooksLoop
  sees_loop L body h k zero at i = tt
  sees_loop L body h k (suc f) at i = (
    h at i,
    then_top (body at) _ (k at i)
        (λ a o p j. either_both a _ _ (either_both (ltb at p) _ _ (sees_loop L body h k f p j) tt) tt),
  )

  -- A reading looks at no place beyond the end but the first.
  pub sees : (t : Rule) (e at : ℕ) → at ≤ length s → Looks (λ w. Unit {0}) s (suc (length s)) F t e at
  unfolding Looks
  sees done e at i = tt
  sees stop e at i = tt
  sees step e at i = omega arith
  sees (refuse n w) e at i = tt
  sees (when f t u) e at i = (omega arith, either_both (f (byte_at s at)) _ _ (sees t e at i) (sees u e at i))
  sees (look w t u) e at i = (omega arith, tt, either_both (stands s w at) _ _ (sees t e at i) (sees u e at i))
  sees (after r f t u) e at i = (
    sees r e at i,
    then_top (parse s F r e at) _ (top r e at i)
        (λ a o p k. (omega arith, either_both (f (byte_at s p)) _ _ (sees t e at i) (sees u e at i))),
  )
  sees (seq t u) e at i =
      (sees t e at i, then_top (parse s F t e at) _ (top t e at i) (λ a o p k. either_both a _ _ (sees u e p k) tt))
  sees (many t) e at i =
      sees_loop (Looks (λ w. Unit {0}) s (suc (length s)) F t e) (parse s F t e) (λ p k. sees t e p k)
      (λ p k. top t e p k) F at i
  sees (wrap f t) e at i = sees t e at i
  sees (said f r t u) e at i = (
    sees r e at i,
    then_top (parse s F r e at) _ (top r e at i)
        (λ a o p k. either_both a _ _ (either_both (f o) _ _ (sees t e p k) (sees u e p k)) tt),
  )
  sees (marked t) e at i = sees t at at i
  sees (paired t d c u v) e at i = (
    sees t e at i,
    then_top (parse s F t e at) _ (top t e at i) (λ a o p k. either_both a _ _
        (sees c e p k, then_top (parse s F c e p) _ (top c e p k) (λ b h q m. sees u e q m)) tt),
  )

-- ---- a loop, by its first turn

-- The first turn of a loop that got u up to q: it stopped, or it went on and the rest was got.
pub data Turn (body : ℕ → Answer) (f at : ℕ) (u : Forest) (q : ℕ) : Type 0 where
  last : body at ≡ got false u q → Turn body f at u q
  goon : (o : Forest) (p : ℕ) (v : Forest)
      → body at ≡ got true o p
      → at < p
      → repeat body f p ≡ got true v q
      → u ≡ o ⋈ v
      → Turn body f at u q

module _ (body : ℕ → Answer) where
  -- A loop that got something: its first turn was the last one, or it went on and the rest was got.
  pub turn : (f at : ℕ) {a : Bool} {u : Forest} {q : ℕ}
      → repeat body (suc f) at ≡ got a u q
      → (a ≡ true) × Turn body f at u q
  unfolding repeat
  turn f at {a} {u} {q} h = go (then_got (body at) _ h)
    where
      more : (o : Forest) (p : ℕ)
          → body at ≡ got true o p
          → (b : Bool) → ltb at p ≡ b
          → pick b (behind o (repeat body f p)) (trouble 0 at at 0 0) ≡ got a u q
          → (a ≡ true) × Turn body f at u q
      more o p e true l k =
          let r = behind_out o (repeat body f p) k in
          let at' : a ≡ true = subst Goes r.1 (goes_repeat body f p) in
          (at', goon o p r.0 e (ltb-true at p l) (r.1 ∙ (λ i. got (at' i) r.0 q)) r.2)
      more o p e false l k = trouble_got k

      go : (a₁ : Bool) × (o₁ : Forest) × (p₁ : ℕ) × (body at ≡ got a₁ o₁ p₁) × (pick a₁
          (pick (ltb at p₁) (behind o₁ (repeat body f p₁)) (trouble 0 at at 0 0)) (got true o₁ p₁) ≡ got a u q)
          → (a ≡ true) × Turn body f at u q
      go (true, o, p, e, k) = more o p e (ltb at p) refl k
      go (false, o, p, e, k) = let g = got_same k in (sym g.0, last (e ∙ (λ i. got false (g.1 i) (g.2 i))))

  -- The first turn goes on.
  pub turn_more : (f at : ℕ) {o : Forest} {p : ℕ}
      → body at ≡ got true o p
      → at < p
      → repeat body (suc f) at ≡ behind o (repeat body f p)
  unfolding repeat
  turn_more f at {o} {p} h l = rw (h, lt-ltb at p l)

  -- The first turn stops.
  pub turn_last : (f at : ℕ) {o : Forest} {p : ℕ} → body at ≡ got false o p → repeat body (suc f) at ≡ got true o p
  unfolding repeat
  turn_last f at h = rw h

  -- The first turn refuses.
  pub turn_no : (f at : ℕ) {n a b c d : ℕ} → body at ≡ trouble n a b c d → repeat body (suc f) at ≡ trouble n a b c d
  unfolding repeat
  turn_no f at h = rw h

  -- The first turn goes on, and passed nothing.
  pub turn_stuck : (f at : ℕ) {o : Forest} {p : ℕ}
      → body at ≡ got true o p
      → ltb at p ≡ false
      → repeat body (suc f) at ≡ trouble 0 at at 0 0
  unfolding repeat
  turn_stuck f at h l = rw (h, l)

  -- the fuel of a loop that ended does not matter
  pub refuel : ((at : ℕ) → Up at (body at))
      → (f f' at : ℕ) {a : Bool} {u : Forest} {q : ℕ} → repeat body f at ≡ got a u q
      → q < at + f'
      → repeat body f' at ≡ got true u q
  unfolding repeat
  refuel ub zero f' at h l = trouble_got h
  refuel ub (suc f) f' at {a} {u} {q} h l = go f' l (turn f at h).1 (λ f'' p v r k. refuel ub f f'' p r k)
    where
      go : (f' : ℕ)
          → q < at + f'
          → Turn body f at u q
          → ((f'' p : ℕ) (v : Forest) → repeat body f p ≡ got true v q → q < p + f'' → repeat body f'' p ≡ got true v q)
          → repeat body f' at ≡ got true u q
      go zero l (last e) ih = let g : at ≤ q = subst (Up at) e (ub at) in absurd (omega arith)
      go zero l (goon o p v e lt r w) ih =
          let g : p ≤ q = subst (Up p) r (up_repeat body ub f p) in
          absurd (omega arith)
      go (suc f'') l (last e) ih = turn_last f'' at e
      go (suc f'') l (goon o p v e lt r w) ih =
          turn_more f'' at e lt ∙ ap (behind o) (ih f'' p v r (omega arith)) ∙ ap (λ (x : Forest). got true x q) (sym w)
