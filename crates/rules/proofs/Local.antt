-- Locality and moving along, for every grammar: a reading depends only on what stands where it has looked.
use mathlib.Core.Path.{◌≡◌, refl, sym, ap, subst, ◌∙◌}
use mathlib.Core.Bool.{Bool, true, false}
use mathlib.Core.List.{List}
use Prim.Native.Nat.{ℕ, zero, suc, ◌+◌, ◌≤◌, ◌<◌}
use native.Mathlib.Omega.{arith}
use native.Mathlib.Nat.{le_refl}
use lib.ListN.{length}
use lib.Dec.{ltb}
use borrow.Author.Tests.{ltb-true, ltb-false, lt-ltb, le-ltb}
use Rattle.rules.specs.Forest.{content, Forest, nil, byte, group, ◌⋈◌}
use Rattle.rules.specs.Rule.{Place, here, mark, from_mark, this_byte, Verdict, fine, differ, Look, Rule, done, stop}
use Rattle.rules.specs.Rule.{step, refuse, when, look, after, seq, many, wrap, said, marked, paired}
use Rattle.rules.specs.Parse.{Answer, got, trouble, pick, and_then, behind, byte_at, stands, refusal, judged}
use Rattle.rules.specs.Parse.{repeat, parse}
pub use Rattle.rules.proofs.Run.{Then, Either}
use Rattle.rules.proofs.Run.{then_if, then_then, then_any, then_behind, then_refusal, then_judged}

-- ---- a reading goes forward

-- What was got ends at `at` at least.
abbrev pub From : ℕ → Bool → Forest → ℕ → Type 0
From at a o p = at ≤ p

-- So does an answer, if it got something.
abbrev pub Up : ℕ → Answer → Type 0
Up at x = Then x (From at)

-- With a forest in front of it.
pub up_behind : (at p : ℕ) (u : Forest) (x : Answer) → at ≤ p → Up p x → Up at (behind u x)
up_behind at p u x h k = then_behind (From p) (From at) u x k (λ a o q l. omega arith)

-- From an earlier place on.
pub up_from : (at p : ℕ) (x : Answer) → at ≤ p → Up p x → Up at x
up_from at p (got a o q) h k = omega arith
up_from at p (trouble n a b c d) h k = tt

-- A loop whose turns go forward.
pub up_repeat : (body : ℕ → Answer) → ((at : ℕ) → Up at (body at)) → (f at : ℕ) → Up at (repeat body f at)
unfolding repeat
up_repeat body h zero at = tt
up_repeat body h (suc f) at = then_then (From at) (From at) (body at) _ (h at)
    (λ a o p l. then_if (From at) a _ _
    (then_if (From at) (ltb at p) _ _ (up_behind at p o (repeat body f p) l (up_repeat body h f p)) tt) l)

-- No rule goes back.
pub up : (s : List ℕ) (F : ℕ) (t : Rule) (e at : ℕ) → Up at (parse s F t e at)
unfolding parse
up s F done e at = le_refl _
up s F stop e at = le_refl _
up s F step e at = then_if (From at) (ltb at (length s)) _ _ (omega arith) tt
up s F (refuse n w) e at = then_refusal (From at) n w e at
up s F (when f t u) e at = then_if (From at) (f (byte_at s at)) _ _ (up s F t e at) (up s F u e at)
up s F (look w t u) e at = then_if (From at) (stands s w at) _ _ (up s F t e at) (up s F u e at)
up s F (after r f t u) e at =
    then_any (From at) (parse s F r e at) _
    (λ a o p. then_if (From at) (f (byte_at s p)) _ _ (up s F t e at) (up s F u e at))
up s F (seq t u) e at =
    then_then (From at) (From at) (parse s F t e at) _ (up s F t e at)
    (λ a o p l. then_if (From at) a _ _ (up_behind at p o (parse s F u e p) l (up s F u e p)) l)
up s F (many t) e at = up_repeat (parse s F t e) (λ p. up s F t e p) F at
up s F (wrap f t) e at = then_then (From at) (From at) (parse s F t e at) _ (up s F t e at) (λ a o p l. l)
up s F (said f r t u) e at = then_then (From at) (From at) (parse s F r e at) _ (up s F r e at)
    (λ a o p l. then_if (From at) a _ _ (up_behind at p o (pick (f o) (parse s F t e p) (parse s F u e p)) l
    (then_if (From p) (f o) (parse s F t e p) (parse s F u e p) (up s F t e p) (up s F u e p))) l)
up s F (marked t) e at = up s F t at at
up s F (paired t d c u v) e at =
    then_then (From at) (From at) (parse s F t e at) _ (up s F t e at) (λ a o p l. then_if (From at) a _ _
    (then_then (From p) (From at) (parse s F c e p) _ (up s F c e p) (λ b h q m. then_then (From q) (From at)
    (parse s F u e q) _ (up s F u e q) (λ b' r z n. then_judged (From at) at q (v o r) _ (omega arith)))) l)

-- What was got does not end before it began.
pub up_got : (s : List ℕ) (F : ℕ) (t : Rule) (e at : ℕ) {a : Bool} {o : Forest} {p : ℕ}
    → parse s F t e at ≡ got a o p
    → at ≤ p
up_got s F t e at h = subst (Up at) h (up s F t e at)

-- ---- how far a reading has looked: at no place from hi on

-- P: what a `look` may ask. To look at a place is to see its byte, and which of these hold there.
module _ (P : Look → Type 0) (s : List ℕ) (hi : ℕ) where
  -- The turns of a loop, each of which looks so.
  unfoldable pub LooksLoop : (ℕ → Type 0) → (ℕ → Answer) → ℕ → ℕ → Type 0
  LooksLoop L body zero at = Unit {0}
  LooksLoop L body (suc f) at =
      L at × Then (body at) (λ a o p. Either a (Either (ltb at p) (LooksLoop L body f p) (Unit {0})) (Unit {0}))

  -- What the rule has looked at, from `at` on, lies below hi.
  unfoldable pub Looks : (F : ℕ) → Rule → (mark at : ℕ) → Type 0
  Looks F done e at = Unit {0}
  Looks F stop e at = Unit {0}
  Looks F step e at = at < hi
  Looks F (refuse n w) e at = Unit {0}
  Looks F (when f t u) e at = (at < hi) × Either (f (byte_at s at)) (Looks F t e at) (Looks F u e at)
  Looks F (look w t u) e at = (at < hi) × P w × Either (stands s w at) (Looks F t e at) (Looks F u e at)
  Looks F (after r f t u) e at =
      Looks F r e at
      × Then (parse s F r e at) (λ a o p. (p < hi) × Either (f (byte_at s p)) (Looks F t e at) (Looks F u e at))
  Looks F (seq t u) e at = Looks F t e at × Then (parse s F t e at) (λ a o p. Either a (Looks F u e p) (Unit {0}))
  Looks F (many t) e at = LooksLoop (Looks F t e) (parse s F t e) F at
  Looks F (wrap f t) e at = Looks F t e at
  Looks F (said f r t u) e at =
      Looks F r e at
      × Then (parse s F r e at) (λ a o p. Either a (Either (f o) (Looks F t e p) (Looks F u e p)) (Unit {0}))
  Looks F (marked t) e at = Looks F t at at
  Looks F (paired t d c u v) e at =
      Looks F t e at × Then (parse s F t e at)
      (λ a o p. Either a (Looks F c e p × Then (parse s F c e p) (λ b h q. Looks F u e q)) (Unit {0}))

-- Two places stand in the same order when both are moved.
pub ltb_twin : (k k' a b a' b' : ℕ) → a + k' ≡ a' + k → b + k' ≡ b' + k → ltb a b ≡ ltb a' b'
ltb_twin k k' a b a' b' p q = go (ltb a b) refl
  where
    go : (t : Bool) → ltb a b ≡ t → ltb a b ≡ ltb a' b'
    go true e = let h : a < b = ltb-true a b e in e ∙ sym (lt-ltb a' b' (omega arith))
    go false e = let h : b ≤ a = ltb-false a b e in e ∙ sym (le-ltb a' b' (omega arith))

-- What two inputs show at two places: the byte, whether the input goes on, and what of P holds there.
abbrev pub Seen : (P : Look → Type 0) (s s' : List ℕ) (p p' : ℕ) → Type 0
Seen P s s' p p' =
    (byte_at s p ≡ byte_at s' p') × (ltb p (length s) ≡ ltb p' (length s'))
    × ((w : Look) → P w → stands s w p ≡ stands s' w p')

-- Two inputs; the place p of the first is the place p' of the second where p + k' ≡ p' + k.
-- The same stands in both from lo up to hi.
module _ (P : Look → Type 0) (s s' : List ℕ) (k k' lo hi lim : ℕ) (hl : hi ≤ lim)
    (agree : (p p' : ℕ) → p + k' ≡ p' + k → lo ≤ p → p < hi → Seen P s s' p p') where
  -- what the second answers, if the first reads something that ends before lim: the same, moved
  abbrev pub Follow : Answer → Answer → Type 0
  Follow (got a o p) x' = p < lim → (q : ℕ) × (x' ≡ got a o q) × (p + k' ≡ q + k)
  Follow (trouble n a b c d) x' = Unit {0}

  follow_if : (b b' : Bool) (x y x' y' : Answer)
      → b ≡ b'
      → (A B : Type 0) → Either b A B
      → (A → Follow x x')
      → (B → Follow y y')
      → Follow (pick b x y) (pick b' x' y')
  follow_if true b' x y x' y' e A B l h g = subst (λ (c : Bool). Follow x (pick c x' y')) e (h l)
  follow_if false b' x y x' y' e A B l h g = subst (λ (c : Bool). Follow y (pick c x' y')) e (g l)

  follow_behind : (u : Forest) (x x' : Answer) → Follow x x' → Follow (behind u x) (behind u x')
  follow_behind u (got a o p) x' h = λ l. let y = h l in (y.0, ap (behind u) y.1, y.2)
  follow_behind u (trouble n a b c d) x' h = tt

  follow_then : (at : ℕ) (x x' : Answer) (f f' : Bool → Forest → ℕ → Answer) (P : Bool → Forest → ℕ → Type 0)
      → Follow x x'
      → Up at x
      → Then x P
      → ((a : Bool) (o : Forest) (p : ℕ) → Up p (f a o p))
      → ((a : Bool) (o : Forest) (p q : ℕ) → at ≤ p → p + k' ≡ q + k → P a o p → Follow (f a o p) (f' a o q))
      → Follow (and_then x f) (and_then x' f')
  follow_then at (got a o p) x' f f' P fx ux th uf ff = go (f a o p) (uf a o p) (λ q tw. ff a o p q ux tw th)
    where
      go : (y : Answer) → Up p y → ((q : ℕ) → p + k' ≡ q + k → Follow y (f' a o q)) → Follow y (and_then x' f')
      go (got b r z) uy fy =
          λ l. let X = fx (omega arith) in
          let Y = fy X.0 X.2 l in
          (Y.0, rw X.1 Y.1, Y.2)
      go (trouble n c d e g) uy fy = tt
  follow_then at (trouble n a b c d) x' f f' P fx ux th uf ff = tt

  -- a reading that only looks
  follow_after : (at : ℕ) (x x' : Answer) (f f' : Bool → Forest → ℕ → Answer) (P : Bool → Forest → ℕ → Type 0)
      → Follow x x'
      → Up at x
      → Then x (λ a o p. (p < hi) × P a o p)
      → ((a : Bool) (o : Forest) (p q : ℕ) → at ≤ p → p + k' ≡ q + k → p < hi → P a o p → Follow (f a o p) (f' a o q))
      → Follow (and_then x f) (and_then x' f')
  follow_after at (got a o p) x' f f' P fx ux th ff =
      let h : p < hi = th.0 in
      let X : (q : ℕ) × (x' ≡ got a o q) × (p + k' ≡ q + k) = fx (omega arith) in
      subst (λ (y : Answer). Follow (f a o p) (and_then y f')) (sym X.1) (ff a o p X.0 ux X.2 th.0 th.1)
  follow_after at (trouble n a b c d) x' f f' P fx ux th ff = tt

  follow_none : (at : ℕ) (x x' : Answer) → Up at x → lim ≤ at → Follow x x'
  follow_none at (got a o p) x' h le = λ l. absurd (omega arith)
  follow_none at (trouble n a b c d) x' h le = tt

  follow_refusal : (n : ℕ) (w : Place) (e at : ℕ) (x' : Answer) → Follow (refusal n w e at) x'
  follow_refusal n here e at x' = tt
  follow_refusal n mark e at x' = tt
  follow_refusal n from_mark e at x' = tt
  follow_refusal n this_byte e at x' = tt

  follow_judged : (at q at' q' : ℕ) (v : Verdict) (o : Forest) (z z' : ℕ)
      → z + k' ≡ z' + k
      → Follow (judged at q v (got true o z)) (judged at' q' v (got true o z'))
  follow_judged at q at' q' fine o z z' tz = λ lt. (z', refl, tz)
  follow_judged at q at' q' (differ n a b c d) o z z' tz = tt

  follow_turn : (at at' p q : ℕ) (o : Forest) (x x' : Answer) (M : Type 0)
      → at + k' ≡ at' + k
      → p + k' ≡ q + k
      → (b : Bool) → ltb at p ≡ b
      → Either b M (Unit {0})
      → (at < p → M → Follow x x')
      → Follow (pick b (behind o x) (trouble 0 at at 0 0)) (pick (ltb at' q) (behind o x') (trouble 0 at' at' 0 0))
  follow_turn at at' p q o x x' M tw tq false e m h = tt
  follow_turn at at' p q o x x' M tw tq true e m h =
      subst (λ (c : Bool). Follow (behind o x) (pick c (behind o x') (trouble 0 at' at' 0 0)))
      (sym e ∙ ltb_twin k k' at p at' q tw tq) (follow_behind o x x' (h (ltb-true at p e) m))

  follow_repeat : (F' : ℕ) (L : ℕ → Type 0) (body body' : ℕ → Answer)
      → ((at : ℕ) → Up at (body at))
      → ((at at' : ℕ) → lim ≤ at + F' → at + k' ≡ at' + k → lo ≤ at → L at → Follow (body at) (body' at'))
      → (f f' at at' : ℕ) → lim ≤ at + f'
      → lim ≤ at + F'
      → at + k' ≡ at' + k
      → lo ≤ at
      → LooksLoop P s hi L body f at
      → Follow (repeat body f at) (repeat body' f' at')
  unfolding repeat LooksLoop
  follow_repeat F' L body body' ub fb zero f' at at' le le' tw lw l = tt
  follow_repeat F' L body body' ub fb (suc f) zero at at' le le' tw lw l =
      follow_none at (repeat body (suc f) at) (repeat body' zero at') (up_repeat body ub (suc f) at) (omega arith)
  follow_repeat F' L body body' ub fb (suc f) (suc f') at at' le le' tw lw l =
      follow_then at (body at) (body' at') _ _ (λ a o p. Either a (Either (ltb at p) (LooksLoop P s hi L body f p)
      (Unit {0})) (Unit {0})) (fb at at' le' tw lw l.0) (ub at) l.1
      (λ a o p. then_if (From p) a _ _ (then_if (From p) (ltb at p) _ _
      (up_behind p p o (repeat body f p) (le_refl _) (up_repeat body ub f p)) tt) (le_refl _))
      (λ a o p q ge tq m. follow_if a a _ _ _ _ refl (Either (ltb at p) (LooksLoop P s hi L body f p) (Unit {0}))
      (Unit {0}) m
      (λ m'. follow_turn at at' p q o (repeat body f p) (repeat body' f' q) (LooksLoop P s hi L body f p) tw tq
      (ltb at p) refl m'
      (λ lt m''. follow_repeat F' L body body' ub fb f f' p q (omega arith) (omega arith) tq (omega arith) m''))
      (λ _ lt. (q, refl, tq)))

  any : (x : Answer) → Then x (λ a o p. Unit {0})
  any (got a o p) = tt
  any (trouble n a b c d) = tt

  module _ (F F' : ℕ) where
    -- The law of locality and of moving along, for every grammar.
    pub local : (t : Rule) (e e' at at' : ℕ)
        → lim ≤ at + F'
        → at + k' ≡ at' + k
        → lo ≤ at
        → Looks P s hi F t e at
        → Follow (parse s F t e at) (parse s' F' t e' at')
    unfolding parse Looks
    local done e e' at at' le tw lw l = λ lt. (at', refl, tw)
    local stop e e' at at' le tw lw l = λ lt. (at', refl, tw)
    local step e e' at at' le tw lw l =
        let g = agree at at' tw lw l in
        stepped (ltb at (length s)) (ltb at' (length s')) g.1 (byte_at s at) (byte_at s' at') g.0
      where
        stepped : (b b' : Bool)
            → b ≡ b'
            → (c c' : ℕ) → c ≡ c'
            → Follow (pick b (got true (byte c nil) (at + 1)) (trouble 4 at at 0 0))
            (pick b' (got true (byte c' nil) (at' + 1)) (trouble 4 at' at' 0 0))
        stepped true b' e c c' f =
            λ lt. (
              at' + 1,
              (λ i. pick (sym e i) (got true (byte (sym f i) nil) (at' + 1)) (trouble 4 at' at' 0 0)),
              omega arith,
            )
        stepped false b' e c c' f = tt
    local (refuse n w) e e' at at' le tw lw l = follow_refusal n w e at (refusal n w e' at')
    local (when f t u) e e' at at' le tw lw l =
        follow_if (f (byte_at s at)) (f (byte_at s' at')) (parse s F t e at) (parse s F u e at) (parse s' F' t e' at')
        (parse s' F' u e' at') (ap f (agree at at' tw lw l.0).0) (Looks P s hi F t e at) (Looks P s hi F u e at)
        l.1
        (λ m. local t e e' at at' le tw lw m) (λ m. local u e e' at at' le tw lw m)
    local (look w t u) e e' at at' le tw lw l =
        follow_if (stands s w at) (stands s' w at') (parse s F t e at) (parse s F u e at) (parse s' F' t e' at')
        (parse s' F' u e' at') ((agree at at' tw lw l.0).2 w l.1) (Looks P s hi F t e at) (Looks P s hi F u e at)
        l.2
        (λ m. local t e e' at at' le tw lw m) (λ m. local u e e' at at' le tw lw m)
    local (after r f t u) e e' at at' le tw lw l =
        follow_after at (parse s F r e at) (parse s' F' r e' at') _ _ (λ a o p. Either (f (byte_at s p))
        (Looks P s hi F t e at) (Looks P s hi F u e at)) (local r e e' at at' le tw lw l.0) (up s F r e at) l.1
        (λ a o p q ge tq h m. follow_if (f (byte_at s p)) (f (byte_at s' q)) (parse s F t e at) (parse s F u e at)
        (parse s' F' t e' at') (parse s' F' u e' at') (ap f (agree p q tq (omega arith) h).0) (Looks P s hi F t e at)
        (Looks P s hi F u e at) m
        (λ m'. local t e e' at at' le tw lw m') (λ m'. local u e e' at at' le tw lw m'))
    local (seq t u) e e' at at' le tw lw l =
        follow_then at (parse s F t e at) (parse s' F' t e' at') _ _ (λ a o p. Either a (Looks P s hi F u e p)
        (Unit {0})) (local t e e' at at' le tw lw l.0) (up s F t e at) l.1
        (λ a o p. then_if (From p) a _ _ (up_behind p p o (parse s F u e p) (le_refl _) (up s F u e p)) (le_refl _))
        (λ a o p q ge tq m. follow_if a a (behind o (parse s F u e p)) (got false o p) (behind o (parse s' F' u e' q))
        (got false o q) refl (Looks P s hi F u e p) (Unit {0}) m
        (λ m'. follow_behind o (parse s F u e p) (parse s' F' u e' q)
        (local u e e' p q (omega arith) tq (omega arith) m')) (λ _ lt. (q, refl, tq)))
    local (many t) e e' at at' le tw lw l =
        follow_repeat F' (Looks P s hi F t e) (parse s F t e) (parse s' F' t e') (λ p. up s F t e p)
        (λ p p' a b c m. local t e e' p p' a b c m) F F' at at' le le tw lw l
    local (wrap f t) e e' at at' le tw lw l =
        follow_then at (parse s F t e at) (parse s' F' t e' at') _ _ (λ a o p. Unit {0}) (local t e e' at at' le tw lw
        l) (up s F t e at) (any (parse s F t e at)) (λ a o p. le_refl _) (λ a o p q ge tq m lt. (q, refl, tq))
    local (said f r t u) e e' at at' le tw lw l =
        follow_then at (parse s F r e at) (parse s' F' r e' at') _ _
        (λ a o p. Either a (Either (f o) (Looks P s hi F t e p) (Looks P s hi F u e p)) (Unit {0}))
        (local r e e' at at' le tw lw l.0) (up s F r e at) l.1
        (λ a o p. then_if (From p) a _ _ (up_behind p p o (pick (f o) (parse s F t e p) (parse s F u e p)) (le_refl _)
        (then_if (From p) (f o) (parse s F t e p) (parse s F u e p) (up s F t e p) (up s F u e p))) (le_refl _))
        (λ a o p q ge tq m. follow_if a a (behind o (pick (f o) (parse s F t e p) (parse s F u e p))) (got false o p)
        (behind o (pick (f o) (parse s' F' t e' q) (parse s' F' u e' q))) (got false o q) refl
        (Either (f o) (Looks P s hi F t e p) (Looks P s hi F u e p)) (Unit {0}) m
        (λ m'. follow_behind o (pick (f o) (parse s F t e p) (parse s F u e p))
        (pick (f o) (parse s' F' t e' q) (parse s' F' u e' q))
        (follow_if (f o) (f o) (parse s F t e p) (parse s F u e p) (parse s' F' t e' q) (parse s' F' u e' q) refl
        (Looks P s hi F t e p) (Looks P s hi F u e p) m'
        (λ m''. local t e e' p q (omega arith) tq (omega arith) m'')
        (λ m''. local u e e' p q (omega arith) tq (omega arith) m'')))
        (λ _ lt. (q, refl, tq)))
    local (marked t) e e' at at' le tw lw l = local t at at' at at' le tw lw l
    local (paired t d c u v) e e' at at' le tw lw l =
        follow_then at (parse s F t e at) (parse s' F' t e' at') _ _
        (λ a o p. Either a (Looks P s hi F c e p × Then (parse s F c e p) (λ b h q. Looks P s hi F u e q)) (Unit {0}))
        (local t e e' at at' le tw lw l.0) (up s F t e at) l.1
        (λ a o p. then_if (From p) a _ _ (then_then (From p) (From p) (parse s F c e p) _ (up s F c e p)
        (λ b h q m. then_then (From q) (From p) (parse s F u e q) _ (up s F u e q)
        (λ b' r z n. then_judged (From p) at q (v o r) _ (omega arith)))) (le_refl _))
        (λ a o p q ge tq m. follow_if a a _ _ _ _ refl
        (Looks P s hi F c e p × Then (parse s F c e p) (λ b h q. Looks P s hi F u e q)) (Unit {0}) m
        (λ m'. follow_then p (parse s F c e p) (parse s' F' c e' q) _ _ (λ b h q. Looks P s hi F u e q)
        (local c e e' p q (omega arith) tq (omega arith) m'.0) (up s F c e p) m'.1
        (λ b h x. last o x h)
        (λ b h x y gx tx mx. follow_then x (parse s F u e x) (parse s' F' u e' y) _ _ (λ _ _ _. Unit {0})
        (local u e e' x y (omega arith) tx (omega arith) mx) (up s F u e x) (any (parse s F u e x))
        (λ b' r z. then_judged (From z) at x (v o r) _ (le_refl _))
        (λ b' r z z' gz tz _. follow_judged at x at' y (v o r) (o ⋈ group (content d) h r) z z' tz)))
        (λ _ lt. (q, refl, tq)))
      where
        last : (o : Forest) (q : ℕ) (h : Forest)
            → Up q (and_then (parse s F u e q) (λ b' r z. judged at q (v o r) (got true (o ⋈ group (content d) h r) z)))
        last o q h =
            then_then (From q) (From q) (parse s F u e q) _ (up s F u e q)
            (λ b' r z n. then_judged (From q) at q (v o r) _ n)

    -- The same, for a reading that got something.
    pub local_got : (t : Rule) (e e' at at' : ℕ)
        → lim ≤ at + F'
        → at + k' ≡ at' + k
        → lo ≤ at
        → Looks P s hi F t e at
        → {a : Bool} {o : Forest} {p : ℕ} → parse s F t e at ≡ got a o p
        → p < lim
        → (q : ℕ) × (parse s' F' t e' at' ≡ got a o q) × (p + k' ≡ q + k)
    local_got t e e' at at' le tw lw l h lt =
        subst (λ (x : Answer). Follow x (parse s' F' t e' at')) h (local t e e' at at' le tw lw l) lt
