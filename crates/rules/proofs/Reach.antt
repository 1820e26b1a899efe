-- A rule looks no further than its flow says.
use mathlib.Core.Path.{◌≡◌, refl, sym, ap, subst, subst₂, ◌∙◌}
use mathlib.Core.Bool.{Bool, true, false}
use mathlib.Core.List.{List}
use Prim.Native.Nat.{ℕ, zero, suc, ◌+◌, ◌≤◌, ◌<◌}
use native.Mathlib.Omega.{arith}
use lib.ListN.{length}
use lib.Dec.{ltb}
use Rattle.rules.specs.Forest.{Label, Forest, nil, byte}
use Rattle.rules.specs.Rule.{Test, Verdict, Rule, step, seq}
use Rattle.rules.specs.Parse.{Answer, got, trouble, pick, behind, byte_at, stands, repeat, parse}
use Rattle.rules.proofs.Run.{goes, Then, Either, on, got_goes, goes_repeat}
use Rattle.rules.proofs.Got.{trouble_got, false_true, refusal_got, got_same, then_got, behind_got, then_is}
use Rattle.rules.proofs.Got.{going, SeqOut, two, one, seq_read, SaidOut, so, otherwise, stopped, said_read}
use Rattle.rules.proofs.Got.{wrap_read, PairOut, lone, full, pair_out}
use Rattle.rules.proofs.Mark.{any_mark}
use Rattle.rules.proofs.Local.{LooksLoop, Looks}
use Rattle.rules.proofs.Agree.{Lacks}
use Rattle.rules.proofs.Flow.{short_lacks, Mode, shut, tight, near, pend, ◌⊑◌, same, shut_tight, shut_near}
use Rattle.rules.proofs.Flow.{shut_pend, tight_near, tight_pend, near_pend, Seen, seen_near, seen_pend, Flow}
use Rattle.rules.proofs.Flow.{f_weak, f_done, f_stop, f_step, f_refuse, f_when, f_expect, f_look, f_after}
use Rattle.rules.proofs.Flow.{f_seq, f_many, f_wrap, f_said, f_marked, f_paired, f_pass, f_last}

module _ (C : ℕ → Rule) (Q : Test) (R : Label → Forest → Type 0) (s : List ℕ) (F : ℕ) where
  -- What was looked at, by its mode at p, lies below hi.
  abbrev pub Bound : Mode → ℕ → ℕ → Type 0
  Bound shut p hi = p ≤ hi
  Bound tight p hi = p ≤ hi
  Bound near p hi = p < hi
  Bound (pend r) p hi =
      (p < hi)
      × ((e : ℕ) (o : Forest) (q : ℕ) → parse s F r e p ≡ got true o q → (q < hi) × Looks (Lacks Q) s hi F r e p)

  -- A mode that looks further asks for more.
  pub bound_weak : {m n : Mode} (p hi : ℕ) → m ⊑ n → Bound n p hi → Bound m p hi
  bound_weak p hi same b = b
  bound_weak p hi shut_tight b = b
  bound_weak p hi shut_near b = omega arith
  bound_weak p hi shut_pend b = let h = b.0 in omega arith
  bound_weak p hi tight_near b = omega arith
  bound_weak p hi tight_pend b = let h = b.0 in omega arith
  bound_weak p hi near_pend b = b.0

  -- What is bound at a place is bound below it.
  pub bound_above : (m : Mode) (p hi : ℕ) → Bound m p hi → p ≤ hi
  bound_above shut p hi b = b
  bound_above tight p hi b = b
  bound_above near p hi b = omega arith
  bound_above (pend r) p hi b = let h = b.0 in omega arith

  -- A byte that was seen lies below.
  pub bound_seen : {m : Mode} (p hi : ℕ) → Seen m → Bound m p hi → p < hi
  bound_seen p hi seen_near b = b
  bound_seen p hi seen_pend b = b.0

  weak_pick : {g g' k k' : Mode} (a : Bool) (p hi : ℕ)
      → g ⊑ g'
      → k ⊑ k'
      → Bound (pick a g' k') p hi
      → Bound (pick a g k) p hi
  weak_pick true p hi x y b = bound_weak p hi x b
  weak_pick false p hi x y b = bound_weak p hi y b

  -- The claim: what is bound after the rule is bound before it, and so is what the rule looked at.
  abbrev pub Claim : Mode → Rule → (e at : ℕ) → Mode → (p hi : ℕ) → Type 0
  Claim i t e at m p hi = Bound m p hi → Looks (Lacks Q) s hi F t e at × Bound i at hi

  -- A loop from its first turn on.
  loop_reach : (m k : Mode) (hi p : ℕ) (L : ℕ → Type 0) (body : ℕ → Answer)
      → ((at : ℕ) (o : Forest) (q : ℕ) → body at ≡ got true o q → Bound m q hi → L at × Bound m at hi)
      → ((at : ℕ) (o : Forest) → body at ≡ got false o p → Bound k p hi → L at × Bound m at hi)
      → (f at : ℕ) {a : Bool} {o : Forest} → repeat body f at ≡ got a o p
      → Bound k p hi
      → LooksLoop (Lacks Q) s hi L body f at × Bound m at hi
  unfolding repeat LooksLoop
  loop_reach m k hi p L body go la zero at e b = trouble_got e
  loop_reach m k hi p L body go la (suc f) at {a} {o} e b =
      turn (then_got (body at) _ e) (λ q o' r. loop_reach m k hi p L body go la f q r b)
    where
      Rest : Bool → Forest → ℕ → Type 0
      Rest a₁ o₁ p₁ = Either a₁ (Either (ltb at p₁) (LooksLoop (Lacks Q) s hi L body f p₁) (Unit {0})) (Unit {0})

      more : (o₁ : Forest) (p₁ : ℕ)
          → body at ≡ got true o₁ p₁
          → (c : Bool) → ltb at p₁ ≡ c
          → pick c (behind o₁ (repeat body f p₁)) (trouble 0 at at 0 0) ≡ got a o p
          → ((q : ℕ) (o' : Forest) → repeat body f q ≡ got a o' p → LooksLoop (Lacks Q) s hi L body f q × Bound m q hi)
          → (L at × Then (body at) Rest) × Bound m at hi
      more o₁ p₁ h true l k ih =
          let g = behind_got o₁ (repeat body f p₁) k in
          let x = ih p₁ g.0 g.1 in
          let y = go at o₁ p₁ h x.1 in (
            (
              y.0,
              then_is Rest h
                  (subst (λ (c : Bool). Either c (LooksLoop (Lacks Q) s hi L body f p₁) (Unit {0})) (sym l) x.0),
            ),
            y.1,
          )
      more o₁ p₁ h false l k ih = trouble_got k

      turn : (a₁ : Bool) × (o₁ : Forest) × (p₁ : ℕ) × (body at ≡ got a₁ o₁ p₁) × (pick a₁
          (pick (ltb at p₁) (behind o₁ (repeat body f p₁)) (trouble 0 at at 0 0)) (got true o₁ p₁) ≡ got a o p)
          → ((q : ℕ) (o' : Forest) → repeat body f q ≡ got a o' p → LooksLoop (Lacks Q) s hi L body f q × Bound m q hi)
          → (L at × Then (body at) Rest) × Bound m at hi
      turn (true, o₁, p₁, h, k) ih = more o₁ p₁ h (ltb at p₁) refl k ih
      turn (false, o₁, p₁, h, k) ih =
          let q : p₁ ≡ p = (got_same k).2 in
          let y = la at o₁ (h ∙ (λ i. got false o₁ (q i))) b in
          ((y.0, then_is Rest h tt), y.1)

  -- One of two, by a test.
  fork : {X : Type 0} (c : Bool) (x y : Answer) (A B : Type 0) {a : Bool} {o : Forest} {p : ℕ}
      → pick c x y ≡ got a o p
      → (x ≡ got a o p → A × X)
      → (y ≡ got a o p → B × X)
      → Either c A B × X
  fork true x y A B h f g = f h
  fork false x y A B h f g = g h

  -- A byte that was got is one place wide.
  pub step_got : (e at : ℕ) {a : Bool} {o : Forest} {p : ℕ}
      → parse s F step e at ≡ got a o p
      → (a ≡ true) × (p ≡ at + 1)
  unfolding parse
  step_got e at {a} {o} {p} h = go (ltb at (length s)) h
    where
      go : (c : Bool)
          → pick c (got true (byte (byte_at s at) nil) (at + 1)) (trouble 4 at at 0 0) ≡ got a o p
          → (a ≡ true) × (p ≡ at + 1)
      go true h = let x = got_same h in (sym x.0, sym x.2)
      go false h = trouble_got h

  -- By the same bit.
  pub bound_is : (g k : Mode) {a b : Bool} (p hi : ℕ) → a ≡ b → Bound (pick a g k) p hi → Bound (pick b g k) p hi
  bound_is g k p hi e x = subst (λ (c : Bool). Bound (pick c g k) p hi) e x

  seq_reach : (i m : Mode) (g k : Mode) (t u : Rule) (e at : ℕ) (a : Bool) (o : Forest) (p hi : ℕ)
      → SeqOut (parse s F t e at) (parse s F u e) a o p
      → Bound (pick a g k) p hi
      → ((b : Bool) (v : Forest) (q : ℕ) → parse s F t e at ≡ got b v q → Claim i t e at (pick b m k) q hi)
      → ((q : ℕ) (v : Forest) → parse s F u e q ≡ got a v p → Claim m u e q (pick a g k) p hi)
      → (Looks (Lacks Q) s hi F t e at
      × Then (parse s F t e at) (λ a o p. Either a (Looks (Lacks Q) s hi F u e p) (Unit {0}))) × Bound i at hi
  seq_reach i m g k t u e at a o p hi (two o₁ p₁ o₂ x y w) b ht hu =
      let Y = hu p₁ o₂ y b in
      let X = ht true o₁ p₁ x Y.1 in
      ((X.0, then_is (λ a o p. Either a (Looks (Lacks Q) s hi F u e p) (Unit {0})) x Y.0), X.1)
  seq_reach i m g k t u e at a o p hi (one x ae) b ht hu =
      let X = ht false o p x (bound_is g k p hi ae b) in
      ((X.0, then_is (λ a o p. Either a (Looks (Lacks Q) s hi F u e p) (Unit {0})) x tt), X.1)

  said_reach : (i m : Mode) (g k : Mode) (f : Forest → Bool) (r t u : Rule) (e at : ℕ) (a : Bool) (o : Forest)
      (p hi : ℕ)
      → SaidOut f (parse s F r e at) (parse s F t e) (parse s F u e) a o p
      → Bound (pick a g k) p hi
      → ((b : Bool) (v : Forest) (q : ℕ) → parse s F r e at ≡ got b v q → Claim i r e at (pick b m k) q hi)
      → ((q : ℕ) (v : Forest) → parse s F t e q ≡ got a v p → Claim m t e q (pick a g k) p hi)
      → ((q : ℕ) (v : Forest) → parse s F u e q ≡ got a v p → Claim m u e q (pick a g k) p hi)
      → (Looks (Lacks Q) s hi F r e at × Then (parse s F r e at) (λ a o p. Either a
      (Either (f o) (Looks (Lacks Q) s hi F t e p) (Looks (Lacks Q) s hi F u e p)) (Unit {0}))) × Bound i at hi
  said_reach i m g k f r t u e at a o p hi (so o₁ p₁ o₂ x c y w) b hr ht hu =
      let Y = ht p₁ o₂ y b in
      let X = hr true o₁ p₁ x Y.1 in (
        (
          X.0,
          then_is (λ a o p. Either a (Either (f o) (Looks (Lacks Q) s hi F t e p) (Looks (Lacks Q) s hi F u e p))
              (Unit {0})) x
              (subst (λ (z : Bool). Either z (Looks (Lacks Q) s hi F t e p₁) (Looks (Lacks Q) s hi F u e p₁))
              (sym c) Y.0),
        ),
        X.1,
      )
  said_reach i m g k f r t u e at a o p hi (otherwise o₁ p₁ o₂ x c y w) b hr ht hu =
      let Y = hu p₁ o₂ y b in
      let X = hr true o₁ p₁ x Y.1 in (
        (
          X.0,
          then_is (λ a o p. Either a (Either (f o) (Looks (Lacks Q) s hi F t e p) (Looks (Lacks Q) s hi F u e p))
              (Unit {0})) x
              (subst (λ (z : Bool). Either z (Looks (Lacks Q) s hi F t e p₁) (Looks (Lacks Q) s hi F u e p₁))
              (sym c) Y.0),
        ),
        X.1,
      )
  said_reach i m g k f r t u e at a o p hi (stopped x ae) b hr ht hu =
      let X = hr false o p x (bound_is g k p hi ae b) in (
        (
          X.0,
          then_is (λ a o p. Either a (Either (f o) (Looks (Lacks Q) s hi F t e p) (Looks (Lacks Q) s hi F u e p))
              (Unit {0})) x tt,
        ),
        X.1,
      )

  pair_reach : (i m k : Mode) (d : ℕ) (t c u : Rule) (v : Forest → Forest → Verdict) (e at : ℕ) (a : Bool) (o : Forest)
      (p hi : ℕ)
      → goes c ≡ true
      → PairOut s F d t c u v e at a o p
      → p ≤ hi
      → ((b : Bool) (w : Forest) (q : ℕ) → parse s F t e at ≡ got b w q → q ≤ hi
      → Looks (Lacks Q) s hi F t e at × Bound i at hi)
      → ((q : ℕ) (w : Forest) (z : ℕ) → parse s F c e q ≡ got true w z → Claim shut c e q m z hi)
      → ((q : ℕ) (b : Bool) (w : Forest) → parse s F u e q ≡ got b w p → p ≤ hi
      → Looks (Lacks Q) s hi F u e q × Bound m q hi)
      → (Looks (Lacks Q) s hi F t e at × Then (parse s F t e at) (λ a o p. Either a (Looks (Lacks Q) s hi F c e p
      × Then (parse s F c e p) (λ b h q. Looks (Lacks Q) s hi F u e q)) (Unit {0}))) × Bound i at hi
  pair_reach i m k d t c u v e at a o p hi gc (lone x ae) b ht hc hu =
      let X = ht false o p x b in (
        (
          X.0,
          then_is (λ a o p. Either a (Looks (Lacks Q) s hi F c e p
              × Then (parse s F c e p) (λ b h q. Looks (Lacks Q) s hi F u e q)) (Unit {0})) x tt,
        ),
        X.1,
      )
  pair_reach i m k d t c u v e at a o p hi gc (full o₁ p₁ b₁ h p₂ b₂ r x y z nm w ae) b ht hc hu =
      let Z = hu p₂ b₂ r z b in
      let Y = hc p₁ h p₂ (going s F c e p₁ gc y) Z.1 in
      let X = ht true o₁ p₁ x Y.1 in (
        (
          X.0,
          then_is (λ a o p. Either a (Looks (Lacks Q) s hi F c e p × Then (parse s F c e p) (λ b h q. Looks
              (Lacks Q) s hi F u e q)) (Unit {0})) x (Y.0, then_is (λ b h q. Looks (Lacks Q) s hi F u e q) y Z.0),
        ),
        X.1,
      )

  -- What was looked over is read: its first part, by t; what is left of it is r.
  pass_reach : (t r : Rule) (e at : ℕ) (o : Forest) (p hi : ℕ) → parse s F t e at ≡ got true o p → Bound (pend r) p hi
      → ((e' : ℕ) → parse s F t e' at ≡ got true o p → Looks (Lacks Q) s hi F t e' at × (at < hi))
      → Looks (Lacks Q) s hi F t e at × Bound (pend (seq t r)) at hi
  unfolding Looks
  pass_reach t r e at o p hi h b ht = ((ht e h).0, ((ht e h).1, λ e' o' q z. go e' o' q (seq_read s F t r e' at z)))
    where
      go : (e' : ℕ) (o' : Forest) (q : ℕ)
          → SeqOut (parse s F t e' at) (parse s F r e') true o' q
          → (q < hi) × (Looks (Lacks Q) s hi F t e' at
          × Then (parse s F t e' at) (λ a o p. Either a (Looks (Lacks Q) s hi F r e' p) (Unit {0})))
      go e' o' q (two o₁ p₁ o₂ x y w) =
          let hm = any_mark s F t e e' at h in
          let pe : p₁ ≡ p = (got_same (sym x ∙ hm)).2 in
          let rr = b.1 e' o₂ q (ap (parse s F r e') (sym pe) ∙ y) in
          (rr.0, ((ht e' hm).0, then_is (λ a o p. Either a (Looks (Lacks Q) s hi F r e' p) (Unit {0})) hm rr.1))
      go e' o' q (one x ae) = false_true ae refl

  -- What a rule has looked at, and what was looked at before it, lies below hi if what is looked at after it does.
  pub reach : {i g k : Mode} {t : Rule}
      → Flow C Q R i t g k
      → (e at : ℕ) (a : Bool) (o : Forest) (p : ℕ) → parse s F t e at ≡ got a o p
      → (hi : ℕ) → Claim i t e at (pick a g k) p hi
  unfolding parse Looks
  reach (f_weak {t = t} wi wg wk fl) e at a o p h hi b =
      let x = reach fl e at a o p h hi (weak_pick a p hi wg wk b) in
      (x.0, bound_weak at hi wi x.1)
  reach (f_done {i} {k}) e at a o p h hi b =
      let x = got_same h in
      (tt, subst₂ (λ (c : Bool) (q : ℕ). Bound (pick c i k) q hi) (sym x.0) (sym x.2) b)
  reach (f_stop {i} {g}) e at a o p h hi b =
      let x = got_same h in
      (tt, subst₂ (λ (c : Bool) (q : ℕ). Bound (pick c g i) q hi) (sym x.0) (sym x.2) b)
  reach (f_step {k}) e at a o p h hi b =
      let x = step_got e at h in
      let y : p ≤ hi = bound_is tight k p hi x.0 b in
      let z : p ≡ at + 1 = x.1 in
      (omega arith, omega arith)
  reach (f_refuse {n = n} {w = w} x) e at a o p h hi b = refusal_got n w e at h
  reach (f_when {i} {g} {k} {f} {t} {u} sn x y) e at a o p h hi b =
      let w = fork (f (byte_at s at)) (parse s F t e at) (parse s F u e at) (Looks (Lacks Q) s hi F t e at)
      (Looks (Lacks Q) s hi F u e at) h (λ z. reach x e at a o p z hi b) (λ z. reach y e at a o p z hi b) in
      ((bound_seen at hi sn w.1, w.0), w.1)
  reach (f_expect {k} {f} {u} q x) e at a o p h hi b =
      let w = fork (f (byte_at s at)) (parse s F step e at) (parse s F u e at) (at < hi)
      (Looks (Lacks Q) s hi F u e at) h
      (λ z. let y = step_got e at z in let l : p ≤ hi = bound_is shut k p hi y.0 b in let l' : p ≡ at + 1 = y.1 in
      let r : at < hi = omega arith in (r, r))
      (λ z. reach x e at a o p z hi b) in
      ((w.1, w.0), w.1)
  reach (f_look {i} {g} {k} {w} {t} {u} sn pw x y) e at a o p h hi b =
      let z = fork (stands s w at) (parse s F t e at) (parse s F u e at) (Looks (Lacks Q) s hi F t e at)
      (Looks (Lacks Q) s hi F u e at) h (λ z. reach x e at a o p z hi b) (λ z. reach y e at a o p z hi b) in
      ((bound_seen at hi sn z.1, short_lacks Q w pw, z.0), z.1)
  reach (f_after {g} {k} {f} {r} {t} {u} gr fr x y) e at a o p h hi b =
      let v = then_got (parse s F r e at) _ h in
      let er = going s F r e at gr v.3 in
      let w = fork (f (byte_at s v.2)) (parse s F t e at) (parse s F u e at) (Looks (Lacks Q) s hi F t e at)
      (Looks (Lacks Q) s hi F u e at) v.4 (λ z. reach x e at a o p z hi b) (λ z. reach y e at a o p z hi b) in
      let rr = w.1.1 e v.1 v.2 er in (
        (
          rr.1,
          then_is (λ b w z. (z < hi) × Either (f (byte_at s z)) (Looks (Lacks Q) s hi F t e at)
              (Looks (Lacks Q) s hi F u e at)) er (rr.0, w.0),
        ),
        w.1,
      )
  reach (f_seq {i} {m} {g} {k} {t} {u} x y) e at a o p h hi b =
      seq_reach i m g k t u e at a o p hi (seq_read s F t u e at h) b (λ c v q z l. reach x e at c v q z hi l)
      (λ q v z l. reach y e q a v p z hi l)
  reach (f_many {m} {k} {k'} {t} ad x) e at a o p h hi b =
      loop_reach m k hi p (Looks (Lacks Q) s hi F t e) (parse s F t e) (λ q v z w l. reach x e q true v z w hi l)
      (λ q v w l. reach x e q false v p w hi l) F at h
      (bound_is k k' p hi (got_goes (repeat (parse s F t e) F at) (goes_repeat (parse s F t e) F at) h) b)
  reach (f_wrap {l = l} {t = t} st ft x) e at a o p h hi b =
      let w = wrap_read s F l t e at h in
      reach x e at a w.0 p w.1 hi b
  reach (f_said {i} {m} {g} {k} {f} {r} {t} {u} cl x y z) e at a o p h hi b =
      said_reach i m g k f r t u e at a o p hi (said_read s F f r t u e at h) b (λ c v q w l. reach x e at c v q w hi l)
      (λ q v w l. reach y e q a v p w hi l) (λ q v w l. reach z e q a v p w hi l)
  reach (f_marked x) e at a o p h hi b = reach x at at a o p h hi b
  reach (f_paired {i} {m} {k} {k'} {d} {t} {u} {v} fv av x gc y cl z) e at a o p h hi b =
      let w = pair_out s F d t (C d) u v e at h in
      pair_reach i m k d t (C d) u v e at a o p hi gc w (bound_is shut k p hi (pair_goes w) b)
      (λ c v q w l. reach x e at c v q w hi (both_shut c q l)) (λ q v r w l. reach y e q true v r w hi l)
      (λ q c v w l. reach z e q c v p w hi (both_shut c p l))
    where
      pair_goes : PairOut s F d t (C d) u v e at a o p → a ≡ true
      pair_goes (lone x ae) = ae
      pair_goes (full o₁ p₁ b₁ h p₂ b₂ r x y z nm w ae) = ae

      both_shut : (c : Bool) (q : ℕ) → q ≤ hi → Bound (pick c shut shut) q hi
      both_shut true q l = l
      both_shut false q l = l
  reach (f_pass {k} {t} {r} gt cl x) e at a o p h hi b =
      let ga = got_goes (parse s F t e at) (on s F t gt e at) h in
      let br : Bound (pend r) p hi = bound_is (pend r) k p hi ga b in
      pass_reach t r e at o p hi (going s F t e at gt h) br (λ e' w. reach x e' at true o p w hi br.0)
  reach (f_last {k} {r} gr cl x) e at a o p h hi b =
      let ga = got_goes (parse s F r e at) (on s F r gr e at) h in
      let l : p < hi = bound_is near k p hi ga b in
      let X = reach x e at true o p (going s F r e at gr h) hi l in (
        X.0,
        (
          X.1,
          λ e' o' q z. let pe : q ≡ p = (got_same (sym z ∙ any_mark s F r e e' at h)).2 in
              (omega arith, (reach x e' at true o p (any_mark s F r e e' at (going s F r e at gr h)) hi l).0),
        ),
      )
