-- What holds of every node that a grammar makes.
use mathlib.Core.Path.{◌≡◌, sym, subst}
use mathlib.Core.Bool.{Bool, true, false}
use mathlib.Core.List.{List}
use Prim.Native.Nat.{ℕ, zero, suc, ◌+◌}
use lib.ListN.{length}
use lib.Dec.{ltb}
use Rattle.rules.specs.Forest.{Label, node, content, Forest, nil, byte, group, ◌⋈◌}
use Rattle.rules.specs.Rule.{Test, Rule, step}
use Rattle.rules.specs.Parse.{Answer, got, trouble, pick, byte_at, stands, repeat, parse}
use Rattle.rules.proofs.Got.{trouble_got, refusal_got, got_same, then_got, pick_case, SeqOut, two, one, seq_read}
use Rattle.rules.proofs.Got.{SaidOut, so, otherwise, stopped, said_read, wrap_read, PairOut, lone, full}
use Rattle.rules.proofs.Got.{pair_out}
use Rattle.rules.proofs.Ends.{Turn, last, goon, turn}
use Rattle.rules.proofs.Flow.{Mode, Flow, f_weak, f_done, f_stop, f_step, f_refuse, f_when, f_expect, f_look}
use Rattle.rules.proofs.Flow.{f_after, f_seq, f_many, f_wrap, f_said, f_marked, f_paired, f_pass, f_last}

-- Every node has the property, with what is inside it.
abbrev pub Formed : (R : Label → Forest → Type 0) → Forest → Type 0
Formed R nil = Unit {0}
Formed R (byte b u) = Formed R u
Formed R (group (node k x) c u) = R (node k x) c × Formed R c × Formed R u
Formed R (group (content d) c u) = Unit {0} × Formed R c × Formed R u

module _ (R : Label → Forest → Type 0) where
  formed_behind : (u v : Forest) → Formed R u → Formed R v → Formed R (u ⋈ v)
  unfolding ◌⋈◌
  formed_behind nil v x y = y
  formed_behind (byte b u) v x y = formed_behind u v x y
  formed_behind (group (node k z) c u) v x y = (x.0, x.1, formed_behind u v x.2 y)
  formed_behind (group (content d) c u) v x y = (x.0, x.1, formed_behind u v x.2 y)

  formed_group : (l : Label) (c : Forest) → R l c → Formed R c → Formed R (group l c nil)
  formed_group (node k z) c x y = (x, y, tt)
  formed_group (content d) c x y = (tt, y, tt)

  formed_is : {u v : Forest} → u ≡ v → Formed R v → Formed R u
  formed_is e x = subst (Formed R) (sym e) x

  formed_loop : (body : ℕ → Answer)
      → ((at : ℕ) (b : Bool) (o : Forest) (q : ℕ) → body at ≡ got b o q → Formed R o)
      → (f at : ℕ) {a : Bool} {o : Forest} {p : ℕ} → repeat body f at ≡ got a o p
      → Formed R o
  unfolding repeat
  formed_loop body hb zero at h = trouble_got h
  formed_loop body hb (suc f) at {a} {o} {p} h = by (turn body f at h).1 (λ q v r. formed_loop body hb f q r)
    where
      by : Turn body f at o p → ((q : ℕ) (v : Forest) → repeat body f q ≡ got true v p → Formed R v) → Formed R o
      by (last x) ih = hb at false o p x
      by (goon o₁ q v x lt r w) ih = formed_is w (formed_behind o₁ v (hb at true o₁ q x) (ih q v r))

  module _ (C : ℕ → Rule) (Q : Test) (s : List ℕ) (F : ℕ) where
    formed_step : (e at : ℕ) {a : Bool} {o : Forest} {p : ℕ} → parse s F step e at ≡ got a o p → Formed R o
    unfolding parse
    formed_step e at {a} {o} {p} h = by (ltb at (length s)) h
      where
        by : (c : Bool)
            → pick c (got true (byte (byte_at s at) nil) (at + 1)) (trouble 4 at at 0 0) ≡ got a o p
            → Formed R o
        by true k = formed_is (sym (got_same k).1) tt
        by false k = trouble_got k

    -- What a grammar reads is formed so.
    pub formed : {i g k : Mode} {t : Rule}
        → Flow C Q R i t g k
        → (e at : ℕ) (a : Bool) (o : Forest) (p : ℕ) → parse s F t e at ≡ got a o p
        → Formed R o
    unfolding parse
    formed (f_weak wi wg wk x) e at a o p h = formed x e at a o p h
    formed f_done e at a o p h = formed_is (sym (got_same h).1) tt
    formed f_stop e at a o p h = formed_is (sym (got_same h).1) tt
    formed f_step e at a o p h = formed_step e at h
    formed (f_refuse {n = n} {w = w} x) e at a o p h = refusal_got n w e at h
    formed (f_when {f = f} {t} {u} sn x y) e at a o p h =
        pick_case (f (byte_at s at)) (parse s F t e at) (parse s F u e at) h (λ z. formed x e at a o p z)
        (λ z. formed y e at a o p z)
    formed (f_expect {f = f} {u} q x) e at a o p h =
        pick_case (f (byte_at s at)) (parse s F step e at) (parse s F u e at) h (λ z. formed_step e at z)
        (λ z. formed x e at a o p z)
    formed (f_look {w = w} {t} {u} sn pw x y) e at a o p h =
        pick_case (stands s w at) (parse s F t e at) (parse s F u e at) h (λ z. formed x e at a o p z)
        (λ z. formed y e at a o p z)
    formed (f_after {f = f} {r} {t} {u} gr fr x y) e at a o p h =
        let v = then_got (parse s F r e at) _ h in
        pick_case (f (byte_at s v.2)) (parse s F t e at) (parse s F u e at) v.4 (λ z. formed x e at a o p z)
        (λ z. formed y e at a o p z)
    formed (f_seq {t = t} {u} x y) e at a o p h =
        by (seq_read s F t u e at h) (λ b v q z. formed x e at b v q z) (λ q v z. formed y e q a v p z)
      where
        by : SeqOut (parse s F t e at) (parse s F u e) a o p
            → ((b : Bool) (v : Forest) (q : ℕ) → parse s F t e at ≡ got b v q → Formed R v)
            → ((q : ℕ) (v : Forest) → parse s F u e q ≡ got a v p → Formed R v)
            → Formed R o
        by (two o₁ p₁ o₂ z y w) ht hu = formed_is w (formed_behind o₁ o₂ (ht true o₁ p₁ z) (hu p₁ o₂ y))
        by (one z ae) ht hu = ht false o p z
    formed (f_many {t = t} ad x) e at a o p h = formed_loop (parse s F t e) (λ q b v z w. formed x e q b v z w) F at h
    formed (f_wrap {l = l} {t = t} st ft x) e at a o p h =
        let w = wrap_read s F l t e at h in
        formed_is w.2
        (formed_group (l w.0) w.0 (ft s F e at a w.0 p w.1) (formed x e at a w.0 p w.1))
    formed (f_said {f = f} {r} {t} {u} cl x y z) e at a o p h =
        by (said_read s F f r t u e at h) (λ b v q w. formed x e at b v q w) (λ q v w. formed y e q a v p w)
        (λ q v w. formed z e q a v p w)
      where
        by : SaidOut f (parse s F r e at) (parse s F t e) (parse s F u e) a o p
            → ((b : Bool) (v : Forest) (q : ℕ) → parse s F r e at ≡ got b v q → Formed R v)
            → ((q : ℕ) (v : Forest) → parse s F t e q ≡ got a v p → Formed R v)
            → ((q : ℕ) (v : Forest) → parse s F u e q ≡ got a v p → Formed R v)
            → Formed R o
        by (so o₁ p₁ o₂ w c y n) hr ht hu = formed_is n (formed_behind o₁ o₂ (hr true o₁ p₁ w) (ht p₁ o₂ y))
        by (otherwise o₁ p₁ o₂ w c y n) hr ht hu = formed_is n (formed_behind o₁ o₂ (hr true o₁ p₁ w) (hu p₁ o₂ y))
        by (stopped w ae) hr ht hu = hr false o p w
    formed (f_marked x) e at a o p h = formed x at at a o p h
    formed (f_paired {d = d} {t} {u} {v} fv av x gc y cl z) e at a o p h =
        by (pair_out s F d t (C d) u v e at h) (λ b w q r. formed x e at b w q r) (λ q b w n r. formed y e q b w n r)
        (λ q b w n r. formed z e q b w n r)
      where
        by : PairOut s F d t (C d) u v e at a o p
            → ((b : Bool) (w : Forest) (q : ℕ) → parse s F t e at ≡ got b w q → Formed R w)
            → ((q : ℕ) (b : Bool) (w : Forest) (n : ℕ) → parse s F (C d) e q ≡ got b w n → Formed R w)
            → ((q : ℕ) (b : Bool) (w : Forest) (n : ℕ) → parse s F u e q ≡ got b w n → Formed R w)
            → Formed R o
        by (lone x ae) ht hc hu = ht false o p x
        by (full o₁ p₁ b₁ i p₂ b₂ r x y z nm w ae) ht hc hu =
            formed_is w
            (formed_behind o₁ (group (content d) i r) (ht true o₁ p₁ x) (tt, hc p₁ b₁ i p₂ y, hu p₂ b₂ r p z))
    formed (f_pass gt cl x) e at a o p h = formed x e at a o p h
    formed (f_last gr cl x) e at a o p h = formed x e at a o p h
