-- Every content stands behind a byte that closes, and nothing that was read before it has looked into it.
use mathlib.Core.Path.{◌≡◌, refl, sym, ap, subst, ◌∙◌}
use mathlib.Core.Bool.{Bool, true, false}
use mathlib.Core.List.{List}
use Prim.Native.Nat.{ℕ, zero, suc, ◌+◌, ◌≤◌, ◌<◌}
use native.Mathlib.Omega.{arith}
use lib.ListN.{length}
use lib.Dec.{ltb}
use Rattle.rules.specs.Forest.{Label, node, content, Forest, nil, byte, group, ◌⋈◌, width}
use Rattle.rules.specs.Rule.{Test, Verdict, Rule, step, seq}
use Rattle.rules.specs.Parse.{Answer, got, trouble, pick, byte_at, stands, repeat, parse}
use Rattle.rules.proofs.Run.{goes, both, on, got_goes, goes_repeat, wide_got}
use Rattle.rules.proofs.Got.{trouble_got, false_true, refusal_got, got_same, then_got, pick_case, going, SeqOut}
use Rattle.rules.proofs.Got.{two, one, seq_read, SaidOut, so, otherwise, stopped, said_read, wrap_read, PairOut}
use Rattle.rules.proofs.Got.{lone, full, pair_out}
use Rattle.rules.proofs.Ends.{Turn, last, goon, turn}
use Rattle.rules.proofs.Spots.{Spot, arrived, under, past, skip, bytes_before, Side, left, right, side}
use Rattle.rules.proofs.Spots.{no_spot_nil}
use Rattle.rules.proofs.Flow.{Mode, shut, tight, near, pend, ◌⊑◌, same, shut_tight, shut_near, shut_pend}
use Rattle.rules.proofs.Flow.{tight_near, tight_pend, near_pend, clear, IsNode, Flow, f_weak, f_done, f_stop}
use Rattle.rules.proofs.Flow.{f_step, f_refuse, f_when, f_expect, f_look, f_after, f_seq, f_many, f_wrap}
use Rattle.rules.proofs.Flow.{f_said, f_marked, f_paired, f_pass, f_last}
use Rattle.rules.proofs.Advance.{advance}
use Rattle.rules.proofs.Reach.{Bound, bound_weak, step_got, reach}

module _ (C : ℕ → Rule) (Q : Test) (R : Label → Forest → Type 0) (s : List ℕ) (F : ℕ) where
  -- ---- the last byte

  -- Where a mode is shut, the byte before the place closes.
  abbrev pub Last : Mode → ℕ → Type 0
  Last shut p = (j : ℕ) × (j + 1 ≡ p) × (Q (byte_at s j) ≡ true)
  Last tight p = Unit {0}
  Last near p = Unit {0}
  Last (pend r) p = Unit {0}

  -- A mode that looks further asks for less.
  pub last_weak : {m n : Mode} (p : ℕ) → m ⊑ n → Last m p → Last n p
  last_weak p same x = x
  last_weak p shut_near x = tt
  last_weak p shut_pend x = tt
  last_weak p shut_tight x = tt
  last_weak p tight_near x = tt
  last_weak p tight_pend x = tt
  last_weak p near_pend x = tt

  last_pick : {g g' k k' : Mode} (a : Bool) (p : ℕ) → g ⊑ g' → k ⊑ k' → Last (pick a g k) p → Last (pick a g' k') p
  last_pick true p x y l = last_weak p x l
  last_pick false p x y l = last_weak p y l

  last_is : (g k : Mode) {a b : Bool} {p q : ℕ} → a ≡ b → p ≡ q → Last (pick a g k) p → Last (pick b g k) q
  last_is g k {a} {b} {p} {q} e f x =
      subst (λ (c : Bool). Last (pick c g k) q) e (subst (λ (n : ℕ). Last (pick a g k) n) f x)

  last_loop : (m k : Mode) (body : ℕ → Answer)
      → ((at : ℕ) (o : Forest) (q : ℕ) → body at ≡ got true o q → Last m at → Last m q)
      → ((at : ℕ) (o : Forest) (q : ℕ) → body at ≡ got false o q → Last m at → Last k q)
      → (f at : ℕ) {a : Bool} {o : Forest} {p : ℕ} → repeat body f at ≡ got a o p
      → Last m at
      → Last k p
  unfolding repeat
  last_loop m k body go la zero at h l = trouble_got h
  last_loop m k body go la (suc f) at {a} {o} {p} h l =
      on_turn (turn body f at h).1 (λ q v r w. last_loop m k body go la f q r w)
    where
      on_turn : Turn body f at o p
          → ((q : ℕ) (v : Forest) → repeat body f q ≡ got true v p → Last m q → Last k p)
          → Last k p
      on_turn (last x) ih = la at o p x l
      on_turn (goon o₁ q v x lt r w) ih = ih q v r (go at o₁ q x l)

  -- What a rule reads ends behind a closing byte wherever its mode there is shut.
  pub closes : {i g k : Mode} {t : Rule}
      → Flow C Q R i t g k
      → (e at : ℕ) (a : Bool) (o : Forest) (p : ℕ) → parse s F t e at ≡ got a o p
      → Last i at
      → Last (pick a g k) p
  unfolding parse
  closes (f_weak wi wg wk x) e at a o p h l = last_pick a p wg wk (closes x e at a o p h (last_weak at wi l))
  closes (f_done {i} {k}) e at a o p h l = let x = got_same h in last_is i k x.0 x.2 l
  closes (f_stop {i} {g}) e at a o p h l = let x = got_same h in last_is g i x.0 x.2 l
  closes (f_step {k}) e at a o p h l = let x = step_got C Q R s F e at h in last_is tight k (sym x.0) refl tt
  closes (f_refuse {n = n} {w = w} x) e at a o p h l = refusal_got n w e at h
  closes (f_when {f = f} {t} {u} sn x y) e at a o p h l =
      pick_case (f (byte_at s at)) (parse s F t e at) (parse s F u e at) h (λ z. closes x e at a o p z l)
      (λ z. closes y e at a o p z l)
  closes (f_expect {k} {f} {u} q x) e at a o p h l = by (f (byte_at s at)) refl h (λ z. closes x e at a o p z l)
    where
      by : (c : Bool)
          → f (byte_at s at) ≡ c
          → pick c (parse s F step e at) (parse s F u e at) ≡ got a o p
          → (parse s F u e at ≡ got a o p → Last (pick a shut k) p)
          → Last (pick a shut k) p
      by true c z ih =
          let y = step_got C Q R s F e at z in
          last_is shut k (sym y.0) refl (at, sym y.1, q (byte_at s at) c)
      by false c z ih = ih z
  closes (f_look {w = w} {t} {u} sn pw x y) e at a o p h l =
      pick_case (stands s w at) (parse s F t e at) (parse s F u e at) h (λ z. closes x e at a o p z l)
      (λ z. closes y e at a o p z l)
  closes (f_after {f = f} {r} {t} {u} gr fr x y) e at a o p h l =
      let v = then_got (parse s F r e at) _ h in
      pick_case (f (byte_at s v.2)) (parse s F t e at) (parse s F u e at) v.4 (λ z. closes x e at a o p z tt)
      (λ z. closes y e at a o p z tt)
  closes (f_seq {i} {m} {g} {k} {t} {u} x y) e at a o p h l =
      by (seq_read s F t u e at h) (λ b v q z. closes x e at b v q z l) (λ q v z w. closes y e q a v p z w)
    where
      by : SeqOut (parse s F t e at) (parse s F u e) a o p
          → ((b : Bool) (v : Forest) (q : ℕ) → parse s F t e at ≡ got b v q → Last (pick b m k) q)
          → ((q : ℕ) (v : Forest) → parse s F u e q ≡ got a v p → Last m q → Last (pick a g k) p)
          → Last (pick a g k) p
      by (two o₁ p₁ o₂ x y w) ht hu = hu p₁ o₂ y (ht true o₁ p₁ x)
      by (one x ae) ht hu = last_is g k (sym ae) refl (ht false o p x)
  closes (f_many {m} {k} {k'} {t} ad x) e at a o p h l =
      last_is k k' (sym (got_goes (repeat (parse s F t e) F at) (goes_repeat (parse s F t e) F at) h)) refl
      (last_loop m k (parse s F t e) (λ q v z w r. closes x e q true v z w r) (λ q v z w r. closes x e q false v z w r)
      F at h l)
  closes (f_wrap {l = lb} {t = t} st ft x) e at a o p h l =
      let w = wrap_read s F lb t e at h in
      closes x e at a w.0 p w.1 l
  closes (f_said {i} {m} {g} {k} {f} {r} {t} {u} cl x y z) e at a o p h l =
      by (said_read s F f r t u e at h) (λ b v q w. closes x e at b v q w l) (λ q v w n. closes y e q a v p w n)
      (λ q v w n. closes z e q a v p w n)
    where
      by : SaidOut f (parse s F r e at) (parse s F t e) (parse s F u e) a o p
          → ((b : Bool) (v : Forest) (q : ℕ) → parse s F r e at ≡ got b v q → Last (pick b m k) q)
          → ((q : ℕ) (v : Forest) → parse s F t e q ≡ got a v p → Last m q → Last (pick a g k) p)
          → ((q : ℕ) (v : Forest) → parse s F u e q ≡ got a v p → Last m q → Last (pick a g k) p)
          → Last (pick a g k) p
      by (so o₁ p₁ o₂ x c y w) hr ht hu = ht p₁ o₂ y (hr true o₁ p₁ x)
      by (otherwise o₁ p₁ o₂ x c y w) hr ht hu = hu p₁ o₂ y (hr true o₁ p₁ x)
      by (stopped x ae) hr ht hu = last_is g k (sym ae) refl (hr false o p x)
  closes (f_marked x) e at a o p h l = closes x at at a o p h l
  closes (f_paired {i} {m} {k} {k'} {d} {t} {u} {v} fv av x gc y cl z) e at a o p h l =
      by (pair_out s F d t (C d) u v e at h) (λ b w q r. unshut b (closes x e at b w q r l))
      (λ q w n r c. closes y e q true w n r c) (λ q b w r c. unshut b (closes z e q b w p r c))
    where
      unshut : (b : Bool) {q : ℕ} → Last (pick b shut shut) q → Last shut q
      unshut true w = w
      unshut false w = w

      by : PairOut s F d t (C d) u v e at a o p
          → ((b : Bool) (w : Forest) (q : ℕ) → parse s F t e at ≡ got b w q → Last shut q)
          → ((q : ℕ) (w : Forest) (n : ℕ) → parse s F (C d) e q ≡ got true w n → Last shut q → Last m n)
          → ((q : ℕ) (b : Bool) (w : Forest) → parse s F u e q ≡ got b w p → Last m q → Last shut p)
          → Last (pick a shut k) p
      by (lone x ae) ht hc hu = last_is shut k (sym ae) refl (ht false o p x)
      by (full o₁ p₁ b₁ h p₂ b₂ r x y z nm w ae) ht hc hu =
          last_is shut k (sym ae) refl (hu p₂ b₂ r z (hc p₁ h p₂ (going s F (C d) e p₁ gc y) (ht true o₁ p₁ x)))
  closes (f_pass {k} {t} {r} gt cl x) e at a o p h l =
      last_is (pend r) k (sym (got_goes (parse s F t e at) (on s F t gt e at) h)) refl tt
  closes (f_last {k} {r} gr cl x) e at a o p h l =
      last_is near k (sym (got_goes (parse s F r e at) (on s F r gr e at) h)) refl tt

  -- ---- where a content stands

  module _ (d : ℕ) (c₀ : Forest) where
    -- A rule that makes no content.
    none_join : (o u v : Forest) → o ≡ u ⋈ v → (Spot d c₀ u → ⊥) → (Spot d c₀ v → ⊥) → Spot d c₀ o → ⊥
    none_join o u v w hu hv ω = by (subst (Spot d c₀) w ω)
      where
        by : Spot d c₀ (u ⋈ v) → ⊥
        by ω = parts (side u v ω)
          where
            parts : Side u v ω → ⊥
            parts (left ω₁ f st) = hu ω₁
            parts (right ω₂ f st) = hv ω₂

    none_node : (l : Label) (c : Forest) → IsNode l → (Spot d c₀ c → ⊥) → Spot d c₀ (group l c nil) → ⊥
    none_node (node k x) c n h (arrived p q) = let z : ◌≡◌ {A = ℕ} 0 1 = cc in omega arith
    none_node (content k) c n h (arrived p q) = n
    none_node l c n h (under ω) = h ω
    none_node l c n h (past ω) = no_spot_nil ω

    none_loop : (body : ℕ → Answer)
        → ((at : ℕ) (b : Bool) (o : Forest) (q : ℕ) → body at ≡ got b o q → Spot d c₀ o → ⊥)
        → (f at : ℕ) {a : Bool} {o : Forest} {p : ℕ} → repeat body f at ≡ got a o p
        → Spot d c₀ o
        → ⊥
    unfolding repeat
    none_loop body hb zero at h ω = trouble_got h
    none_loop body hb (suc f) at {a} {o} {p} h ω = by (turn body f at h).1 (λ q v r. none_loop body hb f q r)
      where
        by : Turn body f at o p → ((q : ℕ) (v : Forest) → repeat body f q ≡ got true v p → Spot d c₀ v → ⊥) → ⊥
        by (last x) ih = hb at false o p x ω
        by (goon o₁ q v x lt r w) ih = none_join o o₁ v w (hb at true o₁ q x) (ih q v r) ω

    -- A byte has no content in it.
    pub none_step : (e at : ℕ) {a : Bool} {o : Forest} {p : ℕ} → parse s F step e at ≡ got a o p → Spot d c₀ o → ⊥
    unfolding parse
    none_step e at {a} {o} {p} h ω = by (ltb at (length s)) h
      where
        byte_none : {b : ℕ} → Spot d c₀ (byte b nil) → ⊥
        byte_none (skip ω) = no_spot_nil ω

        by : (c : Bool) → pick c (got true (byte (byte_at s at) nil) (at + 1)) (trouble 4 at at 0 0) ≡ got a o p → ⊥
        by true k = byte_none (subst (Spot d c₀) (sym (got_same k).1) ω)
        by false k = trouble_got k

    -- Nor has what a rule without contents reads.
    pub none : {i g k : Mode} {t : Rule}
        → Flow C Q R i t g k
        → clear t ≡ true
        → (e at : ℕ) (a : Bool) (o : Forest) (p : ℕ) → parse s F t e at ≡ got a o p
        → Spot d c₀ o
        → ⊥
    unfolding parse clear
    none (f_weak wi wg wk x) c e at a o p h ω = none x c e at a o p h ω
    none f_done c e at a o p h ω = no_spot_nil (subst (Spot d c₀) (sym (got_same h).1) ω)
    none f_stop c e at a o p h ω = no_spot_nil (subst (Spot d c₀) (sym (got_same h).1) ω)
    none f_step c e at a o p h ω = none_step e at h ω
    none (f_refuse {n = n} {w = w} x) c e at a o p h ω = refusal_got n w e at h
    none (f_when {f = f} {t} {u} sn x y) c e at a o p h ω =
        let b = both (clear t) (clear u) c in
        pick_case (f (byte_at s at)) (parse s F t e at) (parse s F u e at) h (λ z. none x b.0 e at a o p z ω)
        (λ z. none y b.1 e at a o p z ω)
    none (f_expect {f = f} {u} q x) c e at a o p h ω =
        pick_case (f (byte_at s at)) (parse s F step e at) (parse s F u e at) h (λ z. none_step e at z ω)
        (λ z. none x c e at a o p z ω)
    none (f_look {w = w} {t} {u} sn pw x y) c e at a o p h ω =
        let b = both (clear t) (clear u) c in
        pick_case (stands s w at) (parse s F t e at) (parse s F u e at) h (λ z. none x b.0 e at a o p z ω)
        (λ z. none y b.1 e at a o p z ω)
    none (f_after {f = f} {r} {t} {u} gr fr x y) c e at a o p h ω =
        let b = both (clear t) (clear u) c in
        let v = then_got (parse s F r e at) _ h in
        pick_case (f (byte_at s v.2)) (parse s F t e at) (parse s F u e at) v.4 (λ z. none x b.0 e at a o p z ω)
        (λ z. none y b.1 e at a o p z ω)
    none (f_seq {t = t} {u} x y) c e at a o p h ω =
        let b = both (clear t) (clear u) c in
        by (seq_read s F t u e at h) (λ c v q z n. none x b.0 e at c v q z n)
        (λ q v z n. none y b.1 e q a v p z n)
      where
        by : SeqOut (parse s F t e at) (parse s F u e) a o p
            → ((b : Bool) (v : Forest) (q : ℕ) → parse s F t e at ≡ got b v q → Spot d c₀ v → ⊥)
            → ((q : ℕ) (v : Forest) → parse s F u e q ≡ got a v p → Spot d c₀ v → ⊥)
            → ⊥
        by (two o₁ p₁ o₂ x y w) ht hu = none_join o o₁ o₂ w (ht true o₁ p₁ x) (hu p₁ o₂ y) ω
        by (one x ae) ht hu = ht false o p x ω
    none (f_many {t = t} ad x) c e at a o p h ω =
        none_loop (parse s F t e) (λ q b v z w n. none x c e q b v z w n) F at h ω
    none (f_wrap {l = lb} {t = t} st ft x) c e at a o p h ω =
        let w = wrap_read s F lb t e at h in
        none_node (lb w.0) w.0 (st.plain w.0) (λ n. none x c e at a w.0 p w.1 n)
        (subst (Spot d c₀) w.2 ω)
    none (f_said {f = f} {r} {t} {u} cl x y z) c e at a o p h ω =
        let b = both (clear r) (pick (clear t) (clear u) false) c in
        let b' = both (clear t) (clear u) b.1 in
        by (said_read s F f r t u e at h) (λ c v q w n. none x b.0 e at c v q w n)
        (λ q v w n. none y b'.0 e q a v p w n) (λ q v w n. none z b'.1 e q a v p w n)
      where
        by : SaidOut f (parse s F r e at) (parse s F t e) (parse s F u e) a o p
            → ((b : Bool) (v : Forest) (q : ℕ) → parse s F r e at ≡ got b v q → Spot d c₀ v → ⊥)
            → ((q : ℕ) (v : Forest) → parse s F t e q ≡ got a v p → Spot d c₀ v → ⊥)
            → ((q : ℕ) (v : Forest) → parse s F u e q ≡ got a v p → Spot d c₀ v → ⊥)
            → ⊥
        by (so o₁ p₁ o₂ x c y w) hr ht hu = none_join o o₁ o₂ w (hr true o₁ p₁ x) (ht p₁ o₂ y) ω
        by (otherwise o₁ p₁ o₂ x c y w) hr ht hu = none_join o o₁ o₂ w (hr true o₁ p₁ x) (hu p₁ o₂ y) ω
        by (stopped x ae) hr ht hu = hr false o p x ω
    none (f_marked x) c e at a o p h ω = none x c at at a o p h ω
    none (f_paired fv av x gc y cl z) c e at a o p h ω = false_true refl c
    none (f_pass gt cl x) c e at a o p h ω = none x c e at a o p h ω
    none (f_last gr cl x) c e at a o p h ω = none x c e at a o p h ω

    -- A content at q: what read it, and the byte before it.
    pub record Content (q : ℕ) : Type 0 where
      pub at_mark : ℕ
      pub was : parse s F (C d) at_mark q ≡ got true c₀ (q + width c₀)
      pub closed : Last shut q

    -- And all that was looked at before it, by a mode at a place, lies below it.
    abbrev pub There : Mode → (at q : ℕ) → Type 0
    There i at q = Bound C Q R s F i at q × Content q × (at < q)

    there_at : (i : Mode) (at : ℕ) {q q' : ℕ} → q ≡ q' → There i at q → There i at q'
    there_at i at e x = subst (There i at) e x

    -- So it is for every content of a forest that begins at `at`.
    abbrev pub All : Mode → (at : ℕ) → Forest → Type 0
    All i at o = (ω : Spot d c₀ o) → There i at (at + bytes_before ω)

    all_is : (i : Mode) (at : ℕ) {o o' : Forest} → o ≡ o' → All i at o' → All i at o
    all_is i at e x = subst (All i at) (sym e) x

    all_join : (i m : Mode) (at p₁ : ℕ) (u v : Forest)
        → p₁ ≡ at + width u
        → All i at u
        → All m p₁ v
        → ((hi : ℕ) → Bound C Q R s F m p₁ hi → Bound C Q R s F i at hi)
        → All i at (u ⋈ v)
    all_join i m at p₁ u v w hu hv r ω = by (side u v ω)
      where
        by : Side u v ω → There i at (at + bytes_before ω)
        by (left ω₁ f st) = there_at i at (omega arith) (hu ω₁)
        by (right ω₂ f st) =
            let x = hv ω₂ in
            let l = x.2 in
            there_at i at (omega arith) (r (p₁ + bytes_before ω₂) x.0, x.1, omega arith)

    -- A loop whose turns have it so.
    pub all_loop : (m : Mode) (body : ℕ → Answer)
        → ((at : ℕ) (b : Bool) (o : Forest) (q : ℕ) → body at ≡ got b o q → q ≡ at + width o)
        → ((at : ℕ) (b : Bool) (o : Forest) (q : ℕ) → body at ≡ got b o q → Last m at → All m at o)
        → ((at : ℕ) (o : Forest) (q : ℕ) → body at ≡ got true o q → Last m at → Last m q)
        → ((at : ℕ) (o : Forest) (q hi : ℕ) → body at ≡ got true o q → Bound C Q R s F m q hi → Bound C Q R s F m at hi)
        → (f at : ℕ) {a : Bool} {o : Forest} {p : ℕ} → repeat body f at ≡ got a o p
        → Last m at
        → All m at o
    unfolding repeat
    all_loop m body wd hb hl hr zero at h l = trouble_got h
    all_loop m body wd hb hl hr (suc f) at {a} {o} {p} h l =
        by (turn body f at h).1 (λ q v r k. all_loop m body wd hb hl hr f q r k)
      where
        by : Turn body f at o p
            → ((q : ℕ) (v : Forest) → repeat body f q ≡ got true v p → Last m q → All m q v)
            → All m at o
        by (last x) ih = hb at false o p x l
        by (goon o₁ q v x lt r w) ih =
            all_is m at w (all_join m m at q o₁ v (wd at true o₁ q x) (hb at true o₁ q x l) (ih q v r (hl at o₁ q x l))
            (λ hi b. hr at o₁ q hi x b))

    all_node : (i : Mode) (at : ℕ) (l : Label) (c : Forest) → IsNode l → All i at c → All i at (group l c nil)
    unfolding bytes_before
    all_node i at (node k x) c n h (arrived p q) = let z : ◌≡◌ {A = ℕ} 0 1 = cc in absurd (omega arith)
    all_node i at (content k) c n h (arrived p q) = absurd n
    all_node i at l c n h (under ω) = h ω
    all_node i at l c n h (past ω) = absurd (no_spot_nil ω)

    all_none : (i : Mode) (at : ℕ) {o : Forest} → (Spot d c₀ o → ⊥) → All i at o
    all_none i at h ω = absurd (h ω)

    pair_found : (i m : Mode) (d₁ : ℕ) (t u : Rule) (v : Forest → Forest → Verdict) (e at : ℕ) (a : Bool) (o : Forest)
        (p : ℕ)
        → goes (C d₁) ≡ true
        → PairOut s F d₁ t (C d₁) u v e at a o p
        → ((b : Bool) (w : Forest) (q : ℕ) → parse s F t e at ≡ got b w q → All i at w)
        → ((b : Bool) (w : Forest) (q hi : ℕ) → parse s F t e at ≡ got b w q → q ≤ hi → Bound C Q R s F i at hi)
        → ((b : Bool) (w : Forest) (q : ℕ) → parse s F t e at ≡ got b w q → Last shut q)
        → ((q : ℕ) (w : Forest) (n : ℕ) → parse s F (C d₁) e q ≡ got true w n → Last shut q → All shut q w)
        → ((q : ℕ) (b : Bool) (w : Forest) → parse s F u e q ≡ got b w p → Spot d c₀ w → ⊥)
        → ((w : Forest) (q : ℕ) → parse s F t e at ≡ got true w q → at < q)
        → All i at o
    unfolding bytes_before
    pair_found i m d₁ t u v e at a o p gc (lone x ae) ht rt lt hc hu av = ht false o p x
    pair_found i m d₁ t u v e at a o p gc (full o₁ p₁ b₁ h p₂ b₂ r x y z nm w ae) ht rt lt hc hu av =
        all_is i at w (λ ω. by ω (side o₁ (group (content d₁) h r) ω))
      where
        yt : parse s F (C d₁) e p₁ ≡ got true h p₂
        yt = going s F (C d₁) e p₁ gc y

        content_same : content d₁ ≡ content d → d₁ ≡ d
        content_same k = cc

        w₁ : p₁ ≡ at + width o₁
        w₁ = wide_got s F t e at x

        behind_tag : (ω : Spot d c₀ (group (content d₁) h r))
            → (p₁ ≤ p₁ + bytes_before ω) × Content (p₁ + bytes_before ω)
        behind_tag (arrived pk ph) =
            let de : d₁ ≡ d = content_same pk in
            let wd : p₂ ≡ p₁ + width h = wide_got s F (C d₁) e p₁ y in
            let we : width h ≡ width c₀ = ap width ph in
            let p0 : p₁ + 0 ≡ p₁ = omega arith in
            let pe : p₂ ≡ p₁ + 0 + width c₀ = omega arith in (
              (omega arith),
              record {
                at_mark = e;
                was = (λ j. parse s F (C (sym de j)) e (p0 j)) ∙ yt ∙ (λ j. got true
                    (ph j) (pe j));
                closed = subst (Last shut) (sym p0) (lt true o₁ p₁ x);
              },
            )
        behind_tag (under ω) = let X = hc p₁ h p₂ yt (lt true o₁ p₁ x) ω in (X.0, X.1)
        behind_tag (past ω) = absurd (hu p₂ b₂ r z ω)

        by : (ω : Spot d c₀ (o₁ ⋈ group (content d₁) h r))
            → Side o₁ (group (content d₁) h r) ω
            → There i at (at + bytes_before ω)
        by ω (left ω₁ f st) = there_at i at (omega arith) (ht true o₁ p₁ x ω₁)
        by ω (right ω₂ f st) =
            let X = behind_tag ω₂ in
            let l : at < p₁ = av o₁ p₁ x in
            there_at i at (omega (arith, w₁)) (rt true o₁ p₁ (p₁ + bytes_before ω₂) x X.0, X.1, omega arith)

    -- Every content that a rule reads stands so.
    pub found : {i g k : Mode} {t : Rule}
        → Flow C Q R i t g k
        → (e at : ℕ) (a : Bool) (o : Forest) (p : ℕ) → parse s F t e at ≡ got a o p
        → Last i at
        → All i at o
    unfolding parse
    found (f_weak wi wg wk x) e at a o p h l =
        λ ω. let y = found x e at a o p h (last_weak at wi l) ω in
        (bound_weak C Q R s F at (at + bytes_before ω) wi y.0, y.1, y.2)
    found (f_done {i}) e at a o p h l = all_is i at (sym (got_same h).1) (all_none i at no_spot_nil)
    found (f_stop {i}) e at a o p h l = all_is i at (sym (got_same h).1) (all_none i at no_spot_nil)
    found f_step e at a o p h l = all_none near at (none_step e at h)
    found (f_refuse {n = n} {w = w} x) e at a o p h l = refusal_got n w e at h
    found (f_when {f = f} {t} {u} sn x y) e at a o p h l =
        pick_case (f (byte_at s at)) (parse s F t e at) (parse s F u e at) h (λ z. found x e at a o p z l)
        (λ z. found y e at a o p z l)
    found (f_expect {f = f} {u} q x) e at a o p h l =
        pick_case (f (byte_at s at)) (parse s F step e at) (parse s F u e at) h
        (λ z. all_none near at (none_step e at z)) (λ z. found x e at a o p z l)
    found (f_look {w = w} {t} {u} sn pw x y) e at a o p h l =
        pick_case (stands s w at) (parse s F t e at) (parse s F u e at) h (λ z. found x e at a o p z l)
        (λ z. found y e at a o p z l)
    found (f_after {f = f} {r} {t} {u} gr fr x y) e at a o p h l =
        let v = then_got (parse s F r e at) _ h in
        pick_case (f (byte_at s v.2)) (parse s F t e at) (parse s F u e at) v.4 (λ z. found x e at a o p z tt)
        (λ z. found y e at a o p z tt)
    found (f_seq {i} {m} {g} {k} {t} {u} x y) e at a o p h l =
        by (seq_read s F t u e at h) (λ b v q z. found x e at b v q z l) (λ q v z w. found y e q a v p z w)
      where
        by : SeqOut (parse s F t e at) (parse s F u e) a o p
            → ((b : Bool) (v : Forest) (q : ℕ) → parse s F t e at ≡ got b v q → All i at v)
            → ((q : ℕ) (v : Forest) → parse s F u e q ≡ got a v p → Last m q → All m q v)
            → All i at o
        by (two o₁ p₁ o₂ z y w) ht hu =
            all_is i at w (all_join i m at p₁ o₁ o₂ (wide_got s F t e at z) (ht true o₁ p₁ z)
            (hu p₁ o₂ y (closes x e at true o₁ p₁ z l)) (λ hi b. (reach C Q R s F x e at true o₁ p₁ z hi b).1))
        by (one z ae) ht hu = ht false o p z
    found (f_many {m} {k} {k'} {t} ad x) e at a o p h l =
        all_loop m (parse s F t e) (λ q b v z w. wide_got s F t e q w) (λ q b v z w n. found x e q b v z w n)
        (λ q v z w n. closes x e q true v z w n) (λ q v z hi w b. (reach C Q R s F x e q true v z w hi b).1) F at h l
    found (f_wrap {i} {l = lb} {t = t} st ft x) e at a o p h l =
        let w = wrap_read s F lb t e at h in
        all_is i at w.2 (all_node i at (lb w.0) w.0 (st.plain w.0) (found x e at a w.0 p w.1 l))
    found (f_said {i} {m} {g} {k} {f} {r} {t} {u} cl x y z) e at a o p h l =
        by (said_read s F f r t u e at h) (λ q v w n. found y e q a v p w n) (λ q v w n. found z e q a v p w n)
      where
        front : (b : Bool) (v : Forest) (q : ℕ) → parse s F r e at ≡ got b v q → All i at v
        front b v q w = all_none i at (none x cl e at b v q w)

        by : SaidOut f (parse s F r e at) (parse s F t e) (parse s F u e) a o p
            → ((q : ℕ) (v : Forest) → parse s F t e q ≡ got a v p → Last m q → All m q v)
            → ((q : ℕ) (v : Forest) → parse s F u e q ≡ got a v p → Last m q → All m q v)
            → All i at o
        by (so o₁ p₁ o₂ w c y n) ht hu =
            all_is i at n (all_join i m at p₁ o₁ o₂ (wide_got s F r e at w) (front true o₁ p₁ w)
            (ht p₁ o₂ y (closes x e at true o₁ p₁ w l)) (λ hi b. (reach C Q R s F x e at true o₁ p₁ w hi b).1))
        by (otherwise o₁ p₁ o₂ w c y n) ht hu =
            all_is i at n (all_join i m at p₁ o₁ o₂ (wide_got s F r e at w) (front true o₁ p₁ w)
            (hu p₁ o₂ y (closes x e at true o₁ p₁ w l)) (λ hi b. (reach C Q R s F x e at true o₁ p₁ w hi b).1))
        by (stopped w ae) ht hu = front false o p w
    found (f_marked x) e at a o p h l = found x at at a o p h l
    found (f_paired {i} {m} {k} {k'} {d = d₁} {t} {u} {v} fv av x gc y cl z) e at a o p h l =
        pair_found i m d₁ t u v e at a o p gc (pair_out s F d₁ t (C d₁) u v e at h) (λ b w q r. found x e at b w q r l)
        (λ b w q hi r n. (reach C Q R s F x e at b w q r hi (unbound b q hi n)).1)
        (λ b w q r. unshut b (closes x e at b w q r l)) (λ q w n r c. found y e q true w n r c)
        (λ q b w r. none z cl e q b w p r) (λ w q r. advance s F t av e at w q r)
      where
        unshut : (b : Bool) {q : ℕ} → Last (pick b shut shut) q → Last shut q
        unshut true w = w
        unshut false w = w

        unbound : (b : Bool) (q hi : ℕ) → q ≤ hi → Bound C Q R s F (pick b shut shut) q hi
        unbound true q hi n = n
        unbound false q hi n = n
    found (f_pass {k} {t} {r} gt cl x) e at a o p h l = all_none (pend (seq t r)) at (none x cl e at a o p h)
    found (f_last {k} {r} gr cl x) e at a o p h l = all_none (pend r) at (none x cl e at a o p h)
