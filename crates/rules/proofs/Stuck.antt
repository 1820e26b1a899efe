-- No rule with a flow gets stuck: every refusal has a number of its own, and the turns of a loop suffice.
use mathlib.Core.Path.{◌≡◌, refl, sym, subst}
use mathlib.Core.Bool.{Bool, true, false}
use mathlib.Core.List.{List}
use Prim.Native.Nat.{ℕ, zero, suc, ◌+◌, ◌≤◌, ◌<◌}
use native.Mathlib.Omega.{arith}
use lib.ListN.{length}
use lib.Dec.{eqb, ltb}
use borrow.Author.Tests.{lt-ltb}
use Rattle.rules.specs.Forest.{Label, Forest, group, content, ◌⋈◌}
use Rattle.rules.specs.Rule.{Place, here, mark, from_mark, this_byte, Test, Verdict, fine, differ, Rule, step}
use Rattle.rules.specs.Parse.{Answer, got, trouble, pick, and_then, behind, byte_at, stands, refusal, judged}
use Rattle.rules.specs.Parse.{repeat, parse, parse_all}
use Rattle.rules.proofs.Ends.{top_got}
use Rattle.rules.proofs.Flow.{Mode, Numbered, Flow, f_weak, f_done, f_stop, f_step, f_refuse, f_when, f_expect}
use Rattle.rules.proofs.Flow.{f_look, f_after, f_seq, f_many, f_wrap, f_said, f_marked, f_paired, f_pass}
use Rattle.rules.proofs.Flow.{f_last}
use Rattle.rules.proofs.Advance.{advance}

-- An answer that got something, or refuses by a number of which N holds.
abbrev pub Refuses : (ℕ → Type 0) → Answer → Type 0
Refuses N (got a o p) = Unit {0}
Refuses N (trouble n a b c d) = N n

module _ (N : ℕ → Type 0) where
  -- One of two answers.
  pub refuses_if : (b : Bool) (x y : Answer) → Refuses N x → Refuses N y → Refuses N (pick b x y)
  refuses_if true x y h k = h
  refuses_if false x y h k = k

  -- Of what follows, only for what was got.
  pub refuses_then : (x : Answer) (f : Bool → Forest → ℕ → Answer)
      → Refuses N x
      → ((a : Bool) (o : Forest) (p : ℕ) → x ≡ got a o p → Refuses N (f a o p))
      → Refuses N (and_then x f)
  refuses_then (got a o p) f h k = k a o p refl
  refuses_then (trouble n a b c d) f h k = h

  -- With a forest in front.
  pub refuses_behind : (u : Forest) (x : Answer) → Refuses N x → Refuses N (behind u x)
  refuses_behind u (got a o p) h = tt
  refuses_behind u (trouble n a b c d) h = h

  -- A refusal by such a number.
  pub refuses_refusal : (n : ℕ) (w : Place) (e at : ℕ) → N n → Refuses N (refusal n w e at)
  refuses_refusal n here e at h = h
  refuses_refusal n mark e at h = h
  refuses_refusal n from_mark e at h = h
  refuses_refusal n this_byte e at h = h

  -- A loop whose turns advance, and stay within l, has turns enough: it refuses as a turn does.
  pub refuses_loop : (l : ℕ) (body : ℕ → Answer)
      → ((at : ℕ) → at ≤ l → Refuses N (body at))
      → ((at : ℕ) (o : Forest) (p : ℕ) → at ≤ l → body at ≡ got true o p → (at < p) × (p ≤ l))
      → (f at : ℕ) → at ≤ l
      → l < f + at
      → Refuses N (repeat body f at)
  unfolding repeat
  refuses_loop l body ns ad zero at i h = absurd (omega arith)
  refuses_loop l body ns ad (suc f) at i h =
      refuses_then (body at) _ (ns at i) (λ a o p e. turn a o p e (λ k j. refuses_loop l body ns ad f p k j))
    where
      turn : (a : Bool) (o : Forest) (p : ℕ) → body at ≡ got a o p → (p ≤ l → l < f + p → Refuses N (repeat body f p))
          → Refuses N (pick a (pick (ltb at p) (behind o (repeat body f p)) (trouble 0 at at 0 0)) (got true o p))
      turn true o p e ih =
          let m = ad at o p i e in
          let j : at < p = m.0 in
          subst (λ (b : Bool). Refuses N (pick b (behind o (repeat body f p)) (trouble 0 at at 0 0)))
          (sym (lt-ltb at p j)) (refuses_behind o (repeat body f p) (ih m.1 (omega arith)))
      turn false o p e ih = tt

-- A number of a refusal's own.
abbrev pub NotZero : ℕ → Type 0
NotZero n = eqb n 0 ≡ false

-- An answer that got something, or refuses by a number that is not 0.
abbrev pub NotStuck : Answer → Type 0
NotStuck x = Refuses NotZero x

not_stuck_step : (s : List ℕ) (F e at : ℕ) → NotStuck (parse s F step e at)
unfolding parse
not_stuck_step s F e at = refuses_if NotZero (ltb at (length s)) _ _ tt refl

not_stuck_judged : (at q : ℕ) (v : Verdict) (x : Answer) → Numbered v → NotStuck x → NotStuck (judged at q v x)
not_stuck_judged at q fine x n h = h
not_stuck_judged at q (differ n a b c d) x k h = k

module _ (C : ℕ → Rule) (Q : Test) (R : Label → Forest → Type 0) (s : List ℕ) (F : ℕ) (enough : length s < F) where
  -- What a rule with a flow answers is never stuck, given turns enough.
  pub not_stuck : {i g k : Mode} {t : Rule}
      → Flow C Q R i t g k
      → (e at : ℕ) → at ≤ length s
      → NotStuck (parse s F t e at)
  unfolding parse
  not_stuck (f_weak wi wg wk x) e at i = not_stuck x e at i
  not_stuck f_done e at i = tt
  not_stuck f_stop e at i = tt
  not_stuck f_step e at i = not_stuck_step s F e at
  not_stuck (f_refuse {n = n} {w = w} x) e at i = refuses_refusal NotZero n w e at x
  not_stuck (f_when {f = f} sn x y) e at i =
      refuses_if NotZero (f (byte_at s at)) _ _ (not_stuck x e at i) (not_stuck y e at i)
  not_stuck (f_expect {f = f} q x) e at i =
      refuses_if NotZero (f (byte_at s at)) _ _ (not_stuck_step s F e at) (not_stuck x e at i)
  not_stuck (f_look {w = w} sn pw x y) e at i =
      refuses_if NotZero (stands s w at) _ _ (not_stuck x e at i) (not_stuck y e at i)
  not_stuck (f_after {f = f} {r} gr fr x y) e at i =
      refuses_then NotZero (parse s F r e at) _ (not_stuck fr e at i)
      (λ a o p h. refuses_if NotZero (f (byte_at s p)) _ _ (not_stuck x e at i) (not_stuck y e at i))
  not_stuck (f_seq {t = t} {u} x y) e at i = refuses_then NotZero (parse s F t e at) _ (not_stuck x e at i)
      (λ a o p h. refuses_if NotZero a _ _
      (refuses_behind NotZero o (parse s F u e p) (not_stuck y e p (top_got s F t e at i h))) tt)
  not_stuck (f_many {t = t} ad x) e at i =
      refuses_loop NotZero (length s) (parse s F t e) (λ p k. not_stuck x e p k)
      (λ p o q k h. (advance s F t ad e p o q h, top_got s F t e p k h)) F at i (omega arith)
  not_stuck (f_wrap {t = t} st ft x) e at i =
      refuses_then NotZero (parse s F t e at) _ (not_stuck x e at i) (λ a o p h. tt)
  not_stuck (f_said {f = f} {r} {t} {u} cl x y z) e at i =
      refuses_then NotZero (parse s F r e at) _ (not_stuck x e at i)
      (λ a o p h. let k = top_got s F r e at i h in
      refuses_if NotZero a _ _ (refuses_behind NotZero o (pick (f o) (parse s F t e p) (parse s F u e p))
      (refuses_if NotZero (f o) (parse s F t e p) (parse s F u e p) (not_stuck y e p k) (not_stuck z e p k))) tt)
  not_stuck (f_marked x) e at i = not_stuck x at at i
  not_stuck (f_paired {d = d} {t} {u} {v} fv av x gc y cl z) e at i =
      refuses_then NotZero (parse s F t e at) _ (not_stuck x e at i) (λ a o p h.
      let k = top_got s F t e at i h in
      refuses_if NotZero a _ _
      (refuses_then NotZero (parse s F (C d) e p) _ (not_stuck y e p k) (λ b c q h₂.
      refuses_then NotZero (parse s F u e q) _ (not_stuck z e q (top_got s F (C d) e p k h₂)) (λ b₂ r w h₃.
      not_stuck_judged at q (v o r) (got true (o ⋈ group (content d) c r) w) (fv.numbered o r) tt)))
      tt)
  not_stuck (f_pass gt cl x) e at i = not_stuck x e at i
  not_stuck (f_last gr cl x) e at i = not_stuck x e at i

-- A whole input is read, or refused by a number that is not 0.
pub never_stuck : (C : ℕ → Rule) (Q : Test) (R : Label → Forest → Type 0) {i g k : Mode} {t : Rule}
    → Flow C Q R i t g k
    → (s : List ℕ) → NotStuck (parse_all t s)
unfolding parse_all
never_stuck C Q R x s = not_stuck C Q R s (suc (length s)) (omega arith) x 0 0 (omega arith)
