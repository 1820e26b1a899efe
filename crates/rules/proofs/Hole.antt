-- Another content in the place of a content: an input that is the same before it, reads something else by C there, and
-- is the same behind it, is read the same but for that.
use mathlib.Core.Path.{◌≡◌, refl, sym, ap, subst, ◌∙◌}
use mathlib.Core.Bool.{Bool, true, false}
use mathlib.Core.List.{List}
use Prim.Native.Nat.{ℕ, zero, suc, ◌+◌, ◌≤◌, ◌<◌}
use native.Mathlib.Omega.{arith}
use native.Mathlib.Nat.{le_refl}
use lib.Dec.{ltb}
use lib.ListN.{length}
use Rattle.rules.specs.Forest.{Label, node, content, Forest, nil, group, ◌⋈◌, width}
use Rattle.rules.specs.Rule.{Test, Verdict, fine, Rule, step, seq, many, wrap, said, paired}
use Rattle.rules.specs.Parse.{Answer, got, pick, and_then, behind, byte_at, stands, repeat, parse, parsed}
use Rattle.rules.proofs.Run.{wide_got, wide, Wide, wide_repeat, got_goes, goes_repeat}
use Rattle.rules.proofs.Got.{trouble_got, refusal_got, got_same, then_got, going, SeqOut, two, one, seq_read}
use Rattle.rules.proofs.Got.{SaidOut, so, otherwise, stopped, said_read, wrap_read, PairOut, lone, full}
use Rattle.rules.proofs.Got.{pair_out}
use Rattle.rules.proofs.Local.{up, up_got, Looks, local_got}
use Rattle.rules.proofs.Ends.{Top, top, top_got, top_repeat, sees, Turn, last, goon, turn, turn_more, turn_last}
use Rattle.rules.proofs.Ends.{refuel}
use Rattle.rules.proofs.Agree.{Lacks, before, moved_along}
use Rattle.rules.proofs.Spots.{Spot, arrived, under, past, fill, bytes_before, Side, left, right, side}
use Rattle.rules.proofs.Spots.{no_spot_nil, fits}
use Rattle.rules.proofs.Flow.{Mode, short_lacks, IsNode, Steady, Fair, Flow, f_weak, f_done, f_stop, f_step}
use Rattle.rules.proofs.Flow.{f_refuse, f_when, f_expect, f_look, f_after, f_seq, f_many, f_wrap, f_said}
use Rattle.rules.proofs.Flow.{f_marked, f_paired, f_pass, f_last}
use Rattle.rules.proofs.Reach.{Bound, bound_above, reach}
use Rattle.rules.proofs.Found.{Last, last_weak, closes, none, none_step, all_loop, found}

-- One of two by a test, where the test comes out the same.
pick_both : (R : Answer → Type 0) (b b' : Bool) (x y x' y' : Answer) {a : Bool} {o : Forest} {q : ℕ}
    → b ≡ b'
    → pick b x y ≡ got a o q
    → (x ≡ got a o q → R x')
    → (y ≡ got a o q → R y')
    → R (pick b' x' y')
pick_both R true b' x y x' y' e h f g = subst (λ (c : Bool). R (pick c x' y')) e (f h)
pick_both R false b' x y x' y' e h f g = subst (λ (c : Bool). R (pick c x' y')) e (g h)

pair_in : (s : List ℕ) (F d : ℕ) (t c u : Rule) (v : Forest → Forest → Verdict)
    (e at : ℕ) {o₁ h r : Forest} {p₁ p₂ p : ℕ} {b b₂ : Bool}
    → parse s F t e at ≡ got true o₁ p₁
    → parse s F c e p₁ ≡ got b h p₂
    → parse s F u e p₂ ≡ got b₂ r p
    → v o₁ r ≡ fine
    → parse s F (paired t d c u v) e at ≡ got true (o₁ ⋈ group (content d) h r) p
unfolding parse
pair_in s F d t c u v e at x y z m = rw (x, y, z, m)

pair_alone : (s : List ℕ) (F d : ℕ) (t c u : Rule) (v : Forest → Forest → Verdict) (e at : ℕ) {o : Forest} {p : ℕ}
    → parse s F t e at ≡ got false o p
    → parse s F (paired t d c u v) e at ≡ got true o p
unfolding parse
pair_alone s F d t c u v e at x = rw x

seq_in : (s : List ℕ) (F : ℕ) (t u : Rule) (e at : ℕ) {a : Bool} {v w : Forest} {p q : ℕ}
    → parse s F t e at ≡ got true v p
    → parse s F u e p ≡ got a w q
    → parse s F (seq t u) e at ≡ got a (v ⋈ w) q
unfolding parse
seq_in s F t u e at x y = rw (x, y)

seq_alone : (s : List ℕ) (F : ℕ) (t u : Rule) (e at : ℕ) {v : Forest} {p : ℕ}
    → parse s F t e at ≡ got false v p
    → parse s F (seq t u) e at ≡ got false v p
unfolding parse
seq_alone s F t u e at x = rw x

said_in : (s : List ℕ) (F : ℕ) (f : Forest → Bool) (r t u : Rule) (e at : ℕ) {a : Bool} {v w : Forest} {p q : ℕ}
    (b : Bool)
    → parse s F r e at ≡ got true v p
    → f v ≡ b
    → pick b (parse s F t e p) (parse s F u e p) ≡ got a w q
    → parse s F (said f r t u) e at ≡ got a (v ⋈ w) q
unfolding parse
said_in s F f r t u e at b x c y = rw (x, c, y)

wrap_in : (s : List ℕ) (F : ℕ) (l : Forest → Label) (t : Rule) (e at : ℕ) {a : Bool} {v : Forest} {p : ℕ}
    → parse s F t e at ≡ got a v p
    → parse s F (wrap l t) e at ≡ got a (group (l v) v nil) p
unfolding parse
wrap_in s F l t e at x = rw x

many_is : (s : List ℕ) (F : ℕ) (t : Rule) (e at : ℕ) → parse s F (many t) e at ≡ repeat (parse s F t e) F at
unfolding parse
many_is s F t e at = refl

-- p: where the content c₀ begins in s. B: where the content c₁, which stands there in s', ends. K, K':
-- what a place behind the content is moved by.
module _ (C : ℕ → Rule) (Q : Test) (R : Label → Forest → Type 0) (s s' : List ℕ) (d : ℕ) (c₀ c₁ : Forest) (p B K K' : ℕ)
    (pl : p + width c₀ ≤ length s) (pl' : p ≤ length s')
    (ante : (n : ℕ) → n < p → byte_at s n ≡ byte_at s' n)
    (post : (n n' : ℕ) → n + K' ≡ n' + K → p + width c₀ ≤ n → byte_at s n ≡ byte_at s' n')
    (lengths : length s + K' ≡ length s' + K) (shift : p + width c₀ + K' ≡ B + K) (pB : p ≤ B)
    (closed : (j : ℕ) → j + 1 ≡ p → Q (byte_at s j) ≡ true) (low : (b : ℕ) → Q b ≡ true → ltb b 0x80 ≡ true)
    (reads : (m : ℕ) → parsed s' (C d) m p ≡ got true c₁ B) where
  abbrev old : Rule → ℕ → ℕ → Answer
  old t e at = parsed s t e at

  abbrev new : Rule → ℕ → ℕ → Answer
  new t e at = parsed s' t e at

  -- Before the content.
  early : (t : Rule) (e e' at : ℕ) {a : Bool} {o : Forest} {p₁ : ℕ}
      → old t e at ≡ got a o p₁
      → Looks (Lacks Q) s p (suc (length s)) t e at
      → p₁ ≤ p
      → at ≤ p
      → new t e' at ≡ got a o p₁
  early t e e' at {a} {o} {p₁} h lk le l₀ = res.1 ∙ ap (λ (n : ℕ). got a o n) (omega (arith, res.2))
    where
      res : (n : ℕ) × (new t e' at ≡ got a o n) × (p₁ + 0 ≡ n + 0)
      res =
          local_got (Lacks Q) s s' 0 0 at p (suc p) (omega arith)
          (before s s' p ante (omega arith) pl' Q closed (λ h. low) at)
          (suc (length s)) (suc (length s')) t e e' at at (omega arith) refl (le_refl _) lk h (omega arith)

  -- Behind the content.
  later : (t : Rule) (e e' at at' : ℕ) {a : Bool} {o : Forest} {q : ℕ}
      → p + width c₀ ≤ at
      → at ≤ length s
      → at + K' ≡ at' + K
      → old t e at ≡ got a o q
      → (q' : ℕ) × (new t e' at' ≡ got a o q') × (q + K' ≡ q' + K)
  later t e e' at at' lo le tw h =
      let ql = top_got s (suc (length s)) t e at le h in
      local_got (λ w. Unit {0}) s s' K K' (p + width c₀) (suc (length s)) (suc (length s)) (le_refl _)
      (moved_along s s' K K' (p + width c₀) post lengths (λ w. Unit {0}) (suc (length s)))
      (suc (length s)) (suc (length s')) t e e' at at' (omega arith) tw lo (sees s (suc (length s)) t e at le) h
      (omega arith)

  abbrev Res : Bool → (o : Forest) → Spot d c₀ o → ℕ → Answer → Type 0
  Res a o ω q x = (q' : ℕ) × (x ≡ got a (fill ω c₁) q') × (q + K' ≡ q' + K)

  -- For every spot that is the place.
  abbrev Every : (at : ℕ) → Bool → Forest → ℕ → Answer → Type 0
  Every at a o q x = (ω : Spot d c₀ o) → at + bytes_before ω ≡ p → Res a o ω q x

  every_is : {o o' : Forest} (at : ℕ) (a : Bool) (q : ℕ) (x : Answer) → o ≡ o' → Every at a o' q x → Every at a o q x
  every_is at a q x h k = subst (λ (o : Forest). Every at a o q x) (sym h) k

  -- What a flow says of a content: looked at before it, and no further.
  there : {i g k : Mode} {t : Rule}
      → Flow C Q R i t g k
      → (e at : ℕ) (a : Bool) (o : Forest) (q : ℕ) → old t e at ≡ got a o q
      → Last C Q R s (suc (length s)) i at
      → (ω : Spot d c₀ o) → at + bytes_before ω ≡ p
      → Bound C Q R s (suc (length s)) i at p × (at < p)
  there {i = i} fl e at a o q h l ω sp =
      let x = found C Q R s (suc (length s)) d c₀ fl e at a o q h l ω in
      let y = x.2 in
      (subst (λ (n : ℕ). Bound C Q R s (suc (length s)) i at n) sp x.0, omega arith)

  -- A rule before the content, bound by what follows it.
  same_before : {i g k : Mode} {t : Rule}
      → Flow C Q R i t g k
      → (e e' at : ℕ) (a : Bool) (o : Forest) (q : ℕ) → old t e at ≡ got a o q
      → at ≤ p
      → Bound C Q R s (suc (length s)) (pick a g k) q p
      → new t e' at ≡ got a o q
  same_before {g = g} {k = k} {t = t} fl e e' at a o q h l b =
      early t e e' at h (reach C Q R s (suc (length s)) fl e at a o q h p b).0
      (bound_above C Q R s (suc (length s)) (pick a g k) q p b) l

  -- One reading, then another.
  seq_refill : (t u : Rule) (e e' at : ℕ) (a : Bool) (o : Forest) (q : ℕ)
      → at ≤ length s
      → SeqOut (old t e at) (old u e) a o q
      → ((b : Bool) (v : Forest) (z : ℕ) → old t e at ≡ got b v z → Every at b v z (new t e' at))
      → ((o₁ : Forest) (p₁ : ℕ) (o₂ : Forest) → old t e at ≡ got true o₁ p₁ → old u e p₁ ≡ got a o₂ q
      → (ω : Spot d c₀ o₂) → p₁ + bytes_before ω ≡ p → (new t e' at ≡ got true o₁ p₁) × Res a o₂ ω q (new u e' p₁))
      → Every at a o q (new (seq t u) e' at)
  seq_refill t u e e' at a o q le (one x ae) ht hu = λ ω st.
      let X = ht false o q x ω st in (
        X.0,
        seq_alone s' (suc (length s')) t u e' at X.1
            ∙ ap (λ (b : Bool). got b (fill ω c₁) X.0) (sym ae),
        X.2,
      )
  seq_refill t u e e' at a o q le (two o₁ p₁ o₂ x y w) ht hu =
      every_is at a q (new (seq t u) e' at) w (λ ω. part ω (side o₁ o₂ ω))
    where
      w₁ : p₁ ≡ at + width o₁
      w₁ = wide_got s (suc (length s)) t e at x

      part : (ω : Spot d c₀ (o₁ ⋈ o₂))
          → Side o₁ o₂ ω
          → at + bytes_before ω ≡ p
          → Res a (o₁ ⋈ o₂) ω q (new (seq t u) e' at)
      part ω (left ω₁ f st) = λ sp.
          let X = ht true o₁ p₁ x ω₁ (omega arith) in
          let Y = later u e e' p₁ X.0 (omega (arith, w₁, fits ω₁)) (top_got s (suc (length s)) t e at le x)
          X.2 y in (
            Y.0,
            seq_in s' (suc (length s')) t u e' at X.1 Y.1
                ∙ ap (λ (n : Forest). got a n Y.0) (sym (f c₁)),
            Y.2,
          )
      part ω (right ω₂ f st) = λ sp.
          let X = hu o₁ p₁ o₂ x y ω₂ (omega (arith, w₁)) in (
            X.1.0,
            seq_in s' (suc (length s')) t u e' at X.0 X.1.1
                ∙ ap (λ (n : Forest). got a n X.1.0) (sym (f c₁)),
            X.1.2,
          )

  -- A loop.
  loop_refill : (m : Mode) (t : Rule) (e e' : ℕ)
      → ((at : ℕ) (b : Bool) (v : Forest) (z : ℕ) → at ≤ length s → old t e at ≡ got b v z
      → Last C Q R s (suc (length s)) m at → Every at b v z (new t e' at))
      → ((at : ℕ) (v : Forest) (z : ℕ) → old t e at ≡ got true v z → at ≤ p → Bound C Q R s (suc (length s)) m z p
      → new t e' at ≡ got true v z)
      → ((at : ℕ) (v : Forest) (z : ℕ) → old t e at ≡ got true v z → Last C Q R s (suc (length s)) m at
      → (ω : Spot d c₀ v) → at + bytes_before ω ≡ p → at < p)
      → ((f at : ℕ) (v : Forest) (z : ℕ) → repeat (old t e) f at ≡ got true v z → Last C Q R s (suc (length s)) m at
      → (ω : Spot d c₀ v) → at + bytes_before ω ≡ p → Bound C Q R s (suc (length s)) m at p)
      → ((at : ℕ) (v : Forest) (z : ℕ) → old t e at ≡ got true v z → Last C Q R s (suc (length s)) m at
      → Last C Q R s (suc (length s)) m z)
      → (f f' at : ℕ) {a : Bool} {o : Forest} {q : ℕ} → at ≤ length s
      → Last C Q R s (suc (length s)) m at
      → repeat (old t e) f at ≡ got a o q
      → q + K' < at + f' + K
      → Every at true o q (repeat (new t e') f' at)
  unfolding repeat
  loop_refill m t e e' hb eb pb ps hl zero f' at le la h l = trouble_got h
  loop_refill m t e e' hb eb pb ps hl (suc f) f' at {a} {o} {q} le la h l =
      go f' l (turn (old t e) f at h).1 (λ f'' p₁ v l₁ la₁ r k. loop_refill m t e e' hb eb pb ps hl f f'' p₁ l₁ la₁ r k)
    where
      IH : Type 0
      IH =
          (f'' p₁ : ℕ) (v : Forest) → p₁ ≤ length s → Last C Q R s (suc (length s)) m p₁
          → repeat (old t e) f p₁ ≡ got true v q → q + K' < p₁ + f'' + K → Every p₁ true v q (repeat (new t e') f'' p₁)

      tops : (n : ℕ) → n ≤ length s → Top (length s) (old t e n)
      tops n k = top s (suc (length s)) t e n k

      out_wide : q ≡ at + width o
      out_wide = (subst (Wide s at) h (wide_repeat s (old t e) (λ n. wide s (suc (length s)) t e n) (suc f) at)).0

      go : (f' : ℕ) → q + K' < at + f' + K → Turn (old t e) f at o q → IH → Every at true o q (repeat (new t e') f' at)
      go zero l tn ih = λ ω sp. absurd (omega (arith, fits ω, out_wide))
      go (suc f'') l (last k) ih =
          λ ω sp. let X = hb at false o q le k la ω sp in
          (X.0, turn_last (new t e') f'' at X.1, X.2)
      go (suc f'') l (goon o₁ p₁ v k lt r w) ih =
          every_is at true q (repeat (new t e') (suc f'') at) w (λ ω. part ω (side o₁ v ω))
        where
          p₁l : p₁ ≤ length s
          p₁l = top_got s (suc (length s)) t e at le k

          ql : q ≤ length s
          ql = subst (Top (length s)) r (top_repeat (length s) (old t e) tops f p₁ p₁l)

          w₁ : p₁ ≡ at + width o₁
          w₁ = wide_got s (suc (length s)) t e at k

          rest : old (many t) e p₁ ≡ got true v q
          rest =
              unfold parse in
              refuel (old t e) (λ n. up s (suc (length s)) t e n) f (suc (length s)) p₁ r (omega (arith, ql))

          part : (ω : Spot d c₀ (o₁ ⋈ v))
              → Side o₁ v ω
              → at + bytes_before ω ≡ p
              → Res true (o₁ ⋈ v) ω q (repeat (new t e') (suc f'') at)
          part ω (left ω₁ g st) = λ sp.
              let sp₁ : at + bytes_before ω₁ ≡ p = omega arith in
              let X = hb at true o₁ p₁ le k la ω₁ sp₁ in
              let fi = fits ω₁ in
              let w₂ = w₁ in
              let pb₁ = pb at o₁ p₁ k la ω₁ sp₁ in
              let Y = later (many t) e e' p₁ X.0 (omega arith) p₁l X.2 rest in
              let X₂ = X.2 in
              let Y₂ = Y.2 in (
                Y.0,
                turn_more (new t e') f'' at X.1 (omega arith)
                    ∙ ap (behind (fill ω₁ c₁)) (refuel (new t e') (λ n. up s' (suc (length s')) t e' n)
                    (suc (length s')) f'' X.0 (sym (many_is s' (suc (length s')) t e' X.0) ∙ Y.1) (omega arith))
                    ∙ ap (λ (n : Forest). got true n Y.0) (sym (g c₁)),
                Y.2,
              )
          part ω (right ω₂ g st) = λ sp.
              let w₂ = w₁ in
              let sp₂ : p₁ + bytes_before ω₂ ≡ p = omega arith in
              let la₁ = hl at o₁ p₁ k la in
              let X = ih f'' p₁ v p₁l la₁ r (omega arith) ω₂ sp₂ in (
                X.0,
                turn_more (new t e') f'' at (eb at o₁ p₁ k (omega arith) (ps f p₁ v q r la₁ ω₂ sp₂)) lt
                    ∙ ap (behind o₁) X.1 ∙ ap (λ (n : Forest). got true n X.0) (sym (g c₁)),
                X.2,
              )

  -- A reading with a content, one of two.
  fork_refill : (b b' : Bool) (t u : Rule) (e e' at : ℕ) (a : Bool) (o : Forest) (q : ℕ) (ω : Spot d c₀ o)
      → b ≡ b'
      → pick b (old t e at) (old u e at) ≡ got a o q
      → (old t e at ≡ got a o q → Res a o ω q (new t e' at))
      → (old u e at ≡ got a o q → Res a o ω q (new u e' at))
      → Res a o ω q (pick b' (new t e' at) (new u e' at))
  fork_refill b b' t u e e' at a o q ω eb h ht hu =
      pick_both (Res a o ω q) b b' (old t e at) (old u e at) (new t e' at) (new u e' at) eb h ht hu

  wrap_refill : (l : Forest → Label) (t : Rule) (e e' at : ℕ) (a : Bool) (v : Forest) (q : ℕ)
      → Steady l
      → Every at a v q (new t e' at)
      → Every at a (group (l v) v nil) q (new (wrap l t) e' at)
  unfolding fill bytes_before
  wrap_refill l t e e' at a v q st hv (arrived i j) = not_content (l v) (st.plain v) i
    where
      not_content : {X : Type 0} (m : Label) → IsNode m → m ≡ content d → X
      not_content (node k x) n i = let z : ◌≡◌ {A = ℕ} 0 1 = cc in absurd (omega arith)
      not_content (content k) n i = absurd n
  wrap_refill l t e e' at a v q st hv (under ω) = λ sp.
      let X = hv ω sp in (
        X.0,
        wrap_in s' (suc (length s')) l t e' at X.1
            ∙ ap (λ (m : Label). got a (group m (fill ω c₁) nil) X.0) (st.stays ω c₁),
        X.2,
      )
  wrap_refill l t e e' at a v q st hv (past ω) = absurd (no_spot_nil ω)

  said_refill : (f : Forest → Bool) (r t u : Rule) (e e' at : ℕ) (a : Bool) (o : Forest) (q : ℕ)
      → SaidOut f (old r e at) (old t e) (old u e) a o q
      → ((b : Bool) (v : Forest) (z : ℕ) → old r e at ≡ got b v z → Spot d c₀ v → ⊥)
      → ((o₁ : Forest) (p₁ : ℕ) (o₂ : Forest) → old r e at ≡ got true o₁ p₁ → old t e p₁ ≡ got a o₂ q
      → (ω : Spot d c₀ o₂) → p₁ + bytes_before ω ≡ p → (new r e' at ≡ got true o₁ p₁) × Res a o₂ ω q (new t e' p₁))
      → ((o₁ : Forest) (p₁ : ℕ) (o₂ : Forest) → old r e at ≡ got true o₁ p₁ → old u e p₁ ≡ got a o₂ q
      → (ω : Spot d c₀ o₂) → p₁ + bytes_before ω ≡ p → (new r e' at ≡ got true o₁ p₁) × Res a o₂ ω q (new u e' p₁))
      → Every at a o q (new (said f r t u) e' at)
  said_refill f r t u e e' at a o q (stopped x ae) nr ht hu = λ ω sp. absurd (nr false o q x ω)
  said_refill f r t u e e' at a o q (so o₁ p₁ o₂ x c y w) nr ht hu =
      every_is at a q (new (said f r t u) e' at) w (λ ω. part ω (side o₁ o₂ ω))
    where
      w₁ : p₁ ≡ at + width o₁
      w₁ = wide_got s (suc (length s)) r e at x

      part : (ω : Spot d c₀ (o₁ ⋈ o₂))
          → Side o₁ o₂ ω
          → at + bytes_before ω ≡ p
          → Res a (o₁ ⋈ o₂) ω q (new (said f r t u) e' at)
      part ω (left ω₁ g st) = λ sp. absurd (nr true o₁ p₁ x ω₁)
      part ω (right ω₂ g st) = λ sp.
          let X = ht o₁ p₁ o₂ x y ω₂ (omega (arith, w₁)) in (
            X.1.0,
            said_in s' (suc (length s')) f r t u e' at true X.0 c X.1.1
                ∙ ap (λ (n : Forest). got a n X.1.0) (sym (g c₁)),
            X.1.2,
          )
  said_refill f r t u e e' at a o q (otherwise o₁ p₁ o₂ x c y w) nr ht hu =
      every_is at a q (new (said f r t u) e' at) w (λ ω. part ω (side o₁ o₂ ω))
    where
      w₁ : p₁ ≡ at + width o₁
      w₁ = wide_got s (suc (length s)) r e at x

      part : (ω : Spot d c₀ (o₁ ⋈ o₂))
          → Side o₁ o₂ ω
          → at + bytes_before ω ≡ p
          → Res a (o₁ ⋈ o₂) ω q (new (said f r t u) e' at)
      part ω (left ω₁ g st) = λ sp. absurd (nr true o₁ p₁ x ω₁)
      part ω (right ω₂ g st) = λ sp.
          let X = hu o₁ p₁ o₂ x y ω₂ (omega (arith, w₁)) in (
            X.1.0,
            said_in s' (suc (length s')) f r t u e' at false X.0 c X.1.1
                ∙ ap (λ (n : Forest). got a n X.1.0) (sym (g c₁)),
            X.1.2,
          )

  pair_refill : (d₁ : ℕ) (t u : Rule) (v : Forest → Forest → Verdict) (e e' at : ℕ) (a : Bool) (o : Forest) (q : ℕ)
      → Fair v
      → at ≤ length s
      → PairOut s (suc (length s)) d₁ t (C d₁) u v e at a o q
      → ((b : Bool) (w : Forest) (z : ℕ) → old t e at ≡ got b w z → Every at b w z (new t e' at))
      → ((w : Forest) (z : ℕ) → old t e at ≡ got true w z → at ≤ p → z ≤ p → new t e' at ≡ got true w z)
      → ((o₁ : Forest) (p₁ : ℕ) (b : Bool) (w : Forest) (z : ℕ) → old t e at ≡ got true o₁ p₁
      → old (C d₁) e p₁ ≡ got b w z → Every p₁ b w z (new (C d₁) e' p₁))
      → ((n : ℕ) (b : Bool) (w : Forest) → old u e n ≡ got b w q → Spot d c₀ w → ⊥)
      → Every at a o q (new (paired t d₁ (C d₁) u v) e' at)
  unfolding fill bytes_before
  pair_refill d₁ t u v e e' at a o q fv le (lone x ae) ht et hc nu = λ ω sp.
      let X = ht false o q x ω sp in (
        X.0,
        pair_alone s' (suc (length s')) d₁ t (C d₁) u v e' at X.1
            ∙ ap (λ (b : Bool). got b (fill ω c₁) X.0) (sym ae),
        X.2,
      )
  pair_refill d₁ t u v e e' at a o q fv le (full o₁ p₁ b i p₂ b₂ r x y z nm w ae) ht et hc nu =
      every_is at a q (new (paired t d₁ (C d₁) u v) e' at) w (λ ω. part ω (side o₁ (group (content d₁) i r) ω))
    where
      w₁ : p₁ ≡ at + width o₁
      w₁ = wide_got s (suc (length s)) t e at x

      w₂ : p₂ ≡ p₁ + width i
      w₂ = wide_got s (suc (length s)) (C d₁) e p₁ y

      p₁l : p₁ ≤ length s
      p₁l = top_got s (suc (length s)) t e at le x

      p₂l : p₂ ≤ length s
      p₂l = top_got s (suc (length s)) (C d₁) e p₁ p₁l y

      same_depth : content d₁ ≡ content d → d₁ ≡ d
      same_depth k = cc

      inside : (ω₂ : Spot d c₀ (group (content d₁) i r))
          → p₁ + bytes_before ω₂ ≡ p
          → (q' : ℕ) × (new (paired t d₁ (C d₁) u v) e' at ≡ got true (o₁ ⋈ fill ω₂ c₁) q') × (q + K' ≡ q' + K)
      inside (arrived pk ph) = λ sp.
          let pe : p₁ ≡ p = omega arith in
          let de : d₁ ≡ d = same_depth pk in
          let Y = later u e e' p₂ B (omega (arith, w₂, ap width ph)) p₂l (omega (arith, w₂, ap width ph)) z in (
            Y.0,
            pair_in s' (suc (length s')) d₁ t (C d₁) u v e' at (et o₁ p₁ x (omega (arith, w₁)) (omega arith))
                ((λ j. new (C (de j)) e' (pe j)) ∙ reads e') Y.1 nm,
            Y.2,
          )
      inside (under ω₃) = λ sp.
          let X = hc o₁ p₁ b i p₂ x y ω₃ sp in
          let Y = later u e e' p₂ X.0 (omega (arith, w₂, fits ω₃)) p₂l X.2 z in (
            Y.0,
            pair_in s' (suc (length s')) d₁ t (C d₁) u v e' at (et o₁ p₁ x (omega (arith, w₁)) (omega arith))
                X.1 Y.1 nm,
            Y.2,
          )
      inside (past ω₄) = absurd (nu p₂ b₂ r z ω₄)

      part : (ω : Spot d c₀ (o₁ ⋈ group (content d₁) i r))
          → Side o₁ (group (content d₁) i r) ω
          → at + bytes_before ω ≡ p
          → Res a (o₁ ⋈ group (content d₁) i r) ω q (new (paired t d₁ (C d₁) u v) e' at)
      part ω (left ω₁ f st) = λ sp.
          let X = ht true o₁ p₁ x ω₁ (omega arith) in
          let Y = later (C d₁) e e' p₁ X.0 (omega (arith, w₁, fits ω₁)) p₁l X.2 y in
          let Z = later u e e' p₂ Y.0 (omega (arith, w₁, w₂, fits ω₁)) p₂l Y.2 z in (
            Z.0,
            pair_in s' (suc (length s')) d₁ t (C d₁) u v e' at X.1 Y.1 Z.1 (fv.stays ω₁ c₁ r nm)
                ∙ (λ j. got (sym ae j) (sym (f c₁) j) Z.0),
            Z.2,
          )
      part ω (right ω₂ f st) = λ sp.
          let X = inside ω₂ (omega (arith, w₁)) in
          (X.0, X.1 ∙ (λ j. got (sym ae j) (sym (f c₁) j) X.0), X.2)

  -- The law of replacing, for every grammar.
  pub refill : {i g k : Mode} {t : Rule}
      → Flow C Q R i t g k
      → (e e' at : ℕ) (a : Bool) (o : Forest) (q : ℕ) → at ≤ length s
      → Last C Q R s (suc (length s)) i at
      → old t e at ≡ got a o q
      → Every at a o q (new t e' at)
  unfolding parse
  refill (f_weak wi wg wk x) e e' at a o q le l h =
      refill x e e' at a o q le (last_weak C Q R s (suc (length s)) at wi l) h
  refill f_done e e' at a o q le l h = λ ω sp. absurd (no_spot_nil (subst (Spot d c₀) (sym (got_same h).1) ω))
  refill f_stop e e' at a o q le l h = λ ω sp. absurd (no_spot_nil (subst (Spot d c₀) (sym (got_same h).1) ω))
  refill f_step e e' at a o q le l h = λ ω sp. absurd (none_step C Q R s (suc (length s)) d c₀ e at h ω)
  refill (f_refuse {n = n} {w = w} x) e e' at a o q le l h = refusal_got n w e at h
  refill (f_when {f = f} {t} {u} sn x y) e e' at a o q le l h = λ ω sp.
      let B = there (f_when {f = f} sn x y) e at a o q h l ω sp in
      fork_refill (f (byte_at s at)) (f (byte_at s' at)) t u e e' at a o q ω (ap f (ante at B.1)) h
      (λ z. refill x e e' at a o q le l z ω sp) (λ z. refill y e e' at a o q le l z ω sp)
  refill (f_expect {f = f} {u} n x) e e' at a o q le l h = λ ω sp.
      let B = there (f_expect {f = f} n x) e at a o q h l ω sp in
      fork_refill (f (byte_at s at)) (f (byte_at s' at)) step u e e' at a o q ω (ap f (ante at B.1)) h
      (λ z. absurd (none_step C Q R s (suc (length s)) d c₀ e at z ω)) (λ z. refill x e e' at a o q le l z ω sp)
  refill (f_look {w = w} {t} {u} sn pw x y) e e' at a o q le l h = λ ω sp.
      let B = there (f_look {w = w} sn pw x y) e at a o q h l ω sp in
      fork_refill (stands s w at) (stands s' w at) t u e e' at a o q ω
      ((before s s' p ante (omega arith) pl' Q closed (λ h. low) at at at refl (le_refl _) B.1).2 w
      (short_lacks Q w pw)) h
      (λ z. refill x e e' at a o q le l z ω sp) (λ z. refill y e e' at a o q le l z ω sp)
  refill (f_after {f = f} {r} {t} {u} gr fr x y) e e' at a o q le l h = λ ω sp.
      let B = there (f_after {f = f} gr fr x y) e at a o q h l ω sp in
      let v = then_got (old r e at) _ h in
      let er = going s (suc (length s)) r e at gr v.3 in
      let R = B.0.1 e v.1 v.2 er in
      let lt : v.2 < p = R.0 in
      let ul = up_got s (suc (length s)) r e at er in
      let re : new r e' at ≡ got true v.1 v.2 = early r e e' at er R.1 (omega arith) (omega arith) in
      subst (λ (z : Answer). Res a o ω q (and_then z (λ b w n. pick (f (byte_at s' n)) (new t e' at) (new u e' at))))
      (sym re)
      (fork_refill (f (byte_at s v.2)) (f (byte_at s' v.2)) t u e e' at a o q ω (ap f (ante v.2 lt)) v.4
      (λ z. refill x e e' at a o q le tt z ω sp) (λ z. refill y e e' at a o q le tt z ω sp))
  refill (f_seq {m = m} {t = t} {u} x y) e e' at a o q le l h =
      seq_refill t u e e' at a o q le (seq_read s (suc (length s)) t u e at h)
      (λ b v z w ω sp. refill x e e' at b v z le l w ω sp)
      (λ o₁ p₁ o₂ z w ω sp.
      let l₁ = closes C Q R s (suc (length s)) x e at true o₁ p₁ z l in
      let B = there y e p₁ a o₂ q w l₁ ω sp in
      let ul = up_got s (suc (length s)) t e at z in
      let lt : p₁ < p = B.1 in (
        same_before x e e' at true o₁ p₁ z (omega arith) B.0,
        refill y e e' p₁ a o₂ q
            (top_got s (suc (length s)) t e at le z) l₁ w ω sp,
      ))
  refill (f_many {m} {k} {k'} {t} ad x) e e' at a o q le l h = λ ω sp.
      let ql = top_got s (suc (length s)) (many t) e at le h in
      let X = loop_refill m t e e' (λ n b v z i w j. refill x e e' n b v z i j w)
      (λ n v z w ln b. same_before x e e' n true v z w ln b)
      (λ n v z w j ω sp. (there x e n true v z w j ω sp).1)
      (λ f n v z w j ω sp. subst (λ (y : ℕ). Bound C Q R s (suc (length s)) m n y) sp
      (all_loop C Q R s (suc (length s)) d c₀ m (old t e) (λ i b o r c. wide_got s (suc (length s)) t e i c)
      (λ i b o r c n. found C Q R s (suc (length s)) d c₀ x e i b o r c n) (λ i o r c n. closes C Q R s (suc (length s))
      x e i true o r c n) (λ i o r hi c b. (reach C Q R s (suc (length s)) x e i true o r c hi b).1) f n w j ω).0)
      (λ n v z w j. closes C Q R s (suc (length s)) x e n true v z w j)
      (suc (length s)) (suc (length s')) at le l h (omega arith) ω sp in
      let ae : a
      ≡ true = got_goes (repeat (old t e) (suc (length s)) at) (goes_repeat (old t e) (suc (length s)) at) h in
      (X.0, X.1 ∙ ap (λ (b : Bool). got b (fill ω c₁) X.0) (sym ae), X.2)
  refill (f_wrap {l = lb} {t = t} st ft x) e e' at a o q le l h =
      let w = wrap_read s (suc (length s)) lb t e at h in
      every_is at a q (new (wrap lb t) e' at) w.2
      (wrap_refill lb t e e' at a w.0 q st (λ ω sp. refill x e e' at a w.0 q le l w.1 ω sp))
  refill (f_said {f = f} {r} {t} {u} cl x y z) e e' at a o q le l h =
      said_refill f r t u e e' at a o q (said_read s (suc (length s)) f r t u e at h)
      (λ b v i w n. none C Q R s (suc (length s)) d c₀ x cl e at b v i w n)
      (λ o₁ p₁ o₂ i w ω sp.
      let l₁ = closes C Q R s (suc (length s)) x e at true o₁ p₁ i l in
      let B = there y e p₁ a o₂ q w l₁ ω sp in
      let ul = up_got s (suc (length s)) r e at i in
      let lt : p₁ < p = B.1 in (
        same_before x e e' at true o₁ p₁ i (omega arith) B.0,
        refill y e e' p₁ a o₂ q
            (top_got s (suc (length s)) r e at le i) l₁ w ω sp,
      ))
      (λ o₁ p₁ o₂ i w ω sp.
      let l₁ = closes C Q R s (suc (length s)) x e at true o₁ p₁ i l in
      let B = there z e p₁ a o₂ q w l₁ ω sp in
      let ul = up_got s (suc (length s)) r e at i in
      let lt : p₁ < p = B.1 in (
        same_before x e e' at true o₁ p₁ i (omega arith) B.0,
        refill z e e' p₁ a o₂ q
            (top_got s (suc (length s)) r e at le i) l₁ w ω sp,
      ))
  refill (f_marked x) e e' at a o q le l h = λ ω sp. refill x at at at a o q le l h ω sp
  refill (f_paired {d = d₁} {t} {u} {v} fv av x gc y cl z) e e' at a o q le l h =
      pair_refill d₁ t u v e e' at a o q fv le (pair_out s (suc (length s)) d₁ t (C d₁) u v e at h)
      (λ b w i r ω sp. refill x e e' at b w i le l r ω sp)
      (λ w i r l₁ l₂. same_before x e e' at true w i r l₁ l₂)
      (λ o₁ p₁ b w i r c ω sp. refill y e e' p₁ b w i (top_got s (suc (length s)) t e at le r)
      (closes C Q R s (suc (length s)) x e at true o₁ p₁ r l) c ω sp)
      (λ n b w r i. none C Q R s (suc (length s)) d c₀ z cl e n b w q r i)
  refill (f_pass gt cl x) e e' at a o q le l h = λ ω sp. absurd (none C Q R s (suc (length s)) d c₀ x cl e at a o q h ω)
  refill (f_last gr cl x) e e' at a o q le l h = λ ω sp. absurd (none C Q R s (suc (length s)) d c₀ x cl e at a o q h ω)
