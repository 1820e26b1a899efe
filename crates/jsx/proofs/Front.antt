-- A run in front of something: its children are read the same, and a text at its end meets what follows.
use mathlib.Core.Path.{◌≡◌, refl, sym, ap, subst, ◌∙◌}
use mathlib.Core.Bool.{Bool, true, false}
use mathlib.Core.List.{List, ◌++◌}
use Prim.Native.Nat.{ℕ, zero, suc, ◌+◌, ◌≤◌, ◌<◌}
use native.Mathlib.Omega.{arith}
use native.Mathlib.Nat.{le_refl}
use lib.ListN.{length, length-append}
use lib.Dec.{ltb}
use borrow.Author.Tests.{ltb-true, ltb-false}
use Rattle.rules.specs.Forest.{Label, node, Forest, nil, byte, group, ◌⋈◌}
use Rattle.rules.specs.Rule.{Rule, many}
use Rattle.rules.specs.Parse.{got, behind, byte_at, repeat, parse}
use Rattle.rules.proofs.Forests.{behind_nil}
use Rattle.rules.proofs.Got.{trouble_got, false_true}
use Rattle.rules.proofs.Local.{Up, up, up_repeat, Looks, local_got}
use Rattle.rules.proofs.Ends.{Top, top, top_got, top_repeat, Turn, last, goon, turn, turn_more, turn_last, refuel}
use Rattle.rules.proofs.Agree.{Lacks, before, byte_in, Plain, byte_end, byte_beyond}
use Rattle.rules.proofs.Flow.{shut, near, same, tight_near, seen_near, advances, Flow, f_weak, f_stop, f_step, f_when}
use Rattle.rules.proofs.Flow.{f_many}
use Rattle.rules.proofs.Reach.{reach}
use Rattle.rules.proofs.Found.{Last}
use Rattle.rules.proofs.Joined.{meet, join, meet_right, join_left}
use Rattle.jsx.specs.Kind as Kind
use Rattle.jsx.specs.Text.{in_text}
use Rattle.jsx.specs.Element.{child}
use Rattle.jsx.specs.Compose.{text_label}
use Rattle.jsx.specs.Depth.{within}
use Rattle.jsx.proofs.Pieces.{any_byte, any_not_alone, any_node}
use Rattle.jsx.proofs.Paired.{well_paired}
use Rattle.jsx.proofs.Shape.{content_of, closer, closer_low}
use Rattle.jsx.proofs.Child.{inner, text_in, tbody, TextByte, tstop, tstep, text_byte, byte_step, byte_stop}
use Rattle.jsx.proofs.Child.{text_ends, cbody, Child, ends, a_text, other, child_of, text_child, end_stop}

-- The bytes of a text: no more is looked at than the byte behind them.
texts_flow : Flow content_of any_byte any_node near (many inner) near near
unfolding advances
texts_flow = f_many refl (f_when seen_near (f_weak same tight_near same f_step) f_stop)

-- x in front of y
module _ (x y : List ℕ) (px : Plain x) (Fx Fz e d : ℕ) (big : length (x ++ y) < Fz) where
  z : List ℕ
  z = x ++ y

  long : length x ≤ length (x ++ y)
  long = omega (arith, length-append x y)

  -- what the reading of a text at the end of x goes on with
  seam : (f p : ℕ) {a : Bool} {c : Forest}
      → repeat (tbody x Fx e) f p ≡ got a c (length x)
      → (f₀ : ℕ) {h : Forest} {t : ℕ} → repeat (tbody (x ++ y) Fz e) f₀ (length x) ≡ got true h t
      → (f' : ℕ) → t < p + f'
      → repeat (tbody (x ++ y) Fz e) f' p ≡ got true (c ⋈ h) t
  unfolding repeat ◌⋈◌
  seam zero p q f₀ qh f' l = trouble_got q
  seam (suc f) p {a} {c} q f₀ {h} {t} qh f' l =
      go (turn (tbody x Fx e) f p q).1 f' l (λ p₁ v r f'' l'. seam f p₁ r f₀ qh f'' l')
    where
      T : Type 0
      T = (f' : ℕ) → t < p + f' → repeat (tbody (x ++ y) Fz e) f' p ≡ got true (c ⋈ h) t

      stopped : TextByte x Fx e p false c (length x) → T
      stopped (tstop u v w r) = λ f' l. subst (λ (n : ℕ). repeat (tbody (x ++ y) Fz e) f' n ≡ got true (c ⋈ h) t) r
          (refuel (tbody (x ++ y) Fz e) (λ n. up (x ++ y) Fz inner e n) f₀ f' (length x) qh (omega arith)
          ∙ ap (λ (n : Forest). got true (n ⋈ h) t) (sym w))
      stopped (tstep u v w r) = λ f' l. false_true refl u

      stepped : (o : Forest) (p₁ : ℕ) (v : Forest)
          → TextByte x Fx e p true o p₁
          → p < p₁
          → repeat (tbody x Fx e) f p₁ ≡ got true v (length x)
          → c ≡ o ⋈ v
          → ((p₁ : ℕ) (v : Forest) → repeat (tbody x Fx e) f p₁ ≡ got true v (length x) → (f'' : ℕ) → t < p₁ + f''
          → repeat (tbody (x ++ y) Fz e) f'' p₁ ≡ got true (v ⋈ h) t)
          → T
      stepped o p₁ v (tstop u a b g) lt r w ih f' l = false_true u refl
      stepped o p₁ v (tstep u a b g) lt r w ih zero l =
          absurd (omega (
            arith,
            subst (Up (length x)) qh
                (up_repeat (tbody (x ++ y) Fz e) (λ n. up (x ++ y) Fz inner e n) f₀ (length x)),
            text_in x p a,
          ))
      stepped o p₁ v (tstep u a b g) lt r w ih (suc f'') l = let li = text_in x p a in
          let be : byte_at x p ≡ byte_at (x ++ y) p = byte_in x y p li in
          turn_more (tbody (x ++ y) Fz e) f'' p (byte_step (x ++ y) Fz e p (ap in_text (sym be) ∙ a)) (omega arith)
          ∙ ap (λ (n : ℕ). behind (byte (byte_at (x ++ y) p) nil) (repeat (tbody (x ++ y) Fz e) f'' n)) (sym g)
          ∙ ap (behind (byte (byte_at (x ++ y) p) nil)) (ih p₁ v r f'' (omega arith))
          ∙ ap (λ (n : ℕ). got true (byte n (v ⋈ h)) t) (sym be)
          ∙ ap (λ (n : Forest). got true ((n ⋈ v) ⋈ h) t) (sym b)
          ∙ ap (λ (n : Forest). got true (n ⋈ h) t) (sym w)

      go : Turn (tbody x Fx e) f p c (length x)
          → (f' : ℕ) → t < p + f'
          → ((p₁ : ℕ) (v : Forest) → repeat (tbody x Fx e) f p₁ ≡ got true v (length x) → (f'' : ℕ) → t < p₁ + f''
          → repeat (tbody (x ++ y) Fz e) f'' p₁ ≡ got true (v ⋈ h) t)
          → repeat (tbody (x ++ y) Fz e) f' p ≡ got true (c ⋈ h) t
      go (last k) f' l ih = stopped (text_byte x Fx e p k) f' l
      go (goon o p₁ v k lt r w) f' l ih = stepped o p₁ v (text_byte x Fx e p k) lt r w ih f' l

  -- R: what the whole reads from where x ends
  module _ (f₀ : ℕ) (v : Forest) (q : ℕ) (zR : repeat (cbody (x ++ y) Fz e d) f₀ (length x) ≡ got true v q) where
    Goal : ℕ → ℕ → Forest → Type 0
    Goal f' at u = repeat (cbody (x ++ y) Fz e d) f' at ≡ got true (join text_label u v) q

    q_ge : length x ≤ q
    q_ge =
        subst (Up (length x)) zR
        (up_repeat (cbody (x ++ y) Fz e d) (λ n. up (x ++ y) Fz (child (within d)) e n) f₀ (length x))

    q_le : q ≤ length (x ++ y)
    q_le =
        subst (Top (length (x ++ y))) zR (top_repeat (length (x ++ y)) (cbody (x ++ y) Fz e d)
        (λ n k. top (x ++ y) Fz (child (within d)) e n k) f₀ (length x) long)

    again : (f' : ℕ) → q < length x + f' → repeat (cbody (x ++ y) Fz e d) f' (length x) ≡ got true v q
    again f' l = refuel (cbody (x ++ y) Fz e d) (λ n. up (x ++ y) Fz (child (within d)) e n) f₀ f' (length x) zR l

    -- a child that reads the same in front of y; then the rest
    onward : (f'' at : ℕ) (k : Label) (c : Forest) (p : ℕ) (u' u : Forest)
        → cbody (x ++ y) Fz e d at ≡ got true (group k c nil) p
        → at < p
        → Goal f'' p u'
        → join text_label (group k c u') v ≡ group k c (join text_label u' v)
        → u ≡ group k c u'
        → Goal (suc f'') at u
    unfolding Goal ◌⋈◌
    onward f'' at k c p u' u hz lt ih me ue =
        turn_more (cbody (x ++ y) Fz e d) f'' at hz lt
        ∙ ap (behind (group k c nil)) ih
        ∙ ap (λ (n : Forest). got true n q) (sym me ∙ ap (λ (n : Forest). join text_label n v) (sym ue))

    -- What stands in x, read in front of y.
    xz : (t : Rule) (at : ℕ) {o : Forest} {p : ℕ}
        → parse x Fx t e at ≡ got true o p
        → Looks (Lacks closer) x p Fx t e at
        → Last content_of closer well_paired x Fx shut p
        → at ≤ p
        → p ≤ length x
        → parse (x ++ y) Fz t e at ≡ got true o p
    xz t at {o} {p} h lk la up₁ le = let r = res in r.1 ∙ ap (λ (n : ℕ). got true o n) (omega arith)
      where
        res : (n : ℕ) × (parse (x ++ y) Fz t e at ≡ got true o n) × (p + 0 ≡ n + 0)
        res = let g = long in local_got (Lacks closer) x (x ++ y) 0 0 at p (suc p) (omega arith)
            (before x (x ++ y) p (λ m lm. byte_in x y m (omega arith)) le (omega arith) closer
            (λ j ej. subst (λ (n : ℕ). closer (byte_at x n) ≡ true) (omega (arith, la.1)) la.2)
            (λ k. closer_low) at) Fx Fz t e e at at
            (omega arith) refl (le_refl _) lk h (omega arith)

    xt : (at : ℕ) {c : Forest} {p : ℕ}
        → repeat (tbody x Fx e) Fx at ≡ got true c p
        → p < length x
        → repeat (tbody (x ++ y) Fz e) Fz at ≡ got true c p
    unfolding parse
    xt at {c} {p} h le = let r = res in r.1 ∙ ap (λ (n : ℕ). got true c n) (omega arith)
      where
        res : (n : ℕ) × (parse (x ++ y) Fz (many inner) e at ≡ got true c n) × (p + 0 ≡ n + 0)
        res = let g = long in local_got (Lacks any_byte) x (x ++ y) 0 0 at (1 + p) (1 + p) (omega arith)
            (before x (x ++ y) (1 + p) (λ m lm. byte_in x y m (omega arith)) (omega arith) (omega arith) any_byte
            (λ j ej. refl) any_not_alone at) Fx Fz (many inner) e e at at (omega arith) refl (le_refl _)
            (reach content_of any_byte any_node x Fx texts_flow e at true c p h (1 + p) (omega arith)).0 h (omega arith)

    -- x is at its end.
    empty : (f : ℕ) {u' : Forest} {p : ℕ} → repeat (cbody x Fx e d) f (length x) ≡ got true u' p → u' ≡ nil
    unfolding repeat
    empty zero h = trouble_got h
    empty (suc f) {u'} {p} h =
        let k : got true nil (length x) ≡ got true u' p = sym (turn_last (cbody x Fx e d) f (length x)
        (end_stop x Fx e d (length x) (byte_beyond x (length x) (le_refl _))))
        ∙ h in
        sym (cc)

    begins : (f p₁ : ℕ) {u' : Forest} {p : ℕ}
        → p₁ < length x
        → in_text (byte_at x p₁) ≡ false
        → repeat (cbody x Fx e d) f p₁ ≡ got true u' p
        → byte_at x p ≡ 256
        → (k : Label) × (c : Forest) × (u'' : Forest) × (u' ≡ group k c u'')
    unfolding repeat ◌⋈◌
    begins zero p₁ lt nt h be = trouble_got h
    begins (suc f) p₁ {u'} {p} lt nt h be = go (turn (cbody x Fx e d) f p₁ h).1
      where
        G : Type 0
        G = (k : Label) × (c : Forest) × (u'' : Forest) × (u' ≡ group k c u'')

        stops : Child x Fx e d p₁ false u' p → G
        stops (ends a b c g z₀) = let n = byte_end x px p₁ (ap (byte_at x) (sym c) ∙ be) in absurd (omega arith)
        stops (a_text a b c g i) = false_true refl a
        stops (other a b n₁ r₁ i j l m) = false_true refl a

        goes : (o : Forest) (p₂ : ℕ) (v' : Forest) → u' ≡ o ⋈ v' → Child x Fx e d p₁ true o p₂ → G
        goes o p₂ v' w (ends a b c g z₀) = false_true a refl
        goes o p₂ v' w (a_text a b c g i) = false_true nt b
        goes o p₂ v' w (other a b n₁ r₁ i j l m) = (n₁.0, n₁.1, v', w ∙ ap (λ (n : Forest). n ⋈ v') n₁.2)

        go : Turn (cbody x Fx e d) f p₁ u' p → G
        go (last k) = stops (child_of x Fx e d p₁ k)
        go (goon o p₂ v' k l r w) = goes o p₂ v' w (child_of x Fx e d p₁ k)

    after_text : (c u' : Forest)
        → (k : Label) × (c' : Forest) × (u'' : Forest) × (u' ≡ group k c' u'')
        → join text_label (group (node Kind.text 0) c u') v ≡ group (node Kind.text 0) c (join text_label u' v)
    unfolding join
    after_text c u' (k, c', u'', h) = rw h refl

    -- x ends in a text
    module _ (at : ℕ) (c : Forest) (tx : in_text (byte_at x at) ≡ true)
        (tr : repeat (tbody x Fx e) Fx (at + 1) ≡ got true c (length x)) where
      at_in : at < length x
      at_in = text_in x at tx

      be : byte_at x at ≡ byte_at (x ++ y) at
      be = byte_in x y at at_in

      zx : in_text (byte_at (x ++ y) at) ≡ true
      zx = ap in_text (sym be) ∙ tx

      -- and no text follows
      apart : in_text (byte_at (x ++ y) (length x)) ≡ false
          → meet text_label (node Kind.text 0) (byte (byte_at x at) c) v
          ≡ group (node Kind.text 0) (byte (byte_at x at) c) v
          → (f'' : ℕ) → q < at + suc f''
          → Goal (suc f'') at (group (node Kind.text 0) (byte (byte_at x at) c) nil)
      unfolding Goal join ◌⋈◌
      apart nt me f'' l = let li = at_in in let lo = long in
          turn_more (cbody (x ++ y) Fz e d) f'' at (text_child (x ++ y) Fz e d at zx (seam Fx (at + 1) tr 1
          (turn_last (tbody (x ++ y) Fz e) 0 (length x) (byte_stop (x ++ y) Fz e (length x) nt)) Fz (omega arith))) li
          ∙ ap (behind (group (node Kind.text 0) (byte (byte_at (x ++ y) at) (c ⋈ nil)) nil)) (again f'' (omega arith))
          ∙ (λ i. got true (group (node Kind.text 0) (byte (sym be i) (behind_nil c i)) v) q)
          ∙ ap (λ (n : Forest). got true n q) (sym me)

      texts : (f'' p₂ : ℕ) (c' v' : Forest)
          → in_text (byte_at (x ++ y) (length x)) ≡ true
          → repeat (tbody (x ++ y) Fz e) Fz (length x + 1) ≡ got true c' p₂
          → repeat (cbody (x ++ y) Fz e d) f'' p₂ ≡ got true v' q
          → v ≡ group (node Kind.text 0) (byte (byte_at (x ++ y) (length x)) c') v'
          → length x < p₂
          → Goal (suc f'') at (group (node Kind.text 0) (byte (byte_at x at) c) nil)
      unfolding Goal join meet text_label ◌⋈◌
      texts f'' p₂ c' v' ty q₂ r₂ ve lt = let li = at_in in let ql = q_le in
          let pq : p₂ ≤ q = subst (Up p₂) r₂
          (up_repeat (cbody (x ++ y) Fz e d) (λ n. up (x ++ y) Fz (child (within d)) e n) f'' p₂) in
          turn_more (cbody (x ++ y) Fz e d) f'' at (text_child (x ++ y) Fz e d at zx (seam Fx (at + 1) tr (suc Fz)
          (turn_more (tbody (x ++ y) Fz e) Fz (length x) (byte_step (x ++ y) Fz e (length x) ty) (omega arith)
          ∙ ap (behind (byte (byte_at (x ++ y) (length x)) nil)) q₂) Fz (omega arith))) (omega arith)
          ∙ ap (behind
          (group (node Kind.text 0) (byte (byte_at (x ++ y) at) (c ⋈ byte (byte_at (x ++ y) (length x)) c')) nil)) r₂
          ∙ ap (λ (n : ℕ). got true (group (node Kind.text 0)
          (byte n (c ⋈ byte (byte_at (x ++ y) (length x)) c')) v') q)
          (sym be)
          ∙ ap (λ (n : Forest). got true (meet text_label (node Kind.text 0) (byte (byte_at x at) c) n) q) (sym ve)

      ended : (f'' : ℕ) → q < at + suc f'' → Goal (suc f'') at (group (node Kind.text 0) (byte (byte_at x at) c) nil)
      unfolding ◌⋈◌ meet
      ended f'' l = let li = at_in in go (turn (cbody (x ++ y) Fz e d) f'' (length x) (again (suc f'') (omega arith))).1
        where
          G : Type 0
          G = Goal (suc f'') at (group (node Kind.text 0) (byte (byte_at x at) c) nil)

          stops : Child (x ++ y) Fz e d (length x) false v q → G
          stops (ends a b c' g z₀) = apart g (rw b refl) f'' l
          stops (a_text a b c g i) = false_true refl a
          stops (other a b n₁ r₁ i j l m) = false_true refl a

          goes : (o : Forest) (p₂ : ℕ) (v' : Forest)
              → length x < p₂
              → repeat (cbody (x ++ y) Fz e d) f'' p₂ ≡ got true v' q
              → v ≡ o ⋈ v'
              → Child (x ++ y) Fz e d (length x) true o p₂
              → G
          goes o p₂ v' lt r w (ends a b c g z₀) = false_true a refl
          goes o p₂ v' lt r w (a_text a b c' g i) = texts f'' p₂ c' v' b i r (w ∙ ap (λ (n : Forest). n ⋈ v') g) lt
          goes o p₂ v' lt r w (other a b n₁ r₁ i j l' m) = apart b
              (subst (λ (n : Forest). meet text_label (node Kind.text 0) (byte (byte_at x at) c) n
              ≡ group (node Kind.text 0) (byte (byte_at x at) c) n) (sym (w ∙ ap (λ (n : Forest). n ⋈ v') n₁.2))
              (meet_right text_label (node Kind.text 0) (byte (byte_at x at) c) n₁.0 n₁.1 v' n₁.3)) f'' l

          go : Turn (cbody (x ++ y) Fz e d) f'' (length x) v q → G
          go (last k) = stops (child_of (x ++ y) Fz e d (length x) k)
          go (goon o p₂ v' k lt r w) = goes o p₂ v' lt r w (child_of (x ++ y) Fz e d (length x) k)

    -- The children of x, up to its end, are read the same in front of y, joined with what is read from there on.
    pub front : (f at : ℕ) {a : Bool} {u : Forest} {p : ℕ}
        → at ≤ length x
        → repeat (cbody x Fx e d) f at ≡ got a u p
        → byte_at x p ≡ 256
        → (f' : ℕ) → q < at + f'
        → repeat (cbody (x ++ y) Fz e d) f' at ≡ got true (join text_label u v) q
    unfolding repeat ◌⋈◌ Goal join
    front zero at le h pe f' l = trouble_got h
    front (suc f) at {a} {u} {p} le h pe f' l =
        go f' l (turn (cbody x Fx e d) f at h).1 (λ p₁ u' le' r f'' l'. front f p₁ le' r pe f'' l')
      where
        IH : Type 0
        IH =
            (p₁ : ℕ) (u' : Forest) → p₁ ≤ length x → repeat (cbody x Fx e d) f p₁ ≡ got true u' p → (f'' : ℕ)
            → q < p₁ + f'' → Goal f'' p₁ u'

        stops : (f' : ℕ) → q < at + f' → Child x Fx e d at false u p → Goal f' at u
        stops f' l (ends a b c g z₀) =
            let n = byte_end x px at (ap (byte_at x) (sym c) ∙ pe) in
            let ae : length x ≡ at = omega arith in
            subst (λ (m : ℕ). Goal f' m u) ae
            (again f' (omega arith) ∙ ap (λ (m : Forest). got true (join text_label m v) q) (sym b))
        stops f' l (a_text a b c g i) = false_true refl a
        stops f' l (other a b n₁ r₁ i j l' m) = false_true refl a

        goes : (f'' : ℕ)
            → q < at + suc f''
            → (o : Forest) (p₁ : ℕ) (u' : Forest) → cbody x Fx e d at ≡ got true o p₁
            → at < p₁
            → p₁ ≤ length x
            → repeat (cbody x Fx e d) f p₁ ≡ got true u' p
            → u ≡ o ⋈ u'
            → IH
            → Child x Fx e d at true o p₁
            → Goal (suc f'') at u
        goes f'' l o p₁ u' k lt pl r w ih (ends a b c g z₀) = false_true a refl
        goes f'' l o p₁ u' k lt pl r w ih (other a b n₁ rr ra k₁ j la) =
            let li : at < length x = omega arith in
            onward f'' at n₁.0 n₁.1 p₁ u' u (ra (x ++ y) Fz e at (sym (byte_in x y at li))
            ∙ xz rr at k₁ j la (omega arith) pl ∙ ap (λ (n : Forest). got true n p₁) n₁.2) lt
            (ih p₁ u' pl r f'' (omega arith)) (join_left text_label n₁.0 n₁.1 u' v n₁.3)
            (w ∙ ap (λ (n : Forest). n ⋈ u') n₁.2)
        goes f'' l o p₁ u' k lt pl r w ih (a_text a b c g i) = split (ltb p₁ (length x)) refl
          where
            ue : u ≡ group (node Kind.text 0) (byte (byte_at x at) c) u'
            ue = w ∙ ap (λ (n : Forest). n ⋈ u') g

            split : (m : Bool) → ltb p₁ (length x) ≡ m → Goal (suc f'') at u
            split true m = let ml : p₁ < length x = ltb-true _ _ m in let eb = byte_in x y at (text_in x at b) in
                onward f'' at (node Kind.text 0) (byte (byte_at x at) c) p₁ u' u
                (text_child (x ++ y) Fz e d at (ap in_text (sym eb) ∙ b) (xt (at + 1) i ml)
                ∙ ap (λ (n : ℕ). got true (group (node Kind.text 0) (byte n c) nil) p₁) (sym eb)) lt
                (ih p₁ u' pl r f'' (omega arith))
                (after_text (byte (byte_at x at) c) u' (begins f p₁ ml (text_ends x Fx e Fx (at + 1) i) r pe)) ue
            split false m = let ml : length x ≤ p₁ = ltb-false _ _ m in let pe' : p₁ ≡ length x = omega arith in
                let un : u' ≡ nil = empty f (subst (λ (n : ℕ). repeat (cbody x Fx e d) f n ≡ got true u' p) pe' r) in
                subst (λ (n : Forest). Goal (suc f'') at n)
                (sym (ue ∙ ap (group (node Kind.text 0) (byte (byte_at x at) c)) un))
                (ended at c b (subst (λ (n : ℕ). repeat (tbody x Fx e) Fx (at + 1) ≡ got true c n) pe' i) f'' l)

        go : (f' : ℕ) → q < at + f' → Turn (cbody x Fx e d) f at u p → IH → Goal f' at u
        go zero l t ih = let g = q_ge in absurd (omega arith)
        go (suc f'') l (last k) ih = stops (suc f'') l (child_of x Fx e d at k)
        go (suc f'') l (goon o p₁ u' k lt r w) ih =
            goes f'' l o p₁ u' k lt (top_got x Fx (child (within d)) e at le k) r w ih (child_of x Fx e d at k)
