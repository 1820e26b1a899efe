-- A content, taken out of an input, is a run by itself.
use mathlib.Core.Path.{◌≡◌, refl, sym, ap, subst, ◌∙◌}
use mathlib.Core.Bool.{Bool, true, false}
use mathlib.Core.List.{List, ◌++◌}
use Prim.Native.Nat.{ℕ, zero, suc, ◌+◌, ◌-◌, ◌≤◌, ◌<◌}
use native.Mathlib.Omega.{arith}
use native.Mathlib.Nat.{le_refl}
use lib.ListN.{length, take, drop, length-append, take-append-drop}
use lib.Seq.{length-take-le}
use lib.Dec.{ltb}
use borrow.Author.Tests.{ltb-true, ltb-false}
use Rattle.rules.specs.Forest.{Forest, nil, byte, ◌⋈◌}
use Rattle.rules.specs.Rule.{Rule}
use Rattle.rules.specs.Parse.{got, behind, byte_at, repeat, parse, parsed}
use Rattle.rules.proofs.Got.{trouble_got, false_true}
use Rattle.rules.proofs.Local.{Up, up, up_repeat, Looks, local_got}
use Rattle.rules.proofs.Ends.{top_got, sees, Turn, last, goon, turn, turn_more, turn_last}
use Rattle.rules.proofs.Agree.{Lacks, before, moved_along, byte_in, byte_behind, byte_beyond}
use Rattle.rules.proofs.Flow.{shut}
use Rattle.rules.proofs.Found.{Last}
use Rattle.jsx.specs.Text.{in_text}
use Rattle.jsx.specs.Element.{child, children}
use Rattle.jsx.specs.Depth.{within}
use Rattle.jsx.specs.Reading.{run}
use Rattle.jsx.specs.Compose.{Reads, bytes_between}
use Rattle.jsx.proofs.Paired.{well_paired}
use Rattle.jsx.proofs.Shape.{content_of, closer, closer_low}
use Rattle.jsx.proofs.Child.{inner, tbody, TextByte, tstop, tstep, text_byte, byte_step, byte_stop, text_node}
use Rattle.jsx.proofs.Child.{cbody, Child, ends, a_text, other, child_of, text_child, end_stop}
use Rattle.jsx.proofs.JoinRead.{run_is}

-- ---- what stands before is left away

-- What reads y behind x reads y.
read_out : (x y : List ℕ) (t : Rule) (e e' : ℕ) {a : Bool} {o : Forest} {p : ℕ}
    → parsed (x ++ y) t e (length x) ≡ got a o p
    → (q : ℕ) × (parsed y t e' 0 ≡ got a o q) × (q + length x ≡ p)
read_out x y t e e' {a} {o} {p} h = (res.0, res.1, omega (arith, res.2))
  where
    res : (q : ℕ) × (parsed y t e' 0 ≡ got a o q) × (p + 0 ≡ q + length x)
    res =
        let n = length-append x y in
        let l = top_got (x ++ y) (suc (length (x ++ y))) t e (length x) (omega arith) h in
        local_got (λ w. Unit {0}) (x ++ y) y (length x) 0 (length x) (suc (length (x ++ y)))
        (suc (length (x ++ y))) (omega arith)
        (moved_along (x ++ y) y (length x) 0 (length x)
        (λ p p' e l. ap (byte_at (x ++ y)) (omega arith) ∙ sym (byte_behind x y p'))
        (omega arith) (λ w. Unit {0}) (suc (length (x ++ y))))
        (suc (length (x ++ y))) (suc (length y)) t e e' (length x) 0 (omega arith) (omega arith) (omega arith)
        (sees (x ++ y) (suc (length (x ++ y))) t e (length x) (omega arith)) h (omega arith)

-- ---- what stands behind is left away

module _ (x y : List ℕ) (Fx Fz e d : ℕ) (enough : length x < Fx) where
  long : length x ≤ length (x ++ y)
  long = omega (arith, length-append x y)

  byte_same : (at : ℕ) → at < length x → byte_at (x ++ y) at ≡ byte_at x at
  byte_same at l = sym (byte_in x y at l)

  -- Where a text ends in both it ends in x: there is another byte, or the end.
  text_stops : (at : ℕ) → in_text (byte_at (x ++ y) at) ≡ false → in_text (byte_at x at) ≡ false
  unfolding in_text
  text_stops at h = go (ltb at (length x)) refl
    where
      go : (b : Bool) → ltb at (length x) ≡ b → in_text (byte_at x at) ≡ false
      go true l = ap in_text (sym (byte_same at (ltb-true _ _ l))) ∙ h
      go false l = ap in_text (byte_beyond x at (ltb-false _ _ l))

  -- The bytes of a text that ends in x.
  text_back : (f at : ℕ) {a : Bool} {c : Forest} {p : ℕ} → repeat (tbody (x ++ y) Fz e) f at ≡ got a c p → p ≤ length x
      → (f' : ℕ) → p < at + f' → repeat (tbody x Fx e) f' at ≡ got true c p
  unfolding repeat
  text_back zero at h i f' l = trouble_got h
  text_back (suc f) at {a} {c} {p} h i f' l =
      go (turn (tbody (x ++ y) Fz e) f at h).1 f' l (λ q v r f'' k. text_back f q r i f'' k)
    where
      Goal : ℕ → Type 0
      Goal f' = repeat (tbody x Fx e) f' at ≡ got true c p

      stopped : (f' : ℕ) → p < at + f' → TextByte (x ++ y) Fz e at false c p → Goal f'
      stopped zero l (tstop u b w r) = absurd (omega arith)
      stopped (suc f'') l (tstop u b w r) =
          turn_last (tbody x Fx e) f'' at (byte_stop x Fx e at (text_stops at b)) ∙ (λ j. got true (sym w j) (sym r j))
      stopped f' l (tstep u b w r) = false_true refl u

      stepped : (f' : ℕ) → p < at + f' → (o : Forest) (q : ℕ) (v : Forest) → q ≤ p → c ≡ o ⋈ v
          → ((f'' : ℕ) → p < q + f'' → repeat (tbody x Fx e) f'' q ≡ got true v p) → TextByte (x ++ y) Fz e at true o
          q → Goal f'
      stepped f' l o q v k w ih (tstop u b g r) = false_true u refl
      stepped zero l o q v k w ih (tstep u b g r) = absurd (omega arith)
      stepped (suc f'') l o q v k w ih (tstep u b g r) =
          let same = byte_same at (omega arith) in
          turn_more (tbody x Fx e) f'' at (byte_step x Fx e at (ap in_text (sym same) ∙ b)) (omega arith)
          ∙ ap (λ (n : ℕ). behind (byte (byte_at x at) nil) (repeat (tbody x Fx e) f'' n)) (sym r)
          ∙ ap (behind (byte (byte_at x at) nil)) (ih f'' (omega arith))
          ∙ ap (λ (n : ℕ). got true (byte n nil ⋈ v) p) (sym same)
          ∙ ap (λ (n : Forest). got true (n ⋈ v) p) (sym g)
          ∙ ap (λ (n : Forest). got true n p) (sym w)

      go : Turn (tbody (x ++ y) Fz e) f at c p → (f' : ℕ) → p < at + f'
          → ((q : ℕ) (v : Forest) → repeat (tbody (x ++ y) Fz e) f q ≡ got true v p → (f'' : ℕ) → p < q + f'' → repeat
          (tbody x Fx e) f'' q ≡ got true v p)
          → Goal f'
      go (last k) f' l ih = stopped f' l (text_byte (x ++ y) Fz e at k)
      go (goon o q v k lt r w) f' l ih =
          let g : q ≤ p = subst (Up q) r (up_repeat (tbody (x ++ y) Fz e) (λ n. up (x ++ y) Fz inner e n) f q) in
          stepped f' l o q v g w (ih q v r) (text_byte (x ++ y) Fz e at k)

  -- What ends in x in a byte that closes.
  closed_back : (t : Rule) (at : ℕ) {o : Forest} {p : ℕ}
      → parse (x ++ y) Fz t e at ≡ got true o p
      → Looks (Lacks closer) (x ++ y) p Fz t e at
      → Last content_of closer well_paired (x ++ y) Fz shut p → at ≤ p → p ≤ length x → parse x Fx t e at ≡ got true o p
  closed_back t at {o} {p} h lk la up₁ le = res.1 ∙ ap (λ (n : ℕ). got true o n) (omega (arith, res.2))
    where
      res : (n : ℕ) × (parse x Fx t e at ≡ got true o n) × (p + 0 ≡ n + 0)
      res =
          let g = long in
          local_got (Lacks closer) (x ++ y) x 0 0 at p (suc p) (omega arith)
          (before (x ++ y) x p (λ m lm. byte_same m (omega arith)) (omega arith) le closer
          (λ j ej. subst (λ (n : ℕ). closer (byte_at (x ++ y) n) ≡ true) (omega (arith, la.1)) la.2)
          (λ k. closer_low) at)
          Fz Fx t e e at at (omega arith) refl (le_refl _) lk h (omega arith)

  -- Children that end where x ends.
  children_back : (f at : ℕ) {a : Bool} {u : Forest} → repeat (cbody (x ++ y) Fz e d) f at ≡ got a u (length x)
      → (f' : ℕ) → length x < at + f' → repeat (cbody x Fx e d) f' at ≡ got true u (length x)
  unfolding repeat
  children_back zero at h f' l = trouble_got h
  children_back (suc f) at {a} {u} h f' l =
      go (turn (cbody (x ++ y) Fz e d) f at h).1 f' l (λ q v r f'' k. children_back f q r f'' k)
    where
      Goal : ℕ → Type 0
      Goal f' = repeat (cbody x Fx e d) f' at ≡ got true u (length x)

      stopped : (f' : ℕ) → length x < at + f' → Child (x ++ y) Fz e d at false u (length x) → Goal f'
      stopped zero l (ends b w r g z) = absurd (omega arith)
      stopped (suc f'') l (ends b w r g z) =
          turn_last (cbody x Fx e d) f'' at (end_stop x Fx e d at (byte_beyond x at (omega arith)))
          ∙ (λ j. got true (sym w j) (sym r j))
      stopped f' l (a_text b t c g i) = false_true refl b
      stopped f' l (other b t n r i j k m) = false_true refl b

      onward : (f' : ℕ) → length x < at + f' → (o : Forest) (q : ℕ) (v : Forest) → at < q → q ≤ length x → u ≡ o ⋈ v
          → ((f'' : ℕ) → length x < q + f'' → repeat (cbody x Fx e d) f'' q ≡ got true v (length x)) → cbody x Fx e d
          at ≡ got true o q → Goal f'
      onward zero l o q v lt k w ih h = absurd (omega arith)
      onward (suc f'') l o q v lt k w ih h =
          turn_more (cbody x Fx e d) f'' at h lt ∙ ap (behind o) (ih f'' (omega arith))
          ∙ ap (λ (n : Forest). got true n (length x)) (sym w)

      same_child : (o : Forest) (q : ℕ)
          → at < q
          → q ≤ length x
          → Child (x ++ y) Fz e d at true o q
          → cbody x Fx e d at ≡ got true o q
      same_child o q lt k (ends b w r g z) = false_true b refl
      same_child o q lt k (a_text b t c g i) =
          let same = byte_same at (omega arith) in
          text_child x Fx e d at (ap in_text (sym same) ∙ t) (text_back Fz (at + 1) i k Fx (omega arith))
          ∙ ap (λ (n : ℕ). got true (text_node (byte n c) nil) q) (sym same)
          ∙ ap (λ (n : Forest). got true n q) (sym g)
      same_child o q lt k (other b t n r i j lk la) =
          i x Fx e at (byte_in x y at (omega arith)) ∙ closed_back r at j lk la (omega arith) k

      go : Turn (cbody (x ++ y) Fz e d) f at u (length x) → (f' : ℕ) → length x < at + f'
          → ((q : ℕ) (v : Forest) → repeat (cbody (x ++ y) Fz e d) f q ≡ got true v (length x) → (f'' : ℕ) → length x
          < q + f'' → repeat (cbody x Fx e d) f'' q ≡ got true v (length x))
          → Goal f'
      go (last k) f' l ih = stopped f' l (child_of (x ++ y) Fz e d at k)
      go (goon o q v k lt r w) f' l ih =
          let g : q ≤ length x = subst (Up q) r
          (up_repeat (cbody (x ++ y) Fz e d) (λ n. up (x ++ y) Fz (child (within d)) e n) f q) in
          onward f' l o q v lt g w (ih q v r) (same_child o q lt g (child_of (x ++ y) Fz e d at k))

-- ---- the content

-- Children read from the first byte up to q are a run there.
front_run : (z : List ℕ) (d q : ℕ) {c : Forest}
    → parsed z (children (within d)) 0 0 ≡ got true c q
    → Reads (run d) (take q z) c
front_run z d q {c} h = run_is d x c (length x) reads (byte_beyond x (length x) (omega arith))
  where
    x : List ℕ
    x = take q z

    y : List ℕ
    y = drop q z

    whole : x ++ y ≡ z
    whole = take-append-drop q z

    size : length x ≡ q
    size = length-take-le q z (top_got z (suc (length z)) (children (within d)) 0 0 (omega arith) h)

    both : parsed (x ++ y) (children (within d)) 0 0 ≡ got true c (length x)
    both = (λ i. parsed (whole i) (children (within d)) 0 0) ∙ h ∙ ap (got true c) (sym size)

    reads : parsed x (children (within d)) 0 0 ≡ got true c (length x)
    reads = unfold children parse in
        children_back x y (suc (length x)) (suc (length (x ++ y))) 0 d (omega arith) (suc (length (x ++ y))) 0
        both (suc (length x)) (omega arith)

-- Children read from p up to b are a run where nothing else stands.
pub content_run : (s : List ℕ) (d e p b : ℕ) {c : Forest}
    → p ≤ length s
    → parsed s (children (within d)) e p ≡ got true c b
    → Reads (run d) (bytes_between s p b) c
content_run s d e p b {c} le h =
    subst (λ (n : ℕ). Reads (run d) (take n (drop p s)) c) size (front_run (drop p s) d out.0 out.1)
  where
    front : length (take p s) ≡ p
    front = length-take-le p s le

    out : (q : ℕ) × (parsed (drop p s) (children (within d)) 0 0 ≡ got true c q) × (q + length (take p s) ≡ b)
    out = read_out (take p s) (drop p s) (children (within d)) e 0
        (subst (λ (l : List ℕ). parsed l (children (within d)) e (length (take p s)) ≡ got true c b)
        (sym (take-append-drop p s))
        (ap (parsed s (children (within d)) e) front ∙ h))

    size : out.0 ≡ b - p
    size = omega (arith, out.2, front)
