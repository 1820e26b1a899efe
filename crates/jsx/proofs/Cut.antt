-- Where well-formed UTF-8 may be cut: at both ends, and before and behind each ASCII byte.
use mathlib.Core.Path.{◌≡◌, refl, sym, ap, subst, subst₂, ◌∙◌}
use mathlib.Core.Bool.{Bool, true, false}
use mathlib.Core.Logic.{◌⊎◌, inl, inr}
use mathlib.Core.List.{List, [], ◌++◌}
use Prim.Native.Nat.{ℕ, zero, suc, ◌+◌, ◌-◌, ◌≤◌, ◌<◌}
use native.Mathlib.Omega.{arith}
use lib.ListN.{length, take, drop, length-append, take-append-drop}
use lib.Seq.{length-take-le, take-add}
use lib.Dec.{leb, ltb}
use borrow.Author.Tests.{leb-true, ltb-true, ltb-false, eq-eqb}
use Rattle.rules.specs.Forest.{Forest, nil, ◌⋈◌}
use Rattle.rules.specs.Rule.{Place, Test, Rule, done, step, refuse, when, seq}
use Rattle.rules.specs.Parse.{got, pick, behind, byte_at, repeat, parse, parsed}
use Rattle.rules.proofs.Run.{both, never}
use Rattle.rules.proofs.Got.{trouble_got, refusal_got, got_same, SeqOut, two, one, seq_read, pick_case}
use Rattle.rules.proofs.Local.{local_got}
use Rattle.rules.proofs.Ends.{Turn, last, goon, turn, turn_more, turn_last, refuel}
use Rattle.rules.proofs.Agree.{Lacks, before, byte_in, byte_behind, byte_beyond, Plain}
use Rattle.rules.proofs.Reach.{reach, step_got}
use Rattle.jsx.specs.Byte.{end, ◌‥◌, ◌or◌}
use Rattle.jsx.specs.Utf8.{second, other, sequence}
use Rattle.jsx.specs.Compose.{WellFormed}
use Rattle.jsx.proofs.Pieces.{any_byte, any_not_alone, any_node, one_turn, flow_turn, turning, reading_loop}
use Rattle.jsx.proofs.Pieces.{turn_within, turn_up}
use Rattle.jsx.proofs.Pieces.{turn_stops, got_good, good_got, good_join, good_rest}

-- ---- rules that read no ASCII byte

-- A test that no ASCII byte passes.
abbrev High : Test → Type 0
High f = (b : ℕ) → f b ≡ true → 128 ≤ b

-- known: whether the byte here is known to be no ASCII byte.
data NoAscii : (known : Bool) → Rule → Type 0 where
  n_step : NoAscii true step
  n_refuse : {k : Bool} {n : ℕ} {w : Place} → NoAscii k (refuse n w)
  n_when : {k : Bool} {f : Test} {t u : Rule} → High f → NoAscii true t → NoAscii k u → NoAscii k (when f t u)
  n_seq : {k : Bool} {t u : Rule} → NoAscii k t → NoAscii false u → NoAscii k (seq t u)

high_range : (lo hi : ℕ) → 128 ≤ lo → High (lo ‥ hi)
high_range lo hi l b h = let x = leb-true lo b (both (leb lo b) (leb b hi) h).0 in omega arith

high_or : {f g : Test} → High f → High g → High (f or g)
high_or {f} {g} x y b h = go (f b) refl h
  where
    go : (c : Bool) → f b ≡ c → pick c true (g b) ≡ true → 128 ≤ b
    go true e k = x b e
    go false e k = y b k

module _ (s : List ℕ) (F : ℕ) where
  -- All that such a rule reads is at least 128.
  reads_high : {k : Bool} {t : Rule}
      → NoAscii k t
      → (e at : ℕ) {a : Bool} {o : Forest} {q : ℕ} → (k ≡ true → 128 ≤ byte_at s at)
      → parse s F t e at ≡ got a o q
      → (j : ℕ) → at ≤ j
      → j < q
      → 128 ≤ byte_at s j
  unfolding parse
  reads_high n_step e at {a} {o} {q} kn h j l r =
      let x : q ≡ at + 1 = (step_got (λ d. done) any_byte any_node s F e at h).1 in
      let y : at ≡ j = omega arith in
      subst (λ (i : ℕ). 128 ≤ byte_at s i) y (kn refl)
  reads_high (n_refuse {n = n} {w = w}) e at kn h j l r = refusal_got n w e at h
  reads_high (n_when {f = f} {t = t} {u = u} hf x y) e at {a} {o} {q} kn h j l r =
      go (f (byte_at s at)) refl h (λ c z. reads_high x e at (λ _. c) z j l r) (λ z. reads_high y e at kn z j l r)
    where
      go : (c : Bool)
          → f (byte_at s at) ≡ c
          → pick c (parse s F t e at) (parse s F u e at) ≡ got a o q
          → (128 ≤ byte_at s at → parse s F t e at ≡ got a o q → 128 ≤ byte_at s j)
          → (parse s F u e at ≡ got a o q → 128 ≤ byte_at s j)
          → 128 ≤ byte_at s j
      go true c z ht hu = ht (hf (byte_at s at) c) z
      go false c z ht hu = hu z
  reads_high (n_seq {k} {t} {u} x y) e at {a} {o} {q} kn h j l r =
      go (seq_read s F t u e at h) (λ b v p z m. reads_high x e at kn z j l m)
      (λ v p z m. reads_high y e p (λ c. never c) z j m r)
    where
      go : SeqOut (parse s F t e at) (parse s F u e) a o q
          → ((b : Bool) (v : Forest) (p : ℕ) → parse s F t e at ≡ got b v p → j < p → 128 ≤ byte_at s j)
          → ((v : Forest) (p : ℕ) → parse s F u e p ≡ got a v q → p ≤ j → 128 ≤ byte_at s j)
          → 128 ≤ byte_at s j
      go (two o₁ p o₂ z z' w) ht hu = by (ltb j p) refl
        where
          by : (c : Bool) → ltb j p ≡ c → 128 ≤ byte_at s j
          by true c = ht true o₁ p z (ltb-true j p c)
          by false c = hu o₂ p z' (ltb-false j p c)
      go (one z ae) ht hu = ht false o q z r

  -- One byte, or such a rule: where an ASCII byte was read, it was read alone.
  alone : (f : Test) {u : Rule}
      → NoAscii false u
      → (e at : ℕ) {a : Bool} {o : Forest} {q : ℕ} → parse s F (when f step u) e at ≡ got a o q
      → (j : ℕ) → at ≤ j
      → j < q
      → byte_at s j < 128
      → q ≡ at + 1
  unfolding parse
  alone f {u} x e at h j l r low =
      pick_case (f (byte_at s at)) (parse s F step e at) (parse s F u e at) h
      (λ z. (step_got (λ d. done) any_byte any_node s F e at z).1)
      (λ z. let y = reads_high x e at (λ c. never c) z j l r in absurd (omega arith))

-- ---- the table of UTF-8

high_second : (lo hi : ℕ) → 128 ≤ lo → NoAscii false (second lo hi)
unfolding second
high_second lo hi l = n_when (high_range lo hi l) n_step n_refuse

high_other : NoAscii false other
unfolding other
high_other = high_second 0x80 0xBF (omega arith)

-- A row of the table.
high_row : {f : Test} {t u : Rule} → High f → NoAscii false t → NoAscii false u → NoAscii false (when f (seq step t) u)
high_row h x y = n_when h (n_seq n_step x) y

-- An ASCII byte that a sequence reads is the whole of it.
pub ascii_alone : (s : List ℕ) (F e at : ℕ) {a : Bool} {o : Forest} {q : ℕ}
    → parse s F sequence e at ≡ got a o q
    → (j : ℕ) → at ≤ j
    → j < q
    → byte_at s j < 128
    → q ≡ at + 1
unfolding sequence
ascii_alone s F = alone s F (0x00 ‥ 0x7F)
    (high_row (high_range 0xC2 0xDF (omega arith)) high_other
    (high_row (high_range 0xE0 0xE0 (omega arith)) (n_seq (high_second 0xA0 0xBF (omega arith)) high_other)
    (high_row (high_or (high_range 0xE1 0xEC (omega arith)) (high_range 0xEE 0xEF (omega arith)))
    (n_seq high_other high_other)
    (high_row (high_range 0xED 0xED (omega arith)) (n_seq (high_second 0x80 0x9F (omega arith)) high_other)
    (high_row (high_range 0xF0 0xF0 (omega arith))
    (n_seq (high_second 0x90 0xBF (omega arith)) (n_seq high_other high_other))
    (high_row (high_range 0xF1 0xF3 (omega arith)) (n_seq high_other (n_seq high_other high_other))
    (high_row (high_range 0xF4 0xF4 (omega arith))
    (n_seq (high_second 0x80 0x8F (omega arith)) (n_seq high_other high_other))
    n_refuse)))))))

-- ---- bytes stay bytes in parts and joins

-- Two lists of bytes, joined, are bytes.
pub plain_join : (x y : List ℕ) → Plain x → Plain y → Plain (x ++ y)
unfolding Plain
plain_join x y px py p l = go (ltb p (length x)) refl
  where
    go : (c : Bool) → ltb p (length x) ≡ c → byte_at (x ++ y) p < 256
    go true c = let h : p < length x = ltb-true p (length x) c in subst (λ (b : ℕ). b < 256) (byte_in x y p h) (px p h)
    go false c =
        let h : length x ≤ p = ltb-false p (length x) c in
        let n = length-append x y in
        subst (λ (b : ℕ). b < 256) (byte_behind x y (p - length x) ∙ ap (byte_at (x ++ y)) (omega arith))
        (py (p - length x) (omega arith))

-- The front of a list of bytes is bytes.
pub plain_front : (x y : List ℕ) → Plain (x ++ y) → Plain x
unfolding Plain
plain_front x y pl p l =
    let n = length-append x y in
    subst (λ (b : ℕ). b < 256) (sym (byte_in x y p l)) (pl p (omega arith))

-- The back of a list of bytes is bytes.
pub plain_back : (x y : List ℕ) → Plain (x ++ y) → Plain y
unfolding Plain
plain_back x y pl p l =
    let n = length-append x y in
    subst (λ (b : ℕ). b < 256) (sym (byte_behind x y p)) (pl (length x + p) (omega arith))

-- The first n of a list of bytes are bytes.
pub plain_take : (n : ℕ) (s : List ℕ) → Plain s → Plain (take n s)
plain_take n s pl = plain_front (take n s) (drop n s) (subst Plain (sym (take-append-drop n s)) pl)

-- All but the first n of a list of bytes are bytes.
pub plain_drop : (n : ℕ) (s : List ℕ) → Plain s → Plain (drop n s)
plain_drop n s pl = plain_back (take n s) (drop n s) (subst Plain (sym (take-append-drop n s)) pl)

-- ---- places to cut

-- At an end of the text, behind an ASCII byte, or before one.
pub data Cut (s : List ℕ) (p : ℕ) : Type 0 where
  at_start : p ≡ 0 → Cut s p
  at_end : p ≡ length s → Cut s p
  behind_ascii : (j : ℕ) → j + 1 ≡ p → byte_at s j < 128 → Cut s p
  before_ascii : byte_at s p < 128 → Cut s p

module _ (s : List ℕ) where
  -- A turn that goes on reads a sequence.
  turn_sequence : (at : ℕ) {o : Forest} {q : ℕ} → turning s at ≡ got true o q → parsed s sequence at at ≡ got true o q
  unfolding turning parse
  turn_sequence at h =
      pick_case (end (byte_at s at)) (got false nil at) (parsed s sequence at at) h (λ z. never (got_same z).0) (λ z. z)

  -- No turn reads across such a place.
  crosses_not : {p : ℕ}
      → p ≤ length s
      → Cut s p
      → (at : ℕ) {o : Forest} {q : ℕ} → turning s at ≡ got true o q
      → at < p
      → p < q
      → ⊥
  crosses_not i (at_start e) at h l r = omega arith
  crosses_not i (at_end e) at h l r = let t = turn_within s at (omega arith) h in omega arith
  crosses_not i (behind_ascii j e b) at h l r =
      let x = ascii_alone s (suc (length s)) at at (turn_sequence at h) j (omega arith) (omega arith) b in
      omega arith
  crosses_not {p} i (before_ascii b) at h l r =
      let x = ascii_alone s (suc (length s)) at at (turn_sequence at h) p (omega arith) r b in
      omega arith

  stays_before : {p : ℕ}
      → p ≤ length s
      → Cut s p
      → (at : ℕ) {o : Forest} {q : ℕ} → turning s at ≡ got true o q
      → at < p
      → q ≤ p
  stays_before {p} i c at {o} {q} h l = go (ltb p q) refl
    where
      go : (b : Bool) → ltb p q ≡ b → q ≤ p
      go true e = absurd (crosses_not i c at h l (ltb-true p q e))
      go false e = ltb-false p q e

  -- At the end of the input the loop stops.
  turn_end : turning s (length s) ≡ got false nil (length s)
  unfolding turning parse
  turn_end =
      ap (λ (b : Bool). pick b (got false nil (length s)) (parsed s sequence (length s) (length s)))
      (eq-eqb (byte_at s (length s)) 256 (byte_beyond s (length s) (omega arith)))

module _ (x y : List ℕ) where
  -- A turn over both that stays in the first piece reads so in the first piece alone.
  turn_back : (at : ℕ) {o : Forest} {p : ℕ}
      → at ≤ length x
      → p ≤ length x
      → turning (x ++ y) at ≡ got true o p
      → turning x at ≡ got true o p
  unfolding turning
  turn_back at {o} {p} i t h =
      let n = length-append x y in
      let l = (reach (λ d. done) any_byte any_node (x ++ y) (suc (length (x ++ y)))
      (flow_turn (λ d. done)) 0 at true o p h
      (length x) t).0 in
      let g = local_got (Lacks any_byte) (x ++ y) x 0 0 0 (length x) (suc (length x)) (omega arith)
      (before (x ++ y) x (length x) (λ q r. sym (byte_in x y q r)) (omega arith) (omega arith) any_byte (λ j e. refl)
      any_not_alone 0)
      (suc (length (x ++ y))) (suc (length x)) one_turn 0 0 at at (omega arith) refl (omega arith) l h (omega arith) in
      let k = g.2 in
      g.1 ∙ ap (got true o) (omega arith)

  -- So the loop over both comes to the place between them, and the loop over the first piece to its end.
  cut_loop : Plain (x ++ y)
      → Cut (x ++ y) (length x)
      → (f at : ℕ) {a : Bool} {o : Forest} {p : ℕ} → at ≤ length x
      → repeat (turning (x ++ y)) f at ≡ got a o p
      → (v : Forest) × (repeat (turning x) (suc f) at ≡ got true v (length x))
  unfolding repeat
  cut_loop pl c zero at i h = trouble_got h
  cut_loop pl c (suc f) at {a} {o} {p} i h =
      by (ltb at (length x)) refl (turn (turning (x ++ y)) f at h).1 (λ q v k r. cut_loop pl c f q k r)
    where
      by : (b : Bool)
          → ltb at (length x) ≡ b
          → Turn (turning (x ++ y)) f at o p
          → ((q : ℕ) (v : Forest) → q ≤ length x → repeat (turning (x ++ y)) f q ≡ got true v p
          → (w : Forest) × (repeat (turning x) (suc f) q ≡ got true w (length x)))
          → (v : Forest) × (repeat (turning x) (suc (suc f)) at ≡ got true v (length x))
      by true b (last z) ih =
          let n = length-append x y in
          let l : at < length x = ltb-true at (length x) b in
          let e = (turn_stops (x ++ y) pl at (omega arith) z).0 in
          absurd (omega arith)
      by true b (goon o₁ q v z lt r w) ih =
          let n = length-append x y in
          let l : at < length x = ltb-true at (length x) b in
          let t = stays_before (x ++ y) (omega arith) c at z l in
          let m = ih q v t r in
          (o₁ ⋈ m.0, turn_more (turning x) (suc f) at (turn_back at i t z) lt ∙ ap (behind o₁) m.1)
      by false b z ih =
          let l : length x ≤ at = ltb-false at (length x) b in
          let e : length x ≡ at = omega arith in (
            nil,
            subst (λ (q : ℕ). repeat (turning x) (suc (suc f)) q ≡ got true nil (length x)) e
                (turn_last (turning x) (suc f) (length x) (turn_end x)),
          )

  -- What stands before a place to cut is good.
  good_front : Plain (x ++ y) → WellFormed (x ++ y) → Cut (x ++ y) (length x) → WellFormed x
  good_front pl k c =
      let g = good_got (x ++ y) k in
      let m = cut_loop pl c (suc (length (x ++ y))) 0 (omega arith) (sym (reading_loop (x ++ y) 0) ∙ g.3) in
      got_good x (reading_loop x 0
      ∙ refuel (turning x) (turn_up x) (suc (suc (length (x ++ y)))) (suc (length x)) 0 m.1 (omega arith))

  -- A good text is good on both sides of a place to cut.
  pub cut_between : Plain (x ++ y) → WellFormed (x ++ y) → Cut (x ++ y) (length x) → WellFormed x × WellFormed y
  cut_between pl k c = let g = good_front pl k c in (g, good_rest x y (plain_front x y pl) k g)

  -- One may cut behind an ASCII byte.
  pub cut_behind : Plain (x ++ y)
      → WellFormed (x ++ y)
      → (j : ℕ) × (j + 1 ≡ length x) × (byte_at x j < 128)
      → WellFormed x × WellFormed y
  cut_behind pl k (j, e, b) =
      cut_between pl k (behind_ascii j e (subst (λ (v : ℕ). v < 128) (byte_in x y j (omega arith)) b))

  -- One may cut before an ASCII byte, and at the end.
  pub cut_before : Plain (x ++ y) → WellFormed (x ++ y) → (byte_at y 0 < 128) ⊎ (y ≡ []) → WellFormed x × WellFormed y
  cut_before pl k (inl b) =
      cut_between pl k
      (before_ascii (subst (λ (v : ℕ). v < 128) (byte_behind x y 0 ∙ ap (byte_at (x ++ y)) (omega arith)) b))
  cut_before pl k (inr e) =
      let n = length-append x y in
      let m : length y ≡ 0 = ap length e in
      cut_between pl k (at_end (omega arith))

-- ---- parts of a text by their places

module _ (s : List ℕ) (pl : Plain s) (k : WellFormed s) where
  -- A good text is good on both sides of a place to cut.
  pub cut_at : (p : ℕ) → p ≤ length s → Cut s p → WellFormed (take p s) × WellFormed (drop p s)
  cut_at p i c =
      let e = sym (take-append-drop p s) in
      cut_between (take p s) (drop p s) (subst Plain e pl) (subst WellFormed e k)
      (subst₂ (λ (t : List ℕ) (n : ℕ). Cut t n) e (sym (length-take-le p s i)) c)

  -- What stands before one such place and what stands behind another are good.
  pub cut_out : (p q : ℕ)
      → p ≤ length s
      → q ≤ length s
      → Cut s p
      → Cut s q
      → WellFormed (take p s) × WellFormed (drop q s)
  cut_out p q i j c d = ((cut_at p i c).0, (cut_at q j d).1)

  -- And what stands between two such places is good.
  pub cut_middle : (p k : ℕ) → p + k ≤ length s → Cut s p → Cut s (p + k) → WellFormed (take k (drop p s))
  cut_middle p k i c d =
      good_rest (take p s) (take k (drop p s)) (plain_take p s pl)
      (subst WellFormed (take-add p k s) (cut_at (p + k) i d).0)
      (cut_at p (omega arith) c).0

  -- Between two such places a good text may be put in.
  pub good_replace : (p q : ℕ)
      → p ≤ length s
      → q ≤ length s
      → Cut s p
      → Cut s q
      → (m : List ℕ) → Plain m
      → WellFormed m
      → WellFormed (take p s ++ (m ++ drop q s))
  good_replace p q i j c d m pm km =
      let g = cut_out p q i j c d in
      good_join (take p s) (m ++ drop q s) (plain_take p s pl) g.0 (good_join m (drop q s) pm km g.1)

-- Bytes stay bytes where bytes are put in.
pub plain_replace : (s : List ℕ) → Plain s → (p q : ℕ) (m : List ℕ) → Plain m → Plain (take p s ++ (m ++ drop q s))
plain_replace s pl p q m pm =
    plain_join (take p s) (m ++ drop q s) (plain_take p s pl) (plain_join m (drop q s) pm (plain_drop q s pl))
