-- Well-formed UTF-8 by pieces: good pieces joined are good, and what is left of a good text
-- behind a good piece is good.
use mathlib.Core.Path.{◌≡◌, refl, sym, ap, subst, ◌∙◌}
use mathlib.Core.Bool.{Bool, true, false}
use mathlib.Core.List.{List, [], ◌++◌}
use Prim.Native.Nat.{ℕ, zero, suc, ◌+◌, ◌≤◌, ◌<◌}
use native.Mathlib.Omega.{arith}
use lib.ListN.{length, length-append}
use lib.Dec.{eqb, ltb}
use borrow.Author.Tests.{eqb-true}
use Rattle.rules.specs.Forest.{Label, Forest, nil, ◌⋈◌}
use Rattle.rules.specs.Rule.{Test, Rule, done, stop, when, seq, marked}
use Rattle.rules.specs.Parse.{Answer, got, trouble, pick, behind, byte_at, repeat, parse, parse_all, parsed}
use Rattle.rules.proofs.Run.{never, goes, on, got_goes, behind_none, loop_more}
use Rattle.rules.proofs.Got.{trouble_got, got_same, behind_got}
use Rattle.rules.proofs.Local.{Up, up, local_got}
use Rattle.rules.proofs.Ends.{top_got, sees, Turn, last, goon, turn, refuel}
use Rattle.rules.proofs.Agree.{heads, Lacks, before, moved_along, byte_in, byte_behind, Plain, byte_end}
use Rattle.rules.proofs.Flow.{Mode, near, tight, same, tight_near, seen_near, advances, Flow, f_weak, f_stop, f_step}
use Rattle.rules.proofs.Flow.{f_refuse, f_when, f_seq, f_many, f_marked}
use Rattle.rules.proofs.Reach.{reach}
use Rattle.rules.proofs.Stuck.{Refuses}
use Rattle.rules.proofs.Single.{not_at_end, refuses_by, refuses_only}
use Rattle.jsx.specs.Refusal.{not_utf8}
use Rattle.jsx.specs.Byte.{end}
use Rattle.jsx.specs.Utf8.{second, other, sequence, utf8}
use Rattle.jsx.specs.Compose.{IsGot, WellFormed}

-- ---- how far the rule looks: at no byte behind a sequence

-- Any byte closes.
abbrev pub any_byte : Test
any_byte b = true

-- So no character is asked: some bytes go on with one.
pub any_not_alone : ((b : ℕ) → any_byte b ≡ true → heads b ≡ true) → (b : ℕ) → any_byte b ≡ true → ltb b 0x80 ≡ true
any_not_alone h b e = never (h 0x80 refl)

-- And every node is as it may be.
abbrev pub any_node : Label → Forest → Type 0
any_node l o = Unit {0}

-- A turn of the loop.
abbrev pub one_turn : Rule
one_turn = when end stop (marked sequence)

module _ (C : ℕ → Rule) where
  flow_second : {k : Mode} (lo hi : ℕ) → Flow C any_byte any_node near (second lo hi) tight k
  unfolding second
  flow_second lo hi = f_when seen_near f_step (f_refuse refl)

  flow_other : {k : Mode} → Flow C any_byte any_node near other tight k
  unfolding other
  flow_other = flow_second 0x80 0xBF

  flow_next : {t u : Rule} {k : Mode}
      → Flow C any_byte any_node near t tight k
      → Flow C any_byte any_node near u tight k
      → Flow C any_byte any_node near (seq t u) tight k
  flow_next x y = f_seq x (f_weak tight_near same same y)

  -- A sequence has looked at no byte behind it.
  pub flow_sequence : {k : Mode} → Flow C any_byte any_node near sequence tight k
  unfolding sequence
  flow_sequence =
      f_when seen_near f_step
      (f_when seen_near (flow_next f_step flow_other)
      (f_when seen_near (flow_next f_step (flow_next (flow_second 0xA0 0xBF) flow_other))
      (f_when seen_near (flow_next f_step (flow_next flow_other flow_other))
      (f_when seen_near (flow_next f_step (flow_next (flow_second 0x80 0x9F) flow_other))
      (f_when seen_near (flow_next f_step (flow_next (flow_second 0x90 0xBF) (flow_next flow_other flow_other)))
      (f_when seen_near (flow_next f_step (flow_next flow_other (flow_next flow_other flow_other)))
      (f_when seen_near (flow_next f_step (flow_next (flow_second 0x80 0x8F) (flow_next flow_other flow_other)))
      (f_refuse refl))))))))

  -- A turn that goes on has looked at no byte behind it, and one that stops at the byte there.
  pub flow_turn : Flow C any_byte any_node near one_turn tight near
  flow_turn = f_when seen_near f_stop (f_marked flow_sequence)

  -- The loop has looked at the byte where it ends, and no further.
  pub flow_utf8 : {k : Mode} → Flow C any_byte any_node near utf8 near k
  unfolding utf8 advances sequence second other
  flow_utf8 = f_many refl (f_weak same tight_near same flow_turn)

-- ---- the rule from a place of an input on, and one turn of its loop

-- What the rule reads from a place on.
pub reading : (s : List ℕ) (at : ℕ) → Answer
reading s at = parsed s utf8 0 at

-- What one turn of its loop reads there.
unfoldable pub turning : (s : List ℕ) (at : ℕ) → Answer
turning s at = parsed s one_turn 0 at

module _ (s : List ℕ) where
  -- The rule is a loop of such turns, one more than the input has bytes.
  pub reading_loop : (at : ℕ) → reading s at ≡ repeat (turning s) (suc (length s)) at
  unfolding reading turning parse utf8
  reading_loop at = refl

  reading_all : parse_all utf8 s ≡ reading s 0
  unfolding parse_all reading
  reading_all = refl

  -- A turn that begins in the input ends in it.
  pub turn_within : (at : ℕ) {a : Bool} {o : Forest} {p : ℕ} → at ≤ length s → turning s at ≡ got a o p → p ≤ length s
  unfolding turning
  turn_within at i h = top_got s (suc (length s)) one_turn 0 at i h

  -- What a turn got ends not before it began.
  pub turn_up : (at : ℕ) → Up at (turning s at)
  unfolding turning
  turn_up at = up s (suc (length s)) one_turn 0 at

  reading_within : (at : ℕ) {a : Bool} {o : Forest} {p : ℕ} → at ≤ length s → reading s at ≡ got a o p → p ≤ length s
  unfolding reading
  reading_within at i h = top_got s (suc (length s)) utf8 0 at i h

  -- A sequence never stops the loop.
  sequence_goes : (at : ℕ) {a : Bool} {o : Forest} {p : ℕ} → parsed s sequence at at ≡ got a o p → a ≡ true
  unfolding goes sequence second other
  sequence_goes at h = got_goes (parsed s sequence at at) (on s (suc (length s)) sequence refl at at) h

  -- So the loop stops only where the input ends.
  pub turn_stops : Plain s
      → (at : ℕ) {o : Forest} {p : ℕ} → at ≤ length s
      → turning s at ≡ got false o p
      → (at ≡ length s) × (p ≡ at)
  unfolding turning parse
  turn_stops pl at {o} {p} i h = go (eqb (byte_at s at) 256) refl h
    where
      go : (b : Bool)
          → eqb (byte_at s at) 256 ≡ b
          → pick b (got false nil at) (parsed s sequence at at) ≡ got false o p
          → (at ≡ length s) × (p ≡ at)
      go true c k = let l = byte_end s pl at (eqb-true (byte_at s at) 256 c) in (omega arith, sym (got_same k).2)
      go false c k = never (sequence_goes at k)

  -- A loop that got something ends at the end of the input.
  loop_ends : Plain s
      → (f at : ℕ) {a : Bool} {o : Forest} {p : ℕ} → at ≤ length s
      → repeat (turning s) f at ≡ got a o p
      → p ≡ length s
  unfolding repeat
  loop_ends pl zero at i h = trouble_got h
  loop_ends pl (suc f) at {a} {o} {p} i h = go (turn (turning s) f at h).1 (λ q v k r. loop_ends pl f q k r)
    where
      go : Turn (turning s) f at o p
          → ((q : ℕ) (v : Forest) → q ≤ length s → repeat (turning s) f q ≡ got true v p → p ≡ length s)
          → p ≡ length s
      go (last x) ih = let y = turn_stops pl at i x in y.1 ∙ y.0
      go (goon o₁ q v x lt r w) ih = ih q v (turn_within at i x) r

  -- What the rule reads of a whole input ends at its end.
  pub utf8_ends : Plain s → {a : Bool} {o : Forest} {p : ℕ} → parse_all utf8 s ≡ got a o p → p ≡ length s
  utf8_ends pl h = loop_ends pl (suc (length s)) 0 (omega arith) (sym (reading_all ∙ reading_loop 0) ∙ h)

-- It refuses by 2 only.
pub utf8_refuses : (s : List ℕ) → Refuses (λ n. n ≡ not_utf8) (parse_all utf8 s)
unfolding refuses_by not_at_end advances utf8 sequence second other
utf8_refuses s = refuses_only not_utf8 utf8 refl s

-- ---- good texts

what_was_got : (x : Answer) → IsGot x → (a : Bool) × (o : Forest) × (p : ℕ) × (x ≡ got a o p)
what_was_got (got a o p) h = (a, o, p, refl)
what_was_got (trouble n a b c d) h = absurd h

-- A text that the rule reads is good.
pub got_good : (s : List ℕ) {a : Bool} {o : Forest} {p : ℕ} → reading s 0 ≡ got a o p → WellFormed s
unfolding WellFormed
got_good s e = subst IsGot (sym (reading_all s ∙ e)) tt

-- The rule reads a good text.
pub good_got : (s : List ℕ) → WellFormed s → (a : Bool) × (o : Forest) × (p : ℕ) × (reading s 0 ≡ got a o p)
unfolding WellFormed
good_got s h = what_was_got (reading s 0) (subst IsGot (reading_all s) h)

-- The empty text is good.
pub good_empty : WellFormed []
unfolding WellFormed parse_all parse utf8 repeat
good_empty = tt

-- ---- two pieces, one behind the other

module _ (x y : List ℕ) where
  -- A turn that goes on in the first piece goes on so in both.
  turn_same : (at : ℕ) {o : Forest} {p : ℕ}
      → at ≤ length x
      → turning x at ≡ got true o p
      → turning (x ++ y) at ≡ got true o p
  unfolding turning
  turn_same at {o} {p} i h =
      let n = length-append x y in
      let t : p ≤ length x = turn_within x at i h in
      let l = (reach (λ d. done) any_byte any_node x (suc (length x)) (flow_turn (λ d. done)) 0 at true o p h
      (length x) t).0 in
      let g = local_got (Lacks any_byte) x (x ++ y) 0 0 0 (length x) (suc (length x)) (omega arith)
      (before x (x ++ y) (length x) (byte_in x y) (omega arith) (omega arith) any_byte (λ j e. refl) any_not_alone 0)
      (suc (length x)) (suc (length (x ++ y))) one_turn 0 0 at at (omega arith) refl (omega arith) l h (omega arith) in
      let k = g.2 in
      g.1 ∙ ap (got true o) (omega arith)

  -- The loop over both, once it stands behind the first piece:
  -- E is its answer, acc what it has read, f the turns that are left.
  record Behind (E : Answer) : Type 0 where
    acc : Forest
    f : ℕ
    turns : length (x ++ y) < f + length x
    rest : E ≡ behind acc (repeat (turning (x ++ y)) f (length x))

  -- Where the loop over the first piece comes to its end, the loop over both comes to stand behind it.
  across : Plain x
      → (E : Answer) (acc : Forest) (g f at : ℕ) {a : Bool} {o : Forest} {p : ℕ} → at ≤ length x
      → repeat (turning x) g at ≡ got a o p
      → E ≡ behind acc (repeat (turning (x ++ y)) f at)
      → length (x ++ y) < f + at
      → Behind E
  unfolding repeat
  across pl E acc zero f at i h e l = trouble_got h
  across pl E acc (suc g) f at {a} {o} {p} i h e l =
      go (turn (turning x) g at h).1 (λ acc₁ f₁ q v k r e₁ l₁. across pl E acc₁ g f₁ q k r e₁ l₁)
    where
      go : Turn (turning x) g at o p
          → ((acc₁ : Forest) (f₁ q : ℕ) (v : Forest) → q ≤ length x → repeat (turning x) g q ≡ got true v p
          → E ≡ behind acc₁ (repeat (turning (x ++ y)) f₁ q) → length (x ++ y) < f₁ + q → Behind E)
          → Behind E
      go (last z) ih =
          let w : at ≡ length x = (turn_stops x pl at i z).0 in
          record {
            acc = acc;
            f = f;
            turns = omega arith;
            rest = subst (λ (q : ℕ). E
                ≡ behind acc (repeat (turning (x ++ y)) f q)) w e;
          }
      go (goon o₁ q v z lt r w) ih =
          let n = length-append x y in
          let m = loop_more E (turning (x ++ y)) (length (x ++ y)) acc f at e l (omega arith) (turn_same at i z) lt in
          ih (acc ⋈ o₁) m.0 q v (turn_within x at i z) r m.2 m.1

  good_behind : Plain x → WellFormed x → Behind (reading (x ++ y) 0)
  good_behind pl h =
      let g = good_got x h in
      across pl (reading (x ++ y) 0) nil (suc (length x)) (suc (length (x ++ y))) 0 (omega arith)
      (sym (reading_loop x 0) ∙ g.3)
      (reading_loop (x ++ y) 0 ∙ sym (behind_none (repeat (turning (x ++ y)) (suc (length (x ++ y))) 0))) (omega arith)

  -- What is read of the second piece is read behind the first, and the other way round.
  moved_in : {a : Bool} {o : Forest} {p : ℕ}
      → reading y 0 ≡ got a o p
      → (q : ℕ) × (reading (x ++ y) (length x) ≡ got a o q)
  unfolding reading
  moved_in {a} {o} {p} h =
      let n = length-append x y in
      let t = reading_within y 0 (omega arith) h in
      let g = local_got (λ w. Unit {0}) y (x ++ y) 0 (length x) 0 (suc (length y)) (suc (length y)) (omega arith)
      (moved_along y (x ++ y) 0 (length x) 0 (λ p p' e l. byte_behind x y p ∙ ap (byte_at (x ++ y)) (omega arith))
      (omega arith) (λ w. Unit {0}) (suc (length y)))
      (suc (length y)) (suc (length (x ++ y))) utf8 0 0 0 (length x) (omega arith) (omega arith) (omega arith)
      (sees y (suc (length y)) utf8 0 0 (omega arith)) h (omega arith) in
      (g.0, g.1)

  moved_out : {a : Bool} {o : Forest} {p : ℕ}
      → reading (x ++ y) (length x) ≡ got a o p
      → (q : ℕ) × (reading y 0 ≡ got a o q)
  unfolding reading
  moved_out {a} {o} {p} h =
      let n = length-append x y in
      let t = reading_within (x ++ y) (length x) (omega arith) h in
      let g = local_got (λ w. Unit {0}) (x ++ y) y (length x) 0 (length x) (suc (length (x ++ y)))
      (suc (length (x ++ y))) (omega arith)
      (moved_along (x ++ y) y (length x) 0 (length x) (λ p p' e l. ap (byte_at (x ++ y)) (omega arith)
      ∙ sym (byte_behind x y p')) (omega arith) (λ w. Unit {0}) (suc (length (x ++ y))))
      (suc (length (x ++ y))) (suc (length y)) utf8 0 0 (length x) 0 (omega arith) (omega arith) (omega arith)
      (sees (x ++ y) (suc (length (x ++ y))) utf8 0 (length x) (omega arith)) h (omega arith) in
      (g.0, g.1)

  -- Good pieces joined are good.
  pub good_join : Plain x → WellFormed x → WellFormed y → WellFormed (x ++ y)
  good_join pl h k =
      let n = length-append x y in
      let B = good_behind pl h in
      let l : length (x ++ y) < B.f + length x = B.turns in
      let m = moved_in (good_got y k).3 in
      let t = reading_within (x ++ y) (length x) (omega arith) m.1 in
      let r = refuel (turning (x ++ y)) (turn_up (x ++ y)) (suc (length (x ++ y))) B.f (length x)
      (sym (reading_loop (x ++ y) (length x)) ∙ m.1) (omega arith) in
      got_good (x ++ y) (B.rest ∙ ap (behind B.acc) r)

  -- What is left of a good text behind a good piece is good.
  pub good_rest : Plain x → WellFormed (x ++ y) → WellFormed x → WellFormed y
  good_rest pl k h =
      let n = length-append x y in
      let B = good_behind pl h in
      let g = good_got (x ++ y) k in
      let t = reading_within (x ++ y) 0 (omega arith) g.3 in
      let b = behind_got B.acc (repeat (turning (x ++ y)) B.f (length x)) (sym B.rest ∙ g.3) in
      let r = refuel (turning (x ++ y)) (turn_up (x ++ y)) B.f (suc (length (x ++ y))) (length x) b.1
      (omega arith) in
      got_good y (moved_out (reading_loop (x ++ y) (length x) ∙ r)).1
