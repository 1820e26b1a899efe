-- How far a reading has looked beyond the place where it ends.
-- A rule takes what was looked at before it to what was looked at after it.
use mathlib.Core.Path.{◌≡◌, refl}
use mathlib.Core.Bool.{Bool, true, false}
use mathlib.Core.List.{List, [], ◌∷◌}
use Prim.Native.Nat.{ℕ}
use lib.Dec.{eqb}
use Rattle.rules.specs.Forest.{Label, node, content, Forest}
use Rattle.rules.specs.Rule.{Place, Test, Verdict, fine, differ, Look, bytes, char, Rule, done, stop, step}
use Rattle.rules.specs.Rule.{refuse, when, look, after, seq, many, wrap, said, marked, paired}
use Rattle.rules.specs.Parse.{got, pick, parse}
use Rattle.rules.proofs.Run.{goes, never}
use Rattle.rules.proofs.Agree.{Without, heads, Lacks}
use Rattle.rules.proofs.Moves.{moves}
use Rattle.rules.proofs.Spots.{Spot, fill}

-- Looked at: nothing behind the end, and the last byte is one that closes; nothing behind the end; the byte at the end;
-- or all that a rule reads from the end on, and the byte behind that.
pub data Mode : Type 0 where
  shut : Mode
  tight : Mode
  near : Mode
  pend : Rule → Mode

infix 30 ◌⊑◌
-- No further than.
pub data ◌⊑◌ : Mode → Mode → Type 0 where
  same : {m : Mode} → m ⊑ m
  shut_tight : shut ⊑ tight
  shut_near : shut ⊑ near
  shut_pend : {r : Rule} → shut ⊑ pend r
  tight_near : tight ⊑ near
  tight_pend : {r : Rule} → tight ⊑ pend r
  near_pend : {r : Rule} → near ⊑ pend r

-- The byte here was looked at.
pub data Seen : Mode → Type 0 where
  seen_near : Seen near
  seen_pend : {r : Rule} → Seen (pend r)

-- A rule that makes no content.
unfoldable pub clear : Rule → Bool
clear done = true
clear stop = true
clear step = true
clear (refuse n w) = true
clear (when f t u) = pick (clear t) (clear u) false
clear (look w t u) = pick (clear t) (clear u) false
clear (after r f t u) = pick (clear t) (clear u) false
clear (seq t u) = pick (clear t) (clear u) false
clear (many t) = clear t
clear (wrap f t) = clear t
clear (said f r t u) = pick (clear r) (pick (clear t) (clear u) false) false
clear (marked t) = clear t
clear (paired t d c u v) = false

-- A rule that has passed a byte wherever it goes on.
unfoldable pub advances : Rule → Bool
advances done = false
advances stop = true
advances step = true
advances (refuse n w) = true
advances (when f t u) = pick (advances t) (advances u) false
advances (look w t u) = pick (advances t) (advances u) false
advances (after r f t u) = pick (advances t) (advances u) false
advances (seq t u) = pick (advances t) true (advances u)
advances (many t) = false
advances (wrap f t) = advances t
advances (said f r t u) = pick (advances r) true (pick (advances t) (advances u) false)
advances (marked t) = advances t
advances (paired t d c u v) = moves t

-- Whether no byte of these passes the test.
unfoldable pub lacking : Test → List ℕ → Bool
lacking q [] = true
lacking q (b ∷ w) = pick (q b) false (lacking q w)

lacking_without : (q : Test) (w : List ℕ) → lacking q w ≡ true → Without q w
unfolding lacking
lacking_without q [] h = tt
lacking_without q (b ∷ w) h = go (q b) refl h (λ k. lacking_without q w k)
  where
    go : (c : Bool)
        → q b ≡ c
        → pick c false (lacking q w) ≡ true
        → (lacking q w ≡ true → Without q w)
        → (q b ≡ false) × Without q w
    go true e k ih = never k
    go false e k ih = (e, ih k)

-- What is asked does not go on behind a byte that passes the test: by computing, of some bytes; of a character, since
-- none that passes goes on with one.
abbrev pub Short : Test → Look → Type 0
Short q (bytes w) = lacking q w ≡ true
Short q (char f) = (b : ℕ) → q b ≡ true → heads b ≡ true

-- It is what the law of locality asks for.
pub short_lacks : (q : Test) (w : Look) → Short q w → Lacks q w
short_lacks q (bytes w) h = lacking_without q w h
short_lacks q (char f) h = h

-- No content's label.
abbrev pub IsNode : Label → Type 0
IsNode (node k x) = Unit {0}
IsNode (content d) = ⊥

-- A refusal's number is not 0.
abbrev pub Numbered : Verdict → Type 0
Numbered fine = Unit {0}
Numbered (differ n a b c d) = eqb n 0 ≡ false

-- A label that makes a node, and does not see what stands in a content.
pub record Steady (l : Forest → Label) : Type 0 where
  pub plain : (o : Forest) → IsNode (l o)
  pub stays : {d : ℕ} {c₀ o : Forest} (ω : Spot d c₀ o) (c₁ : Forest) → l (fill ω c₁) ≡ l o

-- A verdict that refuses by a number, and does not see what stands in a content of the opening tag.
pub record Fair (v : Forest → Forest → Verdict) : Type 0 where
  pub numbered : (o r : Forest) → Numbered (v o r)
  pub stays : {d : ℕ} {c₀ o : Forest} (ω : Spot d c₀ o) (c₁ r : Forest) → v o r ≡ fine → v (fill ω c₁) r ≡ fine

-- What the rule reads, under the label that is made of it, has a property.
abbrev pub Fitting : (R : Label → Forest → Type 0) (l : Forest → Label) (t : Rule) → Type 0
Fitting R l t = (s : List ℕ) (F e at : ℕ) (a : Bool) (o : Forest) (p : ℕ) → parse s F t e at ≡ got a o p → R (l o) o

-- C: what reads a content with that depth left inside it. Q: the bytes that close; no `look` goes on behind one.
-- R: what holds of every node.
-- From a mode, a rule, to a mode where it goes on, and to a mode where it stops.
pub data Flow (C : ℕ → Rule) (Q : Test) (R : Label → Forest → Type 0) : Mode → Rule → Mode → Mode → Type 0 where
  f_weak : {i i' g g' k k' : Mode} {t : Rule} → i ⊑ i' → g ⊑ g' → k ⊑ k' → Flow C Q R i' t g k → Flow C Q R i t g' k'
  f_done : {i k : Mode} → Flow C Q R i done i k
  f_stop : {i g : Mode} → Flow C Q R i stop g i
  f_step : {k : Mode} → Flow C Q R near step tight k
  f_refuse : {i g k : Mode} {n : ℕ} {w : Place} → eqb n 0 ≡ false → Flow C Q R i (refuse n w) g k
  f_when : {i g k : Mode} {f : Test} {t u : Rule}
      → Seen i
      → Flow C Q R i t g k
      → Flow C Q R i u g k
      → Flow C Q R i (when f t u) g k
  f_expect : {k : Mode} {f : Test} {u : Rule}
      → ((b : ℕ) → f b ≡ true → Q b ≡ true)
      → Flow C Q R near u shut k
      → Flow C Q R near (when f step u) shut k
  f_look : {i g k : Mode} {w : Look} {t u : Rule}
      → Seen i
      → Short Q w
      → Flow C Q R i t g k
      → Flow C Q R i u g k
      → Flow C Q R i (look w t u) g k
  f_after : {g k : Mode} {f : Test} {r t u : Rule}
      → goes r ≡ true
      → Flow C Q R near r near near
      → Flow C Q R (pend r) t g k
      → Flow C Q R (pend r) u g k
      → Flow C Q R (pend r) (after r f t u) g k
  f_seq : {i m g k : Mode} {t u : Rule} → Flow C Q R i t m k → Flow C Q R m u g k → Flow C Q R i (seq t u) g k
  f_many : {m k k' : Mode} {t : Rule} → advances t ≡ true → Flow C Q R m t m k → Flow C Q R m (many t) k k'
  f_wrap : {i g k : Mode} {l : Forest → Label} {t : Rule}
      → Steady l
      → Fitting R l t
      → Flow C Q R i t g k
      → Flow C Q R i (wrap l t) g k
  f_said : {i m g k : Mode} {f : Forest → Bool} {r t u : Rule}
      → clear r ≡ true
      → Flow C Q R i r m k
      → Flow C Q R m t g k
      → Flow C Q R m u g k
      → Flow C Q R i (said f r t u) g k
  f_marked : {i g k : Mode} {t : Rule} → Flow C Q R i t g k → Flow C Q R i (marked t) g k
  f_paired : {i m k k' : Mode} {d : ℕ} {t u : Rule} {v : Forest → Forest → Verdict}
      → Fair v
      → advances t ≡ true
      → Flow C Q R i t shut shut
      → goes (C d) ≡ true
      → Flow C Q R shut (C d) m k'
      → clear u ≡ true
      → Flow C Q R m u shut shut
      → Flow C Q R i (paired t d (C d) u v) shut k
  -- What was looked over is read: the first part of it, or all of it.
  f_pass : {k : Mode} {t r : Rule}
      → goes t ≡ true
      → clear t ≡ true
      → Flow C Q R near t near near
      → Flow C Q R (pend (seq t r)) t (pend r) k
  f_last : {k : Mode} {r : Rule}
      → goes r ≡ true
      → clear r ≡ true
      → Flow C Q R near r near near
      → Flow C Q R (pend r) r near k
