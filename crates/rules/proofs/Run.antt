-- Laws of the interpreter, for every grammar.
use mathlib.Core.Path.{◌≡◌, refl, sym, ap, subst, ◌∙◌}
use mathlib.Core.Bool.{Bool, true, false}
use mathlib.Core.List.{List}
use Prim.Native.Nat.{ℕ, zero, suc, ◌+◌, ◌≤◌, ◌<◌}
use native.Mathlib.Omega.{arith}
use lib.ListN.{length}
use lib.Dec.{ltb}
use borrow.Author.Tests.{lt-ltb}
use Rattle.rules.specs.Forest.{content, Forest, nil, byte, group, ◌⋈◌, width}
use Rattle.rules.specs.Rule.{Place, here, mark, from_mark, this_byte, Verdict, fine, differ, Rule, done, stop, step}
use Rattle.rules.specs.Rule.{refuse, when, look, after, seq, many, wrap, said, marked, paired}
use Rattle.rules.specs.Parse.{Answer, got, trouble, pick, and_then, behind, byte_at, stands, refusal, judged}
use Rattle.rules.specs.Parse.{repeat, parse}
use Rattle.rules.proofs.Forests.{behind_nil, behind_assoc, width_behind}

-- ---- an answer behind a forest

-- Nothing in front.
pub behind_none : (x : Answer) → behind nil x ≡ x
unfolding ◌⋈◌
behind_none (got a o p) = refl
behind_none (trouble n a b c d) = refl

-- Two forests in front.
pub behind_behind : (u v : Forest) (x : Answer) → behind u (behind v x) ≡ behind (u ⋈ v) x
behind_behind u v (got a o p) = ap (λ (w : Forest). got a w p) (sym (behind_assoc u v o))
behind_behind u v (trouble n a b c d) = refl

-- ---- what is said of an answer

-- No bit is both.
pub never : {A : Type 0} → false ≡ true → A
never e = let z : ◌≡◌ {A = ℕ} 0 1 = cc in absurd (omega arith)

-- Two bits that are both set.
pub both : (a b : Bool) → pick a b false ≡ true → (a ≡ true) × (b ≡ true)
both true b e = (refl, e)
both false b e = never e

-- Of what was got, if anything was.
abbrev pub Then : Answer → (Bool → Forest → ℕ → Type 0) → Type 0
Then (got a o p) R = R a o p
Then (trouble n a b c d) R = Unit {0}

-- The one or the other, by a bit.
abbrev pub Either : Bool → Type 0 → Type 0 → Type 0
Either true A B = A
Either false A B = B

-- One of two answers,
pub then_if : (R : Bool → Forest → ℕ → Type 0) (b : Bool) (x y : Answer) → Then x R → Then y R → Then (pick b x y) R
then_if R true x y h k = h
then_if R false x y h k = k

-- S of the first answer gives R of the second.
pub then_then : (S R : Bool → Forest → ℕ → Type 0) (x : Answer) (f : Bool → Forest → ℕ → Answer)
    → Then x S
    → ((a : Bool) (o : Forest) (p : ℕ) → S a o p → Then (f a o p) R)
    → Then (and_then x f) R
then_then S R (got a o p) f h k = k a o p h
then_then S R (trouble n a b c d) f h k = tt

-- an answer that is only looked at,
pub then_any : (R : Bool → Forest → ℕ → Type 0) (x : Answer) (f : Bool → Forest → ℕ → Answer)
    → ((a : Bool) (o : Forest) (p : ℕ) → Then (f a o p) R)
    → Then (and_then x f) R
then_any R (got a o p) f k = k a o p
then_any R (trouble n a b c d) f k = tt

-- one with a forest in front,
pub then_behind : (S R : Bool → Forest → ℕ → Type 0) (u : Forest) (x : Answer)
    → Then x S
    → ((a : Bool) (o : Forest) (p : ℕ) → S a o p → R a (u ⋈ o) p)
    → Then (behind u x) R
then_behind S R u (got a o p) h k = k a o p h
then_behind S R u (trouble n a b c d) h k = tt

-- a refusal,
pub then_refusal : (R : Bool → Forest → ℕ → Type 0) (n : ℕ) (w : Place) (e at : ℕ) → Then (refusal n w e at) R
then_refusal R n here e at = tt
then_refusal R n mark e at = tt
then_refusal R n from_mark e at = tt
then_refusal R n this_byte e at = tt

-- and one under a verdict.
pub then_judged : (R : Bool → Forest → ℕ → Type 0) (at q : ℕ) (v : Verdict) (x : Answer)
    → Then x R
    → Then (judged at q v x) R
then_judged R at q fine x h = h
then_judged R at q (differ n a b c d) x h = tt

-- ---- rules that go on

-- The rule goes on wherever it gets something.
unfoldable pub goes : Rule → Bool
goes done = true
goes stop = false
goes step = true
goes (refuse n w) = true
goes (when f t u) = pick (goes t) (goes u) false
goes (look w t u) = pick (goes t) (goes u) false
goes (after r f t u) = pick (goes t) (goes u) false
goes (seq t u) = pick (goes t) (goes u) false
goes (many t) = true
goes (wrap f t) = goes t
goes (said f r t u) = pick (goes r) (pick (goes t) (goes u) false) false
goes (marked t) = goes t
goes (paired t d c u v) = true

-- What was got goes on.
abbrev pub GoesOn : Bool → Forest → ℕ → Type 0
GoesOn a o p = a ≡ true

-- So does an answer, if it got something.
abbrev pub Goes : Answer → Type 0
Goes x = Then x GoesOn

goes_on : (a : Bool) (x y : Answer) → a ≡ true → Goes x → Goes (pick a x y)
goes_on true x y e h = h
goes_on false x y e h = never e

goes_behind : (u : Forest) (x : Answer) → Goes x → Goes (behind u x)
goes_behind u x h = then_behind GoesOn GoesOn u x h (λ a o p k. k)

-- An answer that goes on got `true`.
pub got_goes : {a : Bool} {o : Forest} {p : ℕ} (x : Answer) → Goes x → x ≡ got a o p → a ≡ true
got_goes x h e = subst Goes e h

-- A loop always goes on.
pub goes_repeat : (body : ℕ → Answer) (f at : ℕ) → Goes (repeat body f at)
unfolding repeat
goes_repeat body zero at = tt
goes_repeat body (suc f) at =
    then_any GoesOn (body at) _ (λ a o p. then_if GoesOn a _ _
    (then_if GoesOn (ltb at p) _ _ (goes_behind o (repeat body f p) (goes_repeat body f p)) tt) refl)

-- A rule that goes on never stops.
pub on : (s : List ℕ) (F : ℕ) (t : Rule) → goes t ≡ true → (e at : ℕ) → Goes (parse s F t e at)
unfolding goes parse
on s F done h e at = refl
on s F stop h e at = h
on s F step h e at = then_if GoesOn (ltb at (length s)) _ _ refl tt
on s F (refuse n w) h e at = then_refusal GoesOn n w e at
on s F (when f t u) h e at =
    let g = both (goes t) (goes u) h in
    then_if GoesOn (f (byte_at s at)) _ _ (on s F t g.0 e at) (on s F u g.1 e at)
on s F (look w t u) h e at =
    let g = both (goes t) (goes u) h in
    then_if GoesOn (stands s w at) _ _ (on s F t g.0 e at) (on s F u g.1 e at)
on s F (after r f t u) h e at = let g = both (goes t) (goes u) h in
    then_any GoesOn (parse s F r e at) (λ a o p. pick (f (byte_at s p)) (parse s F t e at) (parse s F u e at))
    (λ a o p. then_if GoesOn (f (byte_at s p)) _ _ (on s F t g.0 e at) (on s F u g.1 e at))
on s F (seq t u) h e at = let g = both (goes t) (goes u) h in
    then_then GoesOn GoesOn (parse s F t e at) _ (on s F t g.0 e at)
    (λ a o p k. goes_on a _ _ k (goes_behind o (parse s F u e p) (on s F u g.1 e p)))
on s F (many t) h e at = goes_repeat (parse s F t e) F at
on s F (wrap f t) h e at = then_then GoesOn GoesOn (parse s F t e at) _ (on s F t h e at) (λ a o p k. k)
on s F (said f r t u) h e at =
    let g = both (goes r) (pick (goes t) (goes u) false) h in
    let k = both (goes t) (goes u) g.1 in
    then_then GoesOn GoesOn (parse s F r e at)
    (λ a o p. pick a (behind o (pick (f o) (parse s F t e p) (parse s F u e p))) (got false o p)) (on s F r g.0 e at)
    (λ a o p l. goes_on a (behind o (pick (f o) (parse s F t e p) (parse s F u e p))) (got false o p) l
    (goes_behind o (pick (f o) (parse s F t e p) (parse s F u e p))
    (then_if GoesOn (f o) (parse s F t e p) (parse s F u e p) (on s F t k.0 e p) (on s F u k.1 e p))))
on s F (marked t) h e at = on s F t h at at
on s F (paired t d c u v) h e at =
    then_any GoesOn (parse s F t e at) _ (λ a o p. then_if GoesOn a _ _
    (then_any GoesOn (parse s F c e p) _
    (λ b i q. then_any GoesOn (parse s F u e q) _ (λ b' r z. then_judged GoesOn at q (v o r) _ refl))) refl)

-- ---- places, and bytes: what was read from `at` on is as wide as the way, and stands there

-- The bytes of the forest stand in the input from `at` on.
abbrev pub Lies : List ℕ → ℕ → Forest → Type 0
Lies s at nil = Unit {0}
Lies s at (byte b u) = (byte_at s at ≡ b) × Lies s (at + 1) u
Lies s at (group k c u) = Lies s at c × Lies s (at + width c) u

-- At the same place.
pub lies_at : (s : List ℕ) (v : Forest) {a b : ℕ} → a ≡ b → Lies s a v → Lies s b v
lies_at s v e h = subst (λ (x : ℕ). Lies s x v) e h

-- One forest behind the other.
pub lies_join : (s : List ℕ) (u v : Forest) (at : ℕ) → Lies s at u → Lies s (at + width u) v → Lies s at (u ⋈ v)
unfolding width ◌⋈◌
lies_join s nil v at h k = lies_at s v (omega arith) k
lies_join s (byte b u) v at h k = (h.0, lies_join s u v (at + 1) h.1 (lies_at s v (omega arith) k))
lies_join s (group x c u) v at h k = (h.0, lies_join s u v (at + width c) h.1 (lies_at s v (omega arith) k))

-- What was got is as wide as the way, and stands there.
abbrev pub WideTo : List ℕ → ℕ → Bool → Forest → ℕ → Type 0
WideTo s at a o p = (p ≡ at + width o) × Lies s at o

-- So is an answer, if it got something.
abbrev pub Wide : List ℕ → ℕ → Answer → Type 0
Wide s at x = Then x (WideTo s at)

wide_behind : (s : List ℕ) (at p : ℕ) (u : Forest) (x : Answer)
    → (p ≡ at + width u) × Lies s at u
    → Wide s p x
    → Wide s at (behind u x)
wide_behind s at p u x h w =
    then_behind (WideTo s p) (WideTo s at) u x w
    (λ a o q k. (let j = width_behind u o in omega arith, lies_join s u o at h.1 (lies_at s o h.0 k.1)))

-- A loop whose turns are.
pub wide_repeat : (s : List ℕ) (body : ℕ → Answer)
    → ((at : ℕ) → Wide s at (body at))
    → (f at : ℕ) → Wide s at (repeat body f at)
unfolding repeat
wide_repeat s body h zero at = tt
wide_repeat s body h (suc f) at = then_then (WideTo s at) (WideTo s at) (body at) _ (h at)
    (λ a o p w. then_if (WideTo s at) a _ _
    (then_if (WideTo s at) (ltb at p) _ _ (wide_behind s at p o (repeat body f p) w (wide_repeat s body h f p)) tt) w)

-- What a rule gets from `at` on is as wide as the way, and its bytes are the input's.
pub wide : (s : List ℕ) (F : ℕ) (t : Rule) (e at : ℕ) → Wide s at (parse s F t e at)
unfolding parse width
wide s F done e at = (omega arith, tt)
wide s F stop e at = (omega arith, tt)
wide s F step e at = then_if (WideTo s at) (ltb at (length s)) _ _ (omega arith, (refl, tt)) tt
wide s F (refuse n w) e at = then_refusal (WideTo s at) n w e at
wide s F (when f t u) e at = then_if (WideTo s at) (f (byte_at s at)) _ _ (wide s F t e at) (wide s F u e at)
wide s F (look w t u) e at = then_if (WideTo s at) (stands s w at) _ _ (wide s F t e at) (wide s F u e at)
wide s F (after r f t u) e at =
    then_any (WideTo s at) (parse s F r e at) _
    (λ a o p. then_if (WideTo s at) (f (byte_at s p)) _ _ (wide s F t e at) (wide s F u e at))
wide s F (seq t u) e at = then_then (WideTo s at) (WideTo s at) (parse s F t e at) _ (wide s F t e at)
    (λ a o p w. then_if (WideTo s at) a _ _ (wide_behind s at p o (parse s F u e p) w (wide s F u e p)) w)
wide s F (many t) e at = wide_repeat s (parse s F t e) (λ p. wide s F t e p) F at
wide s F (wrap f t) e at =
    then_then (WideTo s at) (WideTo s at) (parse s F t e at) _ (wide s F t e at) (λ a o p w. (omega arith, (w.1, tt)))
wide s F (said f r t u) e at = then_then (WideTo s at) (WideTo s at) (parse s F r e at) _ (wide s F r e at)
    (λ a o p w. then_if (WideTo s at) a _ _ (wide_behind s at p o (pick (f o) (parse s F t e p) (parse s F u e p)) w
    (then_if (WideTo s p) (f o) (parse s F t e p) (parse s F u e p) (wide s F t e p) (wide s F u e p))) w)
wide s F (marked t) e at = wide s F t at at
wide s F (paired t d c u v) e at =
    then_then (WideTo s at) (WideTo s at) (parse s F t e at) _ (wide s F t e at) (λ a o p w. then_if (WideTo s at) a _ _
    (then_then (WideTo s p) (WideTo s at) (parse s F c e p) _ (wide s F c e p)
    (λ b h q y. then_then (WideTo s q) (WideTo s at) (parse s F u e q) _ (wide s F u e q) (λ b' r z x.
    then_judged (WideTo s at) at q (v o r) _
    (wide_behind s at p o (got true (group (content d) h r) z) w (omega arith, (y.1, lies_at s r y.0 x.1)))))) w)

-- What was got ends as many places on as it has bytes;
pub wide_got : (s : List ℕ) (F : ℕ) (t : Rule) (e at : ℕ) {a : Bool} {o : Forest} {p : ℕ}
    → parse s F t e at ≡ got a o p
    → p ≡ at + width o
wide_got s F t e at h = (subst (Wide s at) h (wide s F t e at)).0

-- and those bytes stand there.
pub lies_got : (s : List ℕ) (F : ℕ) (t : Rule) (e at : ℕ) {a : Bool} {o : Forest} {p : ℕ}
    → parse s F t e at ≡ got a o p
    → Lies s at o
lies_got s F t e at h = (subst (Wide s at) h (wide s F t e at)).1

-- ---- rules that do not ask where the mark is

-- No refusal of the rule points at the mark of what it stands in.
unfoldable pub calm : Rule → Bool
calm done = true
calm stop = true
calm step = true
calm (refuse n here) = true
calm (refuse n mark) = false
calm (refuse n from_mark) = false
calm (refuse n this_byte) = true
calm (when f t u) = pick (calm t) (calm u) false
calm (look w t u) = pick (calm t) (calm u) false
calm (after r f t u) = pick (calm r) (pick (calm t) (calm u) false) false
calm (seq t u) = pick (calm t) (calm u) false
calm (many t) = calm t
calm (wrap f t) = calm t
calm (said f r t u) = pick (calm r) (pick (calm t) (calm u) false) false
calm (marked t) = true
calm (paired t d c u v) = pick (calm t) (pick (calm c) (calm u) false) false

-- Loops with the same turns.
pub repeat_same : (body body' : ℕ → Answer)
    → ((at : ℕ) → body at ≡ body' at)
    → (f at : ℕ) → repeat body f at ≡ repeat body' f at
unfolding repeat
repeat_same body body' h zero at = refl
repeat_same body body' h (suc f) at =
    λ i. and_then (h at i)
    (λ a o p. pick a (pick (ltb at p) (behind o (repeat_same body body' h f p i)) (trouble 0 at at 0 0)) (got true o p))

-- Such a rule answers the same under every mark.
pub unmarked : (s : List ℕ) (F : ℕ) (t : Rule) → calm t ≡ true → (e e' at : ℕ) → parse s F t e at ≡ parse s F t e' at
unfolding parse calm
unmarked s F done h e e' at = refl
unmarked s F stop h e e' at = refl
unmarked s F step h e e' at = refl
unmarked s F (refuse n here) h e e' at = refl
unmarked s F (refuse n mark) h e e' at = never h
unmarked s F (refuse n from_mark) h e e' at = never h
unmarked s F (refuse n this_byte) h e e' at = refl
unmarked s F (when f t u) h e e' at =
    let g = both (calm t) (calm u) h in
    λ i. pick (f (byte_at s at)) (unmarked s F t g.0 e e' at i) (unmarked s F u g.1 e e' at i)
unmarked s F (look w t u) h e e' at =
    let g = both (calm t) (calm u) h in
    λ i. pick (stands s w at) (unmarked s F t g.0 e e' at i) (unmarked s F u g.1 e e' at i)
unmarked s F (after r f t u) h e e' at =
    let g = both (calm r) (pick (calm t) (calm u) false) h in
    let k = both (calm t) (calm u) g.1 in
    λ i. and_then (unmarked s F r g.0 e e' at i)
    (λ a o p. pick (f (byte_at s p)) (unmarked s F t k.0 e e' at i) (unmarked s F u k.1 e e' at i))
unmarked s F (seq t u) h e e' at = let g = both (calm t) (calm u) h in
    λ i. and_then (unmarked s F t g.0 e e' at i)
    (λ a o p. pick a (behind o (unmarked s F u g.1 e e' p i)) (got false o p))
unmarked s F (many t) h e e' at = repeat_same (parse s F t e) (parse s F t e') (λ p. unmarked s F t h e e' p) F at
unmarked s F (wrap f t) h e e' at = λ i. and_then (unmarked s F t h e e' at i) (λ a o p. got a (group (f o) o nil) p)
unmarked s F (said f r t u) h e e' at =
    let g = both (calm r) (pick (calm t) (calm u) false) h in
    let k = both (calm t) (calm u) g.1 in
    λ i. and_then (unmarked s F r g.0 e e' at i) (λ a o p. pick a
    (behind o (pick (f o) (unmarked s F t k.0 e e' p i) (unmarked s F u k.1 e e' p i))) (got false o p))
unmarked s F (marked t) h e e' at = refl
unmarked s F (paired t d c u v) h e e' at =
    let g = both (calm t) (pick (calm c) (calm u) false) h in
    let k = both (calm c) (calm u) g.1 in
    λ i. and_then (unmarked s F t g.0 e e' at i) (λ a o p. pick a
    (and_then (unmarked s F c k.0 e e' p i) (λ b x q.
    and_then (unmarked s F u k.1 e e' q i) (λ b' r z.
    judged at q (v o r) (got true (o ⋈ group (content d) x r) z))))
    (got true o p))

-- ---- loops: what a loop read up to here, and the rest of it

module _ (E : Answer) (body : ℕ → Answer) (l : ℕ) (acc : Forest) where
  -- One more turn, which goes on.
  pub loop_more : (f p : ℕ) {o : Forest} {q : ℕ}
      → E ≡ behind acc (repeat body f p)
      → l < f + p
      → p ≤ l
      → body p ≡ got true o q
      → p < q
      → (g : ℕ) × (l < g + q) × (E ≡ behind (acc ⋈ o) (repeat body g q))
  unfolding repeat
  loop_more zero p e h i b k = absurd (omega arith)
  loop_more (suc g) p {o} {q} e h i b k =
      (g, omega arith, (rw (b, lt-ltb p q k) at e) ∙ behind_behind acc o (repeat body g q))

  -- The last turn.
  pub loop_last : (f p : ℕ) {o : Forest} {q : ℕ}
      → E ≡ behind acc (repeat body f p)
      → l < f + p
      → p ≤ l
      → body p ≡ got false o q
      → E ≡ got true (acc ⋈ o) q
  unfolding repeat
  loop_last zero p e h i b = absurd (omega arith)
  loop_last (suc g) p e h i b = rw b at e

  -- the last turn read nothing
  pub loop_ends : (f p : ℕ) {q : ℕ}
      → E ≡ behind acc (repeat body f p)
      → l < f + p
      → p ≤ l
      → body p ≡ got false nil q
      → E ≡ got true acc q
  loop_ends f p {q} e h i b = loop_last f p e h i b ∙ ap (λ (x : Forest). got true x q) (behind_nil acc)

  -- A turn that refuses.
  pub loop_no : (f p : ℕ) {x a b c d : ℕ}
      → E ≡ behind acc (repeat body f p)
      → l < f + p
      → p ≤ l
      → body p ≡ trouble x a b c d
      → E ≡ trouble x a b c d
  unfolding repeat
  loop_no zero p e h i b = absurd (omega arith)
  loop_no (suc g) p e h i b = rw b at e

-- ---- two rules, one after the other: what each of them read

-- Where both were got and the second went on.
pub both_read : (s : List ℕ) (F : ℕ) (t u : Rule) (e at : ℕ) {o : Forest} {p : ℕ}
    → parse s F (seq t u) e at ≡ got true o p
    → (o₁ : Forest) × (p₁ : ℕ) × (o₂ : Forest) × (parse s F t e at ≡ got true o₁ p₁)
    × (parse s F u e p₁ ≡ got true o₂ p) × (o ≡ o₁ ⋈ o₂)
unfolding parse
both_read s F t u e at {o} {p} h = go (parse s F t e at) refl h
  where
    second : (o₁ : Forest) (p₁ : ℕ)
        → parse s F t e at ≡ got true o₁ p₁
        → (y : Answer) → parse s F u e p₁ ≡ y
        → behind o₁ y ≡ got true o p
        → (o₁ : Forest) × (p₁ : ℕ) × (o₂ : Forest) × (parse s F t e at ≡ got true o₁ p₁)
        × (parse s F u e p₁ ≡ got true o₂ p) × (o ≡ o₁ ⋈ o₂)
    second o₁ p₁ f (got a v q) g k =
        let k₁ : a ≡ true = cc in
        let k₂ : o₁ ⋈ v ≡ o = cc in
        let k₃ : q ≡ p = cc in
        (o₁, p₁, v, f, g ∙ (λ i. got (k₁ i) v (k₃ i)), sym k₂)
    second o₁ p₁ f (trouble n a b c d) g k = let z : ◌≡◌ {A = ℕ} 0 1 = cc in absurd (omega arith)

    go : (x : Answer)
        → parse s F t e at ≡ x
        → and_then x (λ a v q. pick a (behind v (parse s F u e q)) (got false v q)) ≡ got true o p
        → (o₁ : Forest) × (p₁ : ℕ) × (o₂ : Forest) × (parse s F t e at ≡ got true o₁ p₁)
        × (parse s F u e p₁ ≡ got true o₂ p) × (o ≡ o₁ ⋈ o₂)
    go (got true v q) f k = second v q f (parse s F u e q) refl k
    go (got false v q) f k = let z : ◌≡◌ {A = ℕ} 0 1 = cc in absurd (omega arith)
    go (trouble n a b c d) f k = let z : ◌≡◌ {A = ℕ} 0 1 = cc in absurd (omega arith)
