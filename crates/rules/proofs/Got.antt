-- An answer that got something, taken apart.
use mathlib.Core.Path.{◌≡◌, refl, sym, ap, subst, ◌∙◌}
use mathlib.Core.Bool.{Bool, true, false}
use mathlib.Core.List.{List}
use Prim.Native.Nat.{ℕ}
use native.Mathlib.Omega.{arith}
use Rattle.rules.specs.Forest.{Label, content, Forest, nil, group, ◌⋈◌}
use Rattle.rules.specs.Rule.{Place, here, mark, from_mark, this_byte, Verdict, fine, differ, Rule, seq, wrap, said}
use Rattle.rules.specs.Rule.{paired}
use Rattle.rules.specs.Parse.{Answer, got, trouble, pick, and_then, behind, refusal, judged, parse}
use Rattle.rules.proofs.Run.{Then, Either, goes, on, got_goes}

-- A refusal got nothing.
pub trouble_got : {X : Type 0} {n a b c d p : ℕ} {g : Bool} {o : Forest} → trouble n a b c d ≡ got g o p → X
trouble_got {X} h = let z : ◌≡◌ {A = ℕ} 0 1 = cc in absurd (omega arith)

-- A bit is not both.
pub false_true : {X : Type 0} {a : Bool} → a ≡ false → a ≡ true → X
false_true e f = let z : ◌≡◌ {A = ℕ} 0 1 = cc in absurd (omega arith)

-- A refusal at any place got nothing.
pub refusal_got : {X : Type 0} (n : ℕ) (w : Place) (e at : ℕ) {a : Bool} {o : Forest} {p : ℕ}
    → refusal n w e at ≡ got a o p
    → X
refusal_got n here e at h = trouble_got h
refusal_got n mark e at h = trouble_got h
refusal_got n from_mark e at h = trouble_got h
refusal_got n this_byte e at h = trouble_got h

-- The three parts of what was got.
pub got_same : {a b : Bool} {o v : Forest} {p q : ℕ} → got a o p ≡ got b v q → (a ≡ b) × (o ≡ v) × (p ≡ q)
got_same h = (cc, cc, cc)

-- What was got by two answers was got by the first, and then by the second.
pub then_got : (x : Answer) (f : Bool → Forest → ℕ → Answer) {a : Bool} {o : Forest} {p : ℕ}
    → and_then x f ≡ got a o p
    → (a₁ : Bool) × (o₁ : Forest) × (p₁ : ℕ) × (x ≡ got a₁ o₁ p₁) × (f a₁ o₁ p₁ ≡ got a o p)
then_got (got a₁ o₁ p₁) f e = (a₁, o₁, p₁, refl, e)
then_got (trouble n a b c d) f e = trouble_got e

-- With a forest in front: what was got behind it.
pub behind_got : (u : Forest) (x : Answer) {a : Bool} {o : Forest} {p : ℕ}
    → behind u x ≡ got a o p
    → (o₁ : Forest) × (x ≡ got a o₁ p)
behind_got u (got a₁ o₁ p₁) {a} {o} {p} e =
    let k₁ : a₁ ≡ a = cc in
    let k₂ : p₁ ≡ p = cc in
    (o₁, λ i. got (k₁ i) o₁ (k₂ i))
behind_got u (trouble n a b c d) e = trouble_got e

-- The same, and the forest is the two joined.
pub behind_out : (u : Forest) (x : Answer) {a : Bool} {o : Forest} {p : ℕ}
    → behind u x ≡ got a o p
    → (o₁ : Forest) × (x ≡ got a o₁ p) × (o ≡ u ⋈ o₁)
behind_out u (got a₁ o₁ p₁) {a} {o} {p} e =
    let k₁ : a₁ ≡ a = cc in
    let k₂ : p₁ ≡ p = cc in
    let k₃ : o ≡ u ⋈ o₁ = cc in
    (o₁, (λ i. got (k₁ i) o₁ (k₂ i)), k₃)
behind_out u (trouble n a b c d) e = trouble_got e

-- What was got by one of two, from either.
pub pick_case : {X : Type 0} (b : Bool) (x y : Answer) {a : Bool} {o : Forest} {p : ℕ}
    → pick b x y ≡ got a o p
    → (x ≡ got a o p → X)
    → (y ≡ got a o p → X)
    → X
pick_case true x y e f g = f e
pick_case false x y e f g = g e

-- The same, with what holds of the one or of the other.
pub either_got : (b : Bool) (x y : Answer) (A B : Type 0) {a : Bool} {o : Forest} {p : ℕ}
    → pick b x y ≡ got a o p
    → (x ≡ got a o p → A)
    → (y ≡ got a o p → B)
    → Either b A B
either_got true x y A B e f g = f e
either_got false x y A B e f g = g e

-- What holds of the parts holds of what was got.
pub then_is : {x : Answer} (R : Bool → Forest → ℕ → Type 0) {a : Bool} {o : Forest} {p : ℕ}
    → x ≡ got a o p
    → R a o p
    → Then x R
then_is R e r = subst (λ (y : Answer). Then y R) (sym e) r

-- A rule that goes on got `true`.
pub going : (s : List ℕ) (F : ℕ) (t : Rule) (e at : ℕ) {a : Bool} {o : Forest} {p : ℕ}
    → goes t ≡ true
    → parse s F t e at ≡ got a o p
    → parse s F t e at ≡ got true o p
going s F t e at {a} {o} {p} g h = h ∙ ap (λ (b : Bool). got b o p) (got_goes (parse s F t e at) (on s F t g e at) h)

-- A judgment that got something was fine.
pub judged_got : (at q : ℕ) (v : Verdict) (x : Answer) {a : Bool} {o : Forest} {p : ℕ}
    → judged at q v x ≡ got a o p
    → (v ≡ fine) × (x ≡ got a o p)
judged_got at q fine x h = (refl, h)
judged_got at q (differ n a b c d) x h = trouble_got h

-- ---- two rules, one after the other

-- Both were got, or the first and it stopped.
pub data SeqGot (x : Answer) (y : ℕ → Answer) (a : Bool) (p : ℕ) : Type 0 where
  two : (o₁ : Forest) (p₁ : ℕ) (o₂ : Forest) → x ≡ got true o₁ p₁ → y p₁ ≡ got a o₂ p → SeqGot x y a p
  one : (o₁ : Forest) → x ≡ got false o₁ p → a ≡ false → SeqGot x y a p

-- Those two cases are all.
pub seq_got : (x : Answer) (y : ℕ → Answer) {a : Bool} {o : Forest} {p : ℕ}
    → and_then x (λ a₁ o₁ p₁. pick a₁ (behind o₁ (y p₁)) (got false o₁ p₁)) ≡ got a o p
    → SeqGot x y a p
seq_got (got true o₁ p₁) y e = let g = behind_got o₁ (y p₁) e in two o₁ p₁ g.0 refl g.1
seq_got (got false o₁ p₁) y {a} {o} {p} e =
    let k₁ : a ≡ false = cc in
    let k₂ : p₁ ≡ p = cc in
    one o₁ (λ i. got false o₁ (k₂ i)) k₁
seq_got (trouble n a b c d) y e = trouble_got e

-- The same, with the forests.
pub data SeqOut (x : Answer) (y : ℕ → Answer) (a : Bool) (o : Forest) (p : ℕ) : Type 0 where
  two : (o₁ : Forest) (p₁ : ℕ) (o₂ : Forest) → x ≡ got true o₁ p₁ → y p₁ ≡ got a o₂ p → o ≡ o₁ ⋈ o₂ → SeqOut x y a o p
  one : x ≡ got false o p → a ≡ false → SeqOut x y a o p

-- Those two cases are all.
pub seq_out : (x : Answer) (y : ℕ → Answer) {a : Bool} {o : Forest} {p : ℕ}
    → and_then x (λ a₁ o₁ p₁. pick a₁ (behind o₁ (y p₁)) (got false o₁ p₁)) ≡ got a o p
    → SeqOut x y a o p
seq_out (got true o₁ p₁) y e = let g = behind_out o₁ (y p₁) e in two o₁ p₁ g.0 refl g.1 g.2
seq_out (got false o₁ p₁) y {a} {o} {p} e =
    let k₁ : a ≡ false = cc in
    let k₂ : o₁ ≡ o = cc in
    let k₃ : p₁ ≡ p = cc in
    one (λ i. got false (k₂ i) (k₃ i)) k₁
seq_out (trouble n a b c d) y e = trouble_got e

-- ---- a rule, then one of two by what it has read

-- Three cases: the one, the other, or the first rule stopped.
pub data SaidOut (f : Forest → Bool) (x : Answer) (y z : ℕ → Answer) (a : Bool) (o : Forest) (p : ℕ) : Type 0 where
  so : (o₁ : Forest) (p₁ : ℕ) (o₂ : Forest)
      → x ≡ got true o₁ p₁
      → f o₁ ≡ true
      → y p₁ ≡ got a o₂ p
      → o ≡ o₁ ⋈ o₂
      → SaidOut f x y z a o p
  otherwise : (o₁ : Forest) (p₁ : ℕ) (o₂ : Forest)
      → x ≡ got true o₁ p₁
      → f o₁ ≡ false
      → z p₁ ≡ got a o₂ p
      → o ≡ o₁ ⋈ o₂
      → SaidOut f x y z a o p
  stopped : x ≡ got false o p → a ≡ false → SaidOut f x y z a o p

-- Those three are all.
pub said_out : (f : Forest → Bool) (x : Answer) (y z : ℕ → Answer) {a : Bool} {o : Forest} {p : ℕ}
    → and_then x (λ a₁ o₁ p₁. pick a₁ (behind o₁ (pick (f o₁) (y p₁) (z p₁))) (got false o₁ p₁)) ≡ got a o p
    → SaidOut f x y z a o p
said_out f (got true o₁ p₁) y z {a} {o} {p} e = go (f o₁) refl e
  where
    go : (b : Bool) → f o₁ ≡ b → behind o₁ (pick b (y p₁) (z p₁)) ≡ got a o p → SaidOut f (got true o₁ p₁) y z a o p
    go true h k = let g = behind_out o₁ (y p₁) k in so o₁ p₁ g.0 refl h g.1 g.2
    go false h k = let g = behind_out o₁ (z p₁) k in otherwise o₁ p₁ g.0 refl h g.1 g.2
said_out f (got false o₁ p₁) y z {a} {o} {p} e =
    let k₁ : a ≡ false = cc in
    let k₂ : o₁ ≡ o = cc in
    let k₃ : p₁ ≡ p = cc in
    stopped (λ i. got false (k₂ i) (k₃ i)) k₁
said_out f (trouble n a b c d) y z e = trouble_got e

-- ---- two tags, and what is between them

-- Two cases: a tag alone, or two tags that belong together and a content between them.
pub data PairOut (s : List ℕ) (F d : ℕ) (t c u : Rule) (v : Forest → Forest → Verdict) (e at : ℕ) (a : Bool)
    (o : Forest) (p : ℕ) : Type 0 where
  lone : parse s F t e at ≡ got false o p → a ≡ true → PairOut s F d t c u v e at a o p
  full : (o₁ : Forest) (p₁ : ℕ) (b : Bool) (h : Forest) (p₂ : ℕ) (b₂ : Bool) (r : Forest)
      → parse s F t e at ≡ got true o₁ p₁
      → parse s F c e p₁ ≡ got b h p₂
      → parse s F u e p₂ ≡ got b₂ r p
      → v o₁ r ≡ fine
      → o ≡ o₁ ⋈ group (content d) h r
      → a ≡ true
      → PairOut s F d t c u v e at a o p

-- Those two are all.
pub pair_out : (s : List ℕ) (F d : ℕ) (t c u : Rule) (v : Forest → Forest → Verdict)
    (e at : ℕ) {a : Bool} {o : Forest} {p : ℕ}
    → parse s F (paired t d c u v) e at ≡ got a o p
    → PairOut s F d t c u v e at a o p
unfolding parse
pair_out s F d t c u v e at {a} {o} {p} k = go (then_got (parse s F t e at) _ k)
  where
    Tail : Forest → Bool → Forest → ℕ → Answer
    Tail o₁ b h q = and_then (parse s F u e q)
        (λ b' r z. judged at q (v o₁ r) (got true (o₁ ⋈ group (content d) h r) z))

    go : (a₁ : Bool) × (o₁ : Forest) × (p₁ : ℕ) × (parse s F t e at ≡ got a₁ o₁ p₁)
        × (pick a₁ (and_then (parse s F c e p₁) (Tail o₁)) (got true o₁ p₁) ≡ got a o p)
        → PairOut s F d t c u v e at a o p
    go (true, o₁, p₁, x, k) =
        let y = then_got (parse s F c e p₁) (Tail o₁) k in
        let w = then_got (parse s F u e y.2) _ y.4 in
        let j = judged_got at y.2 (v o₁ w.1) _ w.4 in
        let g = got_same j.1 in
        full o₁ p₁ y.0 y.1 y.2 w.0 w.1 x y.3 (w.3 ∙ (λ i. got w.0 w.1 (g.2 i))) j.0
        (sym g.1) (sym g.0)
    go (false, o₁, p₁, x, k) = let g = got_same k in lone (x ∙ (λ i. got false (g.1 i) (g.2 i))) (sym g.0)

-- ---- the other rules

-- By the rule: two rules, one after the other;
pub seq_read : (s : List ℕ) (F : ℕ) (t u : Rule) (e at : ℕ) {a : Bool} {o : Forest} {p : ℕ}
    → parse s F (seq t u) e at ≡ got a o p
    → SeqOut (parse s F t e at) (parse s F u e) a o p
unfolding parse
seq_read s F t u e at h = seq_out (parse s F t e at) (parse s F u e) h

-- one of two by what was read;
pub said_read : (s : List ℕ) (F : ℕ) (f : Forest → Bool) (r t u : Rule) (e at : ℕ) {a : Bool} {o : Forest} {p : ℕ}
    → parse s F (said f r t u) e at ≡ got a o p
    → SaidOut f (parse s F r e at) (parse s F t e) (parse s F u e) a o p
unfolding parse
said_read s F f r t u e at h = said_out f (parse s F r e at) (parse s F t e) (parse s F u e) h

-- and a group around what was read.
pub wrap_read : (s : List ℕ) (F : ℕ) (f : Forest → Label) (t : Rule) (e at : ℕ) {a : Bool} {o : Forest} {p : ℕ}
    → parse s F (wrap f t) e at ≡ got a o p
    → (o₁ : Forest) × (parse s F t e at ≡ got a o₁ p) × (o ≡ group (f o₁) o₁ nil)
unfolding parse
wrap_read s F f t e at h =
    let x = then_got (parse s F t e at) _ h in
    let g = got_same x.4 in
    (x.1, x.3 ∙ (λ i. got (g.0 i) x.1 (g.2 i)), sym g.1)
