-- Laws of answers, bytes and loops, for the proofs of leaves.
use mathlib.Core.Path.{◌≡◌, refl, sym, ap, subst, ◌∙◌}
use mathlib.Core.Bool.{Bool, true, false}
use mathlib.Core.List.{List, [], ◌∷◌}
use Prim.Native.Nat.{ℕ, zero, suc, ◌+◌, ◌≤◌, ◌<◌}
use native.Mathlib.Nat.{not-suc-le-zero, le_of_suc-le-suc}
use native.Mathlib.Omega.{arith}
use native.Mathlib.Decide.{dec_lt}
use lib.ListN.{length, get_or, get_or-eq_default}
use lib.Dec.{eqb}
use borrow.Author.Tests.{eq-eqb, ne_eqb, lt-ltb}
use Rattle.rules.specs.Forest.{Forest, nil, byte, ◌⋈◌}
use Rattle.rules.specs.Rule.{Rule, step, when, seq}
use Rattle.rules.specs.Parse.{Answer, got, trouble, pick, behind, byte_at, opens, parse, read_at}
use Rattle.rules.proofs.Run.{goes, on, got_goes}
use Rattle.jsx.specs.Byte.{need}
use Rattle.lex.specs.Contract.{view, out_of, Leaf}
use Rattle.lex.specs.Answer.{Ans, Got, No}

-- ---- bytes

-- Within a list the default does not matter.
pub inside : (l : List ℕ) (i d e : ℕ) → i < length l → get_or l i d ≡ get_or l i e
inside [] i d e h = absurd (not-suc-le-zero h)
inside (x ∷ xs) zero d e h = refl
inside (x ∷ xs) (suc i) d e h = inside xs i d e (le_of_suc-le-suc h)

-- A byte below 256 stands within the input.
pub before_end : (s : List ℕ) (i b : ℕ) → byte_at s i ≡ b → b < 256 → i < length s
before_end s i b e h = go (dec_lt i (length s))
  where
    go : Dec (i < length s) → i < length s
    go (yes p) = p
    go (no q) = let z : byte_at s i ≡ 256 = get_or-eq_default s 256 (omega arith) in omega arith

-- A byte that is not the end's stands within the input.
pub not_end : (s : List ℕ) (i : ℕ) → (byte_at s i ≡ 256 → ⊥) → i ≤ length s → i < length s
not_end s i h le = go (dec_lt i (length s))
  where
    go : Dec (i < length s) → i < length s
    go (yes p) = p
    go (no q) = absurd (h (get_or-eq_default s 256 (omega arith)))

-- A test that the end's byte fails.
pub test_inside : (f : ℕ → Bool) → f 256 ≡ false → (s : List ℕ) (i : ℕ) → f (byte_at s i) ≡ true → i < length s
test_inside f e s i h = go (dec_lt i (length s))
  where
    go : Dec (i < length s) → i < length s
    go (yes p) = p
    go (no q) =
        let z : byte_at s i ≡ 256 = get_or-eq_default s 256 (omega arith) in
        let w : ◌≡◌ {A = ℕ} 0 1 = cc (sym h ∙ ap f z ∙ e) in
        absurd (omega arith)

-- A byte that the code has read, and that is k, passes the test for k.
pub byte_is : {r b k : ℕ} → r ≡ b → r ≡ k → eqb b k ≡ true
byte_is {r} {b} {k} e f = eq-eqb b k (sym e ∙ f)

-- A byte that the code has read, and that is not k, fails it.
pub byte_not : {r b k : ℕ} → r ≡ b → (r ≡ k → ⊥) → eqb b k ≡ false
byte_not {r} {b} {k} e f = ne_eqb b k (λ g. f (e ∙ g))

-- Where the first of some bytes stands, they all do just if the others stand behind it.
pub opens_yes : (s w : List ℕ) (at a : ℕ) → eqb (byte_at s at) a ≡ true → opens s (a ∷ w) at ≡ opens s w (at + 1)
unfolding opens
opens_yes s w at a h = rw h

-- Where the first of some bytes does not stand, they do not.
pub opens_no : (s w : List ℕ) (at a : ℕ) → eqb (byte_at s at) a ≡ false → opens s (a ∷ w) at ≡ false
unfolding opens
opens_no s w at a h = rw h

-- One byte stands at a place just if the byte there is that one.
pub opens_one : (s : List ℕ) (at a : ℕ) → opens s (a ∷ []) at ≡ eqb (byte_at s at) a
unfolding opens
opens_one s at a = go (eqb (byte_at s at) a)
  where
    go : (b : Bool) → pick b true false ≡ b
    go true = refl
    go false = refl

-- ---- answers

no_got : {r : Ans} {p m n a b c d : ℕ} → r ≡ Got p m → r ≡ No n a b c d → ⊥
no_got {r} {p} {m} {n} {a} {b} {c} {d} e f = let z : ◌≡◌ {A = ℕ} 0 1 = cc in omega arith

-- Where the code has a refusal, the rule gave that refusal.
pub view_no : (w : Bool → Forest → ℕ) (v : Answer) {r : Ans} {n a b c d : ℕ}
    → r ≡ view w v
    → r ≡ No n a b c d
    → v ≡ trouble n a b c d
view_no w (got y o q) e f = absurd (no_got e f)
view_no w (trouble n' a' b' c' d') {r} {n} {a} {b} {c} {d} e f =
    let h : No n' a' b' c' d' ≡ No n a b c d = sym e ∙ f in
    cc

-- Where the code has a place and a number, the rule read something that ends there and has that number.
pub view_got : (w : Bool → Forest → ℕ) (v : Answer) {r : Ans} {p m : ℕ}
    → r ≡ view w v
    → r ≡ Got p m
    → (a : Bool) × (v ≡ got a (out_of v) p) × (m ≡ w a (out_of v))
view_got w (got y o q) {r} {p} {m} e f = let h : Got q (w y o) ≡ Got p m = sym e ∙ f in (y, cc, cc)
view_got w (trouble n a b c d) e f = absurd (no_got f e)

view_on : (w : Bool → Forest → ℕ) (s : List ℕ) (t : Rule) (at : ℕ)
    → goes t ≡ true
    → {r : Ans} {p m : ℕ} → r ≡ view w (read_at s t at)
    → r ≡ Got p m
    → (read_at s t at ≡ got true (out_of (read_at s t at)) p) × (m ≡ w true (out_of (read_at s t at)))
view_on w s t at h {r} {p} {m} e f =
    let v = view_got w (read_at s t at) e f in
    let k : v.0 ≡ true = got_goes (read_at s t at) (on s (suc (length s)) t h 0 at) v.1 in (
      v.1 ∙ ap (λ (b : Bool). got b (out_of (read_at s t at)) p) k,
      v.2
          ∙ ap (λ (b : Bool). w b (out_of (read_at s t at))) k,
    )

-- Where a leaf refuses, its rule gives that refusal.
pub leaf_no : {w : Bool → Forest → ℕ} {r : Ans} {s : List ℕ} {t : Rule} {at k n a b c d : ℕ}
    → Leaf w r s t at k
    → r ≡ No n a b c d
    → read_at s t at ≡ trouble n a b c d
leaf_no {w} {s = s} {t} {at} l f = view_no w (read_at s t at) l.is f

-- Where a leaf has got something, its rule, if it is one that goes on, read something up to the same place.
pub leaf_got : {w : Bool → Forest → ℕ} {r : Ans} {s : List ℕ} {t : Rule} {at k p m : ℕ}
    → goes t ≡ true
    → Leaf w r s t at k
    → r ≡ Got p m
    → read_at s t at ≡ got true (out_of (read_at s t at)) p
leaf_got {w} {s = s} {t} {at} h l f = (view_on w s t at h l.is f).0

-- The number that such a leaf has got stands for what its rule read.
pub leaf_number : {w : Bool → Forest → ℕ} {r : Ans} {s : List ℕ} {t : Rule} {at k p m : ℕ}
    → goes t ≡ true
    → Leaf w r s t at k
    → r ≡ Got p m
    → m ≡ w true (out_of (read_at s t at))
leaf_number {w} {s = s} {t} {at} h l f = (view_on w s t at h l.is f).1

-- A refusal has got nothing: anything may be said of what it got.
pub none_got : {n a b c d : ℕ} (P : ℕ → ℕ → Type 0) (p m : ℕ) → No n a b c d ≡ Got p m → P p m
none_got P p m e = absurd (no_got e refl)

-- What holds of a place and a number holds of all that the answer with these two has got.
pub this_got : {q l : ℕ} (P : ℕ → ℕ → Type 0) → P q l → (p m : ℕ) → Got q l ≡ Got p m → P p m
this_got {q} {l} P h p m e =
    let e₁ : q ≡ p = cc in
    let e₂ : l ≡ m = cc in
    subst (λ (x : ℕ). P x m) e₁ (subst (λ (x : ℕ). P q x) e₂ h)

-- ---- to close a return

-- The rule refuses, and the code hands up that refusal.
pub leaf_stop : (w : Bool → Forest → ℕ) (s : List ℕ) (t : Rule) (at k : ℕ) {r : Ans} {n a b c d : ℕ}
    → r ≡ No n a b c d
    → read_at s t at ≡ trouble n a b c d
    → Leaf w r s t at k
leaf_stop w s t at k {r} {n} {a} {b} {c} {d} f e =
    record { is = f ∙ sym (ap (view w) e); far = λ p m g. absurd (no_got g f) }

-- The rule has read something that ends at p, and m stands for it.
pub leaf_done : (w : Bool → Forest → ℕ) (s : List ℕ) (t : Rule) (at k p m : ℕ) {a : Bool} {o : Forest}
    → read_at s t at ≡ got a o p
    → m ≡ w a o
    → (at + k ≤ p) × (p ≤ length s)
    → Leaf w (Got p m) s t at k
leaf_done w s t at k p m {a} {o} e f h =
    record {
      is = ap (λ (x : ℕ). Got p x) f ∙ sym (ap (view w) e);
      far = this_got (λ q l. (at + k ≤ q)
          × (q ≤ length s)) h;
    }

-- What a rule got is its answer's forest.
pub known : (x : Answer) {a : Bool} {o : Forest} {p : ℕ} → x ≡ got a o p → x ≡ got a (out_of x) p
known x {a} {o} {p} e = e ∙ ap (λ (v : Forest). got a v p) (sym (ap out_of e))

-- A leaf behind a forest that does not change its number.
pub leaf_behind : (w : Bool → Forest → ℕ) (g : Rule) (at k : ℕ) (u : Forest) {r : Ans} {s : List ℕ} {t : Rule} {p j : ℕ}
    → ((a : Bool) (o : Forest) → w a o ≡ w a (u ⋈ o))
    → Leaf w r s t p j
    → read_at s g at ≡ behind u (read_at s t p)
    → at + k ≤ p + j
    → Leaf w r s g at k
leaf_behind w g at k u {s = s} {t} {p} {j} h l e i =
    record {
      is = l.is ∙ go (read_at s t p) ∙ sym (ap (view w) e);
      far = λ q m x. let y = l.far q m x in (
        omega arith,
        y.1,
      );
    }
  where
    go : (x : Answer) → view w x ≡ view w (behind u x)
    go (got a o q) = ap (λ (n : ℕ). Got q n) (h a o)
    go (trouble n a b c d) = refl

-- ---- one byte

-- A test of a byte that the code has read.
pub tested : (f : ℕ → Bool) {r b : ℕ} {x v : Bool} → r ≡ b → x ≡ f r → x ≡ v → f b ≡ v
tested f e g h = sym (ap f e) ∙ sym g ∙ h

-- A test for k or for more.
module _ (b k : ℕ) where
  -- The byte is k.
  pub is_first : (y : Bool) → b ≡ k → eqb b k ≡ pick (eqb b k) true y
  is_first y h = rw (eq-eqb b k h)

  -- It is not: the rest decides.
  pub is_second : {y u : Bool} → (b ≡ k → ⊥) → u ≡ y → u ≡ pick (eqb b k) true y
  is_second h j = j ∙ sym (rw (ne_eqb b k h))

module _ (s : List ℕ) (F e at : ℕ) where
  -- Within the input a step reads the byte there.
  pub step_is : at < length s → parse s F step e at ≡ got true (byte (byte_at s at) nil) (at + 1)
  unfolding parse
  step_is h = rw (lt-ltb at (length s) h)

  -- Where the byte here passes the test, the first rule is read.
  pub when_yes : (f : ℕ → Bool) (t u : Rule) → f (byte_at s at) ≡ true → parse s F (when f t u) e at ≡ parse s F t e at
  unfolding parse
  when_yes f t u h = rw h

  -- Where the byte here fails the test, the second rule is read.
  pub when_no : (f : ℕ → Bool) (t u : Rule) → f (byte_at s at) ≡ false → parse s F (when f t u) e at ≡ parse s F u e at
  unfolding parse
  when_no f t u h = rw h

  -- Where the first rule goes on, the other is read behind it.
  pub seq_is : (t u : Rule) {o : Forest} {p : ℕ}
      → parse s F t e at ≡ got true o p
      → parse s F (seq t u) e at ≡ behind o (parse s F u e p)
  unfolding parse
  seq_is t u h = rw h

  -- Where the first rule refuses, so do the two.
  pub seq_no : (t u : Rule) {n a b c d : ℕ}
      → parse s F t e at ≡ trouble n a b c d
      → parse s F (seq t u) e at ≡ trouble n a b c d
  unfolding parse
  seq_no t u h = rw h

-- ---- nothing that is needed begins here

-- At the end, what is needed is refused by 4.
pub need_end : (s : List ℕ) (at : ℕ) → eqb (byte_at s at) 256 ≡ true → read_at s need at ≡ trouble 4 at at 0 0
unfolding parse need
need_end s at h = rw h

-- At any other byte, what is needed and does not begin there is refused by 3.
pub need_here : (s : List ℕ) (at : ℕ) → eqb (byte_at s at) 256 ≡ false → read_at s need at ≡ trouble 3 at at 0 0
unfolding parse need
need_here s at h = rw h

-- An answer that is never got.
abbrev pub Fails : Answer → Type 0
Fails (got a o p) = ⊥
Fails (trouble n a b c d) = Unit {0}

-- The rule for what is needed and does not begin here refuses at every place.
pub need_fails : (s : List ℕ) (at : ℕ) → Fails (read_at s need at)
unfolding parse need
need_fails s at = go (eqb (byte_at s at) 256)
  where
    go : (b : Bool) → Fails (pick b (trouble 4 at at 0 0) (trouble 3 at at 0 0))
    go true = tt
    go false = tt

-- A leaf that only refuses, for a rule with the same answer, at any distance.
pub leaf_refuses : {w : Bool → Forest → ℕ} {r : Ans} {s : List ℕ} {t u : Rule} {at j k : ℕ}
    → Leaf w r s t at j
    → read_at s t at ≡ read_at s u at
    → Fails (read_at s t at)
    → Leaf w r s u at k
leaf_refuses {w} {r} {s} {t} {u} {at} l e f =
    record {
      is = l.is ∙ ap (view w) e;
      far = λ p m g. absurd (by (read_at s t at) f
          (view_got w (read_at s t at) l.is g));
    }
  where
    by : (x : Answer) → Fails x → {p m : ℕ} → (a : Bool) × (x ≡ got a (out_of x) p) × (m ≡ w a (out_of x)) → ⊥
    by (got a o p) f v = f
    by (trouble n a b c d) f {p} {m} v = let z : ◌≡◌ {A = ℕ} 0 1 = cc v.1 in omega arith
