-- A child, taken apart: the end of the children, a text, or a node that ends in a token of its own.
use mathlib.Core.Path.{◌≡◌, refl, sym, ap, subst, ◌∙◌}
use mathlib.Core.Bool.{Bool, true, false}
use mathlib.Core.List.{List}
use Prim.Native.Nat.{ℕ, zero, suc, ◌+◌, ◌<◌}
use Prim.Native.Char.{code}
use native.Mathlib.Nat.{le_refl}
use lib.ListN.{length}
use lib.Dec.{eqb, ltb}
use borrow.Author.Tests.{ltb-true, ltb-false, lt-ltb, eqb-true, ne_eqb}
use Rattle.rules.specs.Forest.{Label, node, Forest, nil, byte, group, ◌⋈◌}
use Rattle.rules.specs.Rule.{Test, Rule, here, stop, step, refuse, when, after, wrap}
use Rattle.rules.specs.Parse.{Answer, got, trouble, pick, and_then, behind, byte_at, repeat, parse}
use Rattle.rules.proofs.Run.{goes, on as goes_on, Goes, got_goes, goes_repeat}
use Rattle.rules.proofs.Got.{trouble_got, false_true, got_same, then_got, pick_case, wrap_read}
use Rattle.rules.proofs.Local.{Looks, Then}
use Rattle.rules.proofs.Deeper.{fails, nothing, Nothing}
use Rattle.rules.proofs.Ends.{Turn, last, goon, turn}
use Rattle.rules.proofs.Agree.{Lacks, byte_beyond}
use Rattle.rules.proofs.Flow.{IsNode, shut, pend, f_stop, f_after}
use Rattle.rules.proofs.Reach.{reach}
use Rattle.rules.proofs.Found.{Last, closes}
use Rattle.jsx.specs.Kind as Kind
use Rattle.jsx.specs.Byte.{is, end, need}
use Rattle.jsx.specs.Blank.{blanks, pass}
use Rattle.jsx.specs.Text.{in_text, text}
use Rattle.jsx.specs.Braces.{child_braces_in, empty_braces, spread, container}
use Rattle.jsx.specs.Expression.{Inner}
use Rattle.jsx.specs.Element.{child, fragment_in, named_in, element_in, paired_or_not}
use Rattle.jsx.specs.Compose.{text_label}
use Rattle.jsx.specs.Depth.{element_too_deep, no_level, level, within}
use Rattle.jsx.proofs.Goes.{within_goes}
use Rattle.jsx.proofs.Paired.{well_paired}
use Rattle.jsx.proofs.Shape.{content_of, closer, L, pass_near, pass_goes, within_flow}

-- ---- texts

-- A text, in front of a forest.
abbrev pub text_node : Forest → Forest → Forest
text_node c u = group (node Kind.text 0) c u

text_end : (b : ℕ) → in_text b ≡ true → (c : ℕ) → in_text c ≡ false → eqb b c ≡ false
text_end b h c k = ne_eqb b c (λ e. false_true k (sym (ap in_text e) ∙ h))

-- A byte of a text is none that begins something else.
plain_byte : (b : ℕ) → in_text b ≡ true → (end b ≡ false) × (is "<" b ≡ false) × (is "{" b ≡ false)
unfolding in_text
plain_byte b h = (text_end b h 256 refl, text_end b h (code "<") refl, text_end b h (code "{") refl)

not_text : (b c : ℕ) → eqb b c ≡ true → in_text c ≡ false → in_text b ≡ false
not_text b c e k = ap in_text (eqb-true b c e) ∙ k

-- A byte of a text stands within the input.
pub text_in : (s : List ℕ) (p : ℕ) → in_text (byte_at s p) ≡ true → p < length s
unfolding in_text
text_in s p h = go (ltb p (length s)) refl
  where
    go : (b : Bool) → ltb p (length s) ≡ b → p < length s
    go true q = ltb-true _ _ q
    go false q = false_true (ap in_text (byte_beyond s p (ltb-false _ _ q))) h

-- A byte of a text, as a rule.
abbrev pub inner : Rule
inner = when in_text step stop

module _ (s : List ℕ) (F e : ℕ) where
  -- What that rule answers at a place.
  abbrev pub tbody : ℕ → Answer
  tbody at = parse s F inner e at

  -- How it got something: it stopped before another byte, or passed a byte of a text.
  pub data TextByte (at : ℕ) (a : Bool) (o : Forest) (p : ℕ) : Type 0 where
    tstop : a ≡ false → in_text (byte_at s at) ≡ false → o ≡ nil → p ≡ at → TextByte at a o p
    tstep : a ≡ true → in_text (byte_at s at) ≡ true → o ≡ byte (byte_at s at) nil → p ≡ at + 1 → TextByte at a o p

  -- Whatever it got, it got so.
  pub text_byte : (at : ℕ) {a : Bool} {o : Forest} {p : ℕ} → tbody at ≡ got a o p → TextByte at a o p
  unfolding parse
  text_byte at {a} {o} {p} h = go (in_text (byte_at s at)) refl (ltb at (length s)) h
    where
      go : (b : Bool)
          → in_text (byte_at s at) ≡ b
          → (c : Bool)
          → pick b (pick c (got true (byte (byte_at s at) nil) (at + 1)) (trouble 4 at at 0 0)) (got false nil at)
          ≡ got a o p
          → TextByte at a o p
      go true x true k = let g = got_same k in tstep (sym g.0) x (sym g.1) (sym g.2)
      go true x false k = trouble_got k
      go false x c k = let g = got_same k in tstop (sym g.0) x (sym g.1) (sym g.2)

  -- It passes a byte of a text.
  pub byte_step : (at : ℕ) → in_text (byte_at s at) ≡ true → tbody at ≡ got true (byte (byte_at s at) nil) (at + 1)
  unfolding parse
  byte_step at h = rw (h, lt-ltb at (length s) (text_in s at h))

  -- It stops before another byte.
  pub byte_stop : (at : ℕ) → in_text (byte_at s at) ≡ false → tbody at ≡ got false nil at
  unfolding parse
  byte_stop at h = rw h

  -- Where a text ends, no byte of a text stands.
  pub text_ends : (f at : ℕ) {a : Bool} {c : Forest} {p : ℕ}
      → repeat tbody f at ≡ got a c p
      → in_text (byte_at s p) ≡ false
  unfolding repeat
  text_ends zero at h = trouble_got h
  text_ends (suc f) at {a} {c} {p} h = go (turn tbody f at h).1 (λ q v r. text_ends f q r)
    where
      ended : TextByte at false c p → in_text (byte_at s p) ≡ false
      ended (tstop x y z w) = ap (λ (n : ℕ). in_text (byte_at s n)) w ∙ y
      ended (tstep x y z w) = false_true refl x

      go : Turn tbody f at c p
          → ((q : ℕ) (v : Forest) → repeat tbody f q ≡ got true v p → in_text (byte_at s p) ≡ false)
          → in_text (byte_at s p) ≡ false
      go (last x) ih = ended (text_byte at x)
      go (goon o q v x l r w) ih = ih q v r

  text_is : (at : ℕ) {c : Forest} {p : ℕ}
      → in_text (byte_at s at) ≡ true
      → repeat tbody F (at + 1) ≡ got true c p
      → parse s F text e at ≡ got true (text_node (byte (byte_at s at) c) nil) p
  unfolding parse text ◌⋈◌
  text_is at h k = rw (lt-ltb at (length s) (text_in s at h), k)

  text_of : (at : ℕ) {a : Bool} {o : Forest} {p : ℕ}
      → parse s F text e at ≡ got a o p
      → (c : Forest) × (a ≡ true) × (o ≡ text_node (byte (byte_at s at) c) nil)
      × (repeat tbody F (at + 1) ≡ got true c p)
  unfolding parse text ◌⋈◌
  text_of at {a} {o} {p} h = go (ltb at (length s)) h
    where
      two : (x : Answer)
          → repeat tbody F (at + 1) ≡ x
          → Goes (repeat tbody F (at + 1))
          → and_then (behind (byte (byte_at s at) nil) x) (λ a o p. got a (text_node o nil) p) ≡ got a o p
          → (c : Forest) × (a ≡ true) × (o ≡ text_node (byte (byte_at s at) c) nil)
          × (repeat tbody F (at + 1) ≡ got true c p)
      two (got b v q) r g k =
          let k₁ = got_same k in
          let bt : b ≡ true = subst Goes r g in
          (v, sym k₁.0 ∙ bt, sym k₁.1, r ∙ (λ i. got (bt i) v (k₁.2 i)))
      two (trouble n x y z w) r g k = trouble_got k

      go : (b : Bool)
          → and_then (and_then (pick b (got true (byte (byte_at s at) nil) (at + 1)) (trouble 4 at at 0 0))
          (λ a o p. pick
          a (behind o (repeat tbody F p)) (got false o p))) (λ a o p. got a (text_node o nil) p) ≡ got a o p
          → (c : Forest) × (a ≡ true) × (o ≡ text_node (byte (byte_at s at) c) nil)
          × (repeat tbody F (at + 1) ≡ got true c p)
      go true k = two (repeat tbody F (at + 1)) refl (goes_repeat tbody F (at + 1)) k
      go false k = trouble_got k

-- ---- nodes

-- Just one node, and no text.
abbrev pub OneNode : Forest → Type 0
OneNode o = (l : Label) × (c : Forest) × (o ≡ group l c nil) × (text_label l ≡ false) × IsNode l

module _ (s : List ℕ) (F e at : ℕ) {a : Bool} {o : Forest} {p : ℕ} where
  one_node : (l : Forest → Label) (t : Rule) → ((v : Forest) → text_label (l v) ≡ false) → ((v : Forest) → IsNode (l v))
      → parse s F (wrap l t) e at ≡ got a o p → OneNode o
  one_node l t n i h = let w = wrap_read s F l t e at h in (l w.0, w.0, w.2, n w.0, i w.0)

  -- A rule that never reads anything.
  failed : {X : Type 0} (t : Rule) → fails t ≡ true → parse s F t e at ≡ got a o p → X
  failed t f h = absurd (subst (λ (x : Answer). Then x Nothing) h (nothing s F t f e at))

  fragment_one : (d : ℕ) (n : Inner) → parse s F (fragment_in d n) e at ≡ got a o p → OneNode o
  unfolding fragment_in text_label
  fragment_one d n h = one_node (λ v. node Kind.fragment 0) _ (λ v. refl) (λ v. tt) h

  named_one : (d : ℕ) (n : Inner) → parse s F (named_in d n) e at ≡ got a o p → OneNode o
  unfolding named_in text_label
  named_one d n h = one_node (λ v. node Kind.element (paired_or_not v)) _ (λ v. refl) (λ v. tt) h

  empty_one : parse s F empty_braces e at ≡ got a o p → OneNode o
  unfolding empty_braces text_label
  empty_one h = one_node (λ v. node Kind.container 0) _ (λ v. refl) (λ v. tt) h

  spread_one : (n : Inner) → parse s F (spread Kind.spread_child n) e at ≡ got a o p → OneNode o
  unfolding spread text_label
  spread_one n h = one_node (λ v. node Kind.spread_child 0) _ (λ v. refl) (λ v. tt) h

  container_one : (n : Inner) → parse s F (container n) e at ≡ got a o p → OneNode o
  unfolding container text_label
  container_one n h = one_node (λ v. node Kind.container 0) _ (λ v. refl) (λ v. tt) h

  -- Either of two, behind a look.
  after_one : (r t u : Rule) (f : Test)
      → (parse s F t e at ≡ got a o p → OneNode o)
      → (parse s F u e at ≡ got a o p → OneNode o)
      → parse s F (after r f t u) e at ≡ got a o p
      → OneNode o
  unfolding parse
  after_one r t u f ht hu h =
      let x = then_got (parse s F r e at) _ h in
      pick_case (f (byte_at s x.2)) (parse s F t e at) (parse s F u e at) x.4 ht hu

  element_one : (d : ℕ) → parse s F (within d).element e at ≡ got a o p → OneNode o
  unfolding within no_level level element_in element_too_deep fails need pass blanks goes
  element_one zero h = failed element_too_deep refl h
  element_one (suc d) h =
      after_one pass (fragment_in d (within d)) (named_in d (within d)) (is ">") (fragment_one d (within d))
      (named_one d (within d)) h

  braces_one : (d : ℕ) → parse s F (within d).child_braces e at ≡ got a o p → OneNode o
  unfolding within no_level level child_braces_in fails
  braces_one zero h = failed (refuse 14 here) refl h
  braces_one (suc d) h =
      after_one pass empty_braces (after pass (is ".") (spread Kind.spread_child (within d)) (container (within d)))
      (is "}") empty_one
      (after_one pass (spread Kind.spread_child (within d)) (container (within d)) (is ".") (spread_one (within d))
      (container_one (within d))) h

-- ---- a child

-- At a `<`: the end of the children, or an element.
abbrev angled : ℕ → Rule
angled d = after pass (is "/") stop (within d).element

angled_flow : (d : ℕ) → L (pend pass) (angled d) shut (pend pass)
angled_flow d = f_after pass_goes pass_near f_stop (within_flow d).element

-- Where children end: at the end, or at a `<`.
abbrev pub end_or_angle : ℕ → Bool
end_or_angle b = pick (end b) true (is "<" b)

-- At a byte, a child is what this rule reads, in any input.
abbrev pub ReadsAs : ℕ → ℕ → Rule → Type 0
ReadsAs d b r = (s : List ℕ) (F e at : ℕ) → byte_at s at ≡ b → parse s F (child (within d)) e at ≡ parse s F r e at

as_angled : (d b : ℕ) → end b ≡ false → is "<" b ≡ true → ReadsAs d b (angled d)
unfolding child parse
as_angled d b x y s F e at h = rw (h, x, y)

as_braces : (d b : ℕ) → end b ≡ false → is "<" b ≡ false → is "{" b ≡ true → ReadsAs d b (within d).child_braces
unfolding child parse
as_braces d b x y z s F e at h = rw (h, x, y, z)

as_text : (d b : ℕ) → in_text b ≡ true → ReadsAs d b text
unfolding child parse
as_text d b w s F e at h = let t = plain_byte b w in rw (h, t.0, t.1, t.2, w)

module _ (s : List ℕ) (F e d : ℕ) where
  -- What the rule of a child answers at a place, with d levels left.
  abbrev pub cbody : ℕ → Answer
  cbody at = parse s F (child (within d)) e at

  -- How it got something: it stopped where the children end, read a text, or read another node.
  pub data Child (at : ℕ) (a : Bool) (o : Forest) (p : ℕ) : Type 0 where
    ends : a ≡ false
        → o ≡ nil
        → p ≡ at
        → in_text (byte_at s at) ≡ false
        → end_or_angle (byte_at s at) ≡ true
        → Child at a o p
    a_text : a ≡ true
        → in_text (byte_at s at) ≡ true
        → (c : Forest) → o ≡ text_node (byte (byte_at s at) c) nil
        → repeat (tbody s F e) F (at + 1) ≡ got true c p
        → Child at a o p
    other : a ≡ true
        → in_text (byte_at s at) ≡ false
        → OneNode o
        → (r : Rule) → ReadsAs d (byte_at s at) r
        → parse s F r e at ≡ got true o p
        → Looks (Lacks closer) s p F r e at
        → Last content_of closer well_paired s F shut p
        → Child at a o p

  -- Whatever it got, it got so.
  pub child_of : (at : ℕ) {a : Bool} {o : Forest} {p : ℕ} → cbody at ≡ got a o p → Child at a o p
  unfolding child parse in_text
  child_of at {a} {o} {p} h = go (end b) (is "<" b) (is "{" b) (in_text b) refl refl refl refl h
    where
      b : ℕ
      b = byte_at s at

      on_angle : end b ≡ false → is "<" b ≡ true → parse s F (angled d) e at ≡ got a o p → Child at a o p
      on_angle x y z =
          let t = then_got (parse s F pass e at) _ z in
          slash (is "/" (byte_at s t.2)) t.4
        where
          slash : (w : Bool)
              → pick w (got false nil at) (parse s F (within d).element e at) ≡ got a o p
              → Child at a o p
          slash true k =
              let g = got_same k in
              ends (sym g.0) (sym g.1) (sym g.2) (not_text b (code "<") y refl) (rw (x, y))
          slash false k =
              let ae = got_goes (parse s F (within d).element e at)
              (goes_on s F (within d).element (within_goes d).element e at) k in
              let zt = z ∙ ap (λ (c : Bool). got c o p) ae in
              other ae (not_text b (code "<") y refl) (element_one s F e at d k) (angled d) (as_angled d b x y) zt
              (reach content_of closer well_paired s F (angled_flow d) e at true o p zt p (le_refl _)).0
              (closes content_of closer well_paired s F (angled_flow d) e at true o p zt tt)

      on_brace : end b ≡ false
          → is "<" b ≡ false
          → is "{" b ≡ true
          → parse s F (within d).child_braces e at ≡ got a o p
          → Child at a o p
      on_brace x y z k =
          let ae = got_goes (parse s F (within d).child_braces e at)
          (goes_on s F (within d).child_braces (within_goes d).child_braces e at) k in
          let kt = k ∙ ap (λ (c : Bool). got c o p) ae in
          other ae (not_text b (code "{") z refl) (braces_one s F e at d k) (within d).child_braces
          (as_braces d b x y z) kt
          (reach content_of closer well_paired s F ((within_flow d).child_braces {k = shut}) e at true o p kt p (le_refl
          _)).0 (closes content_of closer well_paired s F ((within_flow d).child_braces {k = shut}) e at true o p kt tt)

      go : (x y z w : Bool)
          → end b ≡ x
          → is "<" b ≡ y
          → is "{" b ≡ z
          → in_text b ≡ w
          → pick x (got false nil at) (pick y (parse s F (angled d) e at) (pick z
          (parse s F (within d).child_braces e at) (pick w (parse s F text e at) (trouble 6 at at 0 0)))) ≡ got a o p
          → Child at a o p
      go true y z w ex ey ez ew k =
          let g = got_same k in
          ends (sym g.0) (sym g.1) (sym g.2) (not_text b 256 ex refl) (rw ex)
      go false true z w ex ey ez ew k = on_angle ex ey k
      go false false true w ex ey ez ew k = on_brace ex ey ez k
      go false false false true ex ey ez ew k = let t = text_of s F e at k in a_text t.1 ew t.0 t.2 t.3
      go false false false false ex ey ez ew k = trouble_got k

  -- A text is a child.
  pub text_child : (at : ℕ) {c : Forest} {p : ℕ}
      → in_text (byte_at s at) ≡ true
      → repeat (tbody s F e) F (at + 1) ≡ got true c p
      → cbody at ≡ got true (text_node (byte (byte_at s at) c) nil) p
  text_child at h k = as_text d (byte_at s at) h s F e at refl ∙ text_is s F e at h k

  -- At the end of the input a child stops.
  pub end_stop : (at : ℕ) → byte_at s at ≡ 256 → cbody at ≡ got false nil at
  unfolding parse child
  end_stop at h = rw h

  -- Where the children ended, a child stops.
  pub stops_at : (f at : ℕ) {u : Forest} {q : ℕ} → repeat cbody f at ≡ got true u q → cbody q ≡ got false nil q
  unfolding repeat
  stops_at zero at h = trouble_got h
  stops_at (suc f) at {u} {q} h = go (turn cbody f at h).1 (λ p v r. stops_at f p r)
    where
      one : cbody at ≡ got false u q → Child at false u q → cbody q ≡ got false nil q
      one k (ends a b c g z) = ap cbody c ∙ k ∙ ap (λ (n : Forest). got false n q) b
      one k (a_text a b c g i) = false_true refl a
      one k (other a b n r i j l m) = false_true refl a

      go : Turn cbody f at u q
          → ((p : ℕ) (v : Forest) → repeat cbody f p ≡ got true v q → cbody q ≡ got false nil q)
          → cbody q ≡ got false nil q
      go (last k) ih = one k (child_of at k)
      go (goon o p v k l r w) ih = ih p v r

  -- And the end, or a `<`, stands there.
  pub stops_before : (at : ℕ) → cbody at ≡ got false nil at → end_or_angle (byte_at s at) ≡ true
  stops_before at h = by (child_of at h)
    where
      by : Child at false nil at → end_or_angle (byte_at s at) ≡ true
      by (ends a b c g z) = z
      by (a_text a b c g i) = false_true refl a
      by (other a b n r i j l m) = false_true refl a
