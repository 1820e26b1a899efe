-- A closing tag, read part by part, and the verdict on it.
use mathlib.Core.Path.{◌≡◌, refl, sym, ap, ◌∙◌}
use mathlib.Core.Bool.{Bool, true, false}
use mathlib.Core.List.{List}
use Prim.Native.Char.{code}
use Prim.Native.Nat.{ℕ, suc, ◌+◌, ◌-◌, ◌≤◌, ◌<◌}
use native.Mathlib.Omega.{arith}
use lib.ListN.{length}
use borrow.Author.Tests.{eq-eqb}
use Rattle.rules.specs.Forest.{node, content, Forest, nil, byte, group, ◌⋈◌, width, inside}
use Rattle.rules.specs.Rule.{Rule, Verdict, fine, differ, done, step, paired, node_of, ◌⨾◌}
use Rattle.rules.specs.Parse.{Answer, got, trouble, pick, and_then, behind, byte_at, judged, parse, read_at}
use Rattle.rules.proofs.Run.{wide_got}
use Rattle.rules.proofs.Flat.{seq_assoc}
use Rattle.rules.proofs.Again.{wrap_answer}
use Rattle.jsx.specs.Kind as Kind
use Rattle.jsx.specs.Byte.{is, need, expect}
use Rattle.jsx.specs.Blank.{blanks}
use Rattle.jsx.specs.Name.{element_name, part}
use Rattle.jsx.specs.Tag.{close_name, close_tag}
use Rattle.jsx.specs.Closing.{TagName, no_name, named, further_on, name_in, same_name, compared, verdict}
use Rattle.jsx.proofs.Again.{node_around}
use Rattle.rules.proofs.Ends.{top_got}
use Rattle.rules.proofs.Moves.{past_got}
use Rattle.lex.specs.Contract.{expect_byte}
use Rattle.lex.proofs.Laws as Lex
use Rattle.lex.proofs.Bare.{Flat}
use Rattle.same.specs.Contract.{ReadsAt, Named}
use Rattle.same.proofs.Forms.{name_at, Shape, Form, one, several, begins, form_there}
use Rattle.tag.specs.Token.{open_by, close_by, close_open}
use Rattle.closing.specs.Close.{name_from, closing}
use Rattle.closing.proofs.Repeated.{none_at_shut, moves_part}

-- ---- names in forests

-- Bytes in front of a name.
pub name_behind : (g v : Forest) → Flat g → name_in (g ⋈ v) ≡ further_on (width g) (name_in v)
unfolding name_in further_on width ◌⋈◌
name_behind nil v h = go (name_in v)
  where
    go : (x : TagName) → x ≡ further_on 0 x
    go no_name = refl
    go (named p k c) = ap (λ (y : ℕ). named y k c) (omega arith)
name_behind (byte b g) v h = ap (further_on 1) (name_behind g v h) ∙ go (name_in v)
  where
    go : (x : TagName) → further_on 1 (further_on (width g) x) ≡ further_on (suc (width g)) x
    go no_name = refl
    go (named p k c) = ap (λ (y : ℕ). named y k c) (omega arith)
name_behind (group l c g) v h = absurd h

-- Bytes alone have none.
pub no_name_lem : (o : Forest) → Flat o → name_in o ≡ no_name
unfolding name_in further_on
no_name_lem nil h = refl
no_name_lem (byte b o) h = ap (further_on 1) (no_name_lem o h)
no_name_lem (group l c o) h = absurd h

-- A name that was read is a node.
pub record NodeAt (s : List ℕ) (a e : ℕ) : Type 0 where
  pub kind : ℕ
  pub extra : ℕ
  pub under : Forest
  pub is : name_at s a ≡ group (node kind extra) under nil
  pub ends : e ≡ a + width under

-- Its node.
pub node_at : {s : List ℕ} {a e : ℕ} → Named s a e → NodeAt s a e
unfolding width
node_at {s} {a} {e} n =
    go (form_there n (record {
      is = b.read;
      far = (
        omega (arith, past_got s (suc (length s)) part 0 a moves_part b.read),
        top_got s (suc (length s)) part 0 a b.inside b.read,
      );
    }))
  where
    b : ReadsAt s part a
    b = begins n

    wide : e ≡ a + width (name_at s a)
    wide = wide_got s (suc (length s)) element_name 0 a n.read

    of : {k : ℕ} {ps : List (List ℕ)} → Shape (name_at s a) k ps → NodeAt s a e
    of {k} sh =
        let y = ap width sh.is in
        record { kind = k; extra = sh.x; under = sh.c; is = sh.is; ends = omega (arith, wide) }

    go : {e₁ q : ℕ} → Form s a e e₁ q → NodeAt s a e
    go (one l g) = of g
    go (several x y g) = of g.shape

-- So a tag has it.
from_node : (s : List ℕ) (at a : ℕ) {k x : ℕ} {u : Forest} → name_at s a ≡ group (node k x) u nil
    → name_from s at a ≡ named (a - at) k u
unfolding name_from name_in further_on
from_node s at a {k} {u = u} m =
    let z : a - at + 0 ≡ a - at = omega arith in
    ap (λ (v : Forest). further_on (a - at) (name_in v)) m ∙ ap (λ (j : ℕ). named j k u) z

-- An opening tag that has bytes, then this name, has it.
pub opening_name : {s : List ℕ} {a e : ℕ} (at : ℕ) → Named s a e → (g v : Forest) → Flat g → a ≡ at + width g
    → name_in (g ⋈ (name_at s a ⋈ v)) ≡ name_from s at a
unfolding name_from name_in ◌⋈◌
opening_name {s} {a} at n g v f h =
    let m = (node_at n).is in
    let w : width g ≡ a - at = omega arith in
    name_behind g (name_at s a ⋈ v) f
    ∙ (λ i. further_on (w i) (name_in (m i ⋈ v)))
    ∙ sym (ap (λ (o : Forest). further_on (a - at) (name_in o)) m)

-- ---- the rule

-- What is in a closing tag's node, cut where the code is.
abbrev pub in_closing : Rule
in_closing = close_open ⨾ close_name ⨾ close_by (code ">")

seq_under : (s : List ℕ) (t u v : Rule) (c : ℕ) → ((p : ℕ) → read_at s u p ≡ read_at s v p)
    → read_at s (t ⨾ u) c ≡ read_at s (t ⨾ v) c
unfolding parse
seq_under s t u v c e = λ i. and_then (read_at s t c) (λ a o p. pick a (behind o (e p i)) (got false o p))

module _ (s : List ℕ) (c : ℕ) where
  opened : read_at s close_tag c ≡ node_around Kind.closing_tag (read_at s in_closing c)
  unfolding close_tag close_open open_by close_by expect
  opened =
      let F = suc (length s) in
      wrap_answer s F (λ u. node Kind.closing_tag 0) _ 0 c
      ∙ ap (node_around Kind.closing_tag)
      (sym (seq_assoc s F _ blanks _ 0 c)
      ∙ seq_under s (open_by (code "<")) (expect_byte (code "/") ⨾ blanks ⨾ close_name ⨾ close_by (code ">"))
      (open_by (code "/") ⨾ close_name ⨾ close_by (code ">")) c
      (λ p. sym (seq_assoc s F _ blanks (close_name ⨾ close_by (code ">")) 0 p))
      ∙ sym (seq_assoc s F (open_by (code "<")) (open_by (code "/")) (close_name ⨾ close_by (code ">")) 0 c))

  -- The rule, by what is in its node.
  pub close_opened : read_at s (node_of Kind.closing_tag in_closing) c ≡ read_at s close_tag c
  close_opened = wrap_answer s (suc (length s)) (λ u. node Kind.closing_tag 0) in_closing 0 c ∙ sym opened

  module _ {o : Forest} {q : ℕ} (h : read_at s close_open c ≡ got true o q) where
    close_slash : read_at s close_tag c
        ≡ node_around Kind.closing_tag (behind o (read_at s (close_name ⨾ close_by (code ">")) q))
    close_slash = opened ∙ ap (node_around Kind.closing_tag) (Lex.seq_is s (suc (length s)) 0 c close_open _ h)

    -- With a name.
    pub close_is : {nm v : Forest} {f z : ℕ}
        → read_at s close_name q ≡ got true nm f
        → read_at s (close_by (code ">")) f ≡ got true v z
        → read_at s close_tag c ≡ got true (group (node Kind.closing_tag 0) (o ⋈ (nm ⋈ v)) nil) z
    close_is {nm} n e =
        close_slash
        ∙ ap (λ (z : Answer). node_around Kind.closing_tag (behind o z))
        (Lex.seq_is s (suc (length s)) 0 q close_name (close_by (code ">")) n ∙ ap (behind nm) e)

    -- With none.
    pub close_bare : byte_at s q ≡ code ">" → q < length s
        → read_at s close_tag c ≡ got true (group (node Kind.closing_tag 0) (o ⋈ byte (byte_at s q) nil) nil) (q + 1)
    unfolding close_name close_by parse ◌⋈◌
    close_bare n i =
        let F = suc (length s) in
        close_slash
        ∙ ap (λ (z : Answer). node_around Kind.closing_tag (behind o z))
        (Lex.seq_is s F 0 q close_name (close_by (code ">"))
        (Lex.when_yes s F 0 q (is ">") done element_name (eq-eqb _ (code ">") n))
        ∙ ap (behind nil)
        (Lex.seq_is s F 0 q blanks (expect_byte (code ">")) (none_at_shut s q n)
        ∙ ap (behind nil)
        (Lex.when_yes s F 0 q (is ">") step need (eq-eqb _ (code ">") n) ∙ Lex.step_is s F 0 q i)))

-- ---- the verdict

-- A tag that is refused.
pub closing_no : (s : List ℕ) (at w c : ℕ) (x : TagName) {n a b g y : ℕ} → read_at s close_tag c ≡ trouble n a b g y
    → closing s at w x c ≡ trouble n a b g y
unfolding closing
closing_no s at w c x e = rw e

-- A tag that was read, around u.
module _ (s : List ℕ) (c : ℕ) (u : Forest) {z : ℕ}
    (r : read_at s close_tag c ≡ got true (group (node Kind.closing_tag 0) u nil) z) where
  abbrev tag : Forest
  tag = group (node Kind.closing_tag 0) u nil

  judge : (at w : ℕ) (x : TagName) {y : TagName} → name_in u ≡ y
      → closing s at w x c ≡ judged at c (compared w (width tag) x y) (got true tag z)
  unfolding closing inside
  judge at w x e = rw r (λ i. judged at c (compared w (width tag) x (e i)) (got true tag z))

-- It has a name.
module _ (s : List ℕ) (c q f : ℕ) (o v d : Forest) (l y : ℕ) {z : ℕ} (g : Flat o) (eq : q ≡ c + width o)
    (ef : f ≡ q + width d)
    (r : read_at s close_tag c
    ≡ got true (group (node Kind.closing_tag 0) (o ⋈ (group (node l y) d nil ⋈ v)) nil) z) where
  its_name : name_in (o ⋈ (group (node l y) d nil ⋈ v)) ≡ named (q - c) l d
  unfolding name_in further_on ◌⋈◌
  its_name =
      let p : width o + 0 ≡ q - c = omega arith in
      name_behind o (group (node l y) d nil ⋈ v) g ∙ ap (λ (j : ℕ). named j l d) p

  -- So has the opening tag.
  module _ (at a e : ℕ) (u : Forest) {k x : ℕ} (here : at ≤ a) (ea : e ≡ a + width u)
      (m : name_at s a ≡ group (node k x) u nil) where
    both_named : closing s at 0 (name_from s at a) c
        ≡ judged at c
        (pick (same_name k u l d) fine (differ 7 (a - at) (a - at + width u) (q - c) (q - c + width d)))
        (got true (group (node Kind.closing_tag 0) (o ⋈ (group (node l y) d nil ⋈ v)) nil) z)
    unfolding compared
    both_named =
        ap (λ (j : TagName). closing s at 0 j c) (from_node s at a m)
        ∙ judge s c (o ⋈ (group (node l y) d nil ⋈ v)) r at 0 (named (a - at) k u) its_name

    -- They are equal.
    pub closing_same : same_name k u l d ≡ true → closing s at 0 (name_from s at a) c ≡ read_at s close_tag c
    closing_same h = both_named ∙ rw h (sym r)

    -- They differ: 7, with both names.
    pub closing_differs : same_name k u l d ≡ false → closing s at 0 (name_from s at a) c ≡ trouble 7 a e q f
    closing_differs h =
        let p₁ : at + (a - at) ≡ a = omega arith in
        let p₂ : at + (a - at + width u) ≡ e = omega arith in
        let p₃ : c + (q - c) ≡ q = omega arith in
        let p₄ : c + (q - c + width d) ≡ f = omega arith in
        both_named ∙ rw h (λ i. trouble 7 (p₁ i) (p₂ i) (p₃ i) (p₄ i))

  -- The opening tag is a fragment's: 8, with the whole opening tag and the closing name.
  pub closing_by_name : (at e : ℕ) → at ≤ e → closing s at (e - at) no_name c ≡ trouble 8 at e q f
  unfolding compared
  closing_by_name at e h =
      let p₁ : at + 0 ≡ at = omega arith in
      let p₂ : at + (e - at) ≡ e = omega arith in
      let p₃ : c + (q - c) ≡ q = omega arith in
      let p₄ : c + (q - c + width d) ≡ f = omega arith in
      judge s c (o ⋈ (group (node l y) d nil ⋈ v)) r at (e - at) no_name its_name
      ∙ (λ i. trouble 8 (p₁ i) (p₂ i) (p₃ i) (p₄ i))

-- It has none.
module _ (s : List ℕ) (c : ℕ) (o : Forest) {z : ℕ} (g : Flat o)
    (r : read_at s close_tag c ≡ got true (group (node Kind.closing_tag 0) o nil) z) where
  -- The opening tag has: 9, with the opening name and the whole closing tag.
  pub closing_bare : (at a e : ℕ) (u : Forest) {k x : ℕ}
      → at ≤ a
      → e ≡ a + width u
      → z ≡ c + width o
      → name_at s a ≡ group (node k x) u nil
      → closing s at 0 (name_from s at a) c ≡ trouble 9 a e c z
  unfolding compared width
  closing_bare at a e u {k} here ea ez m =
      let p₁ : at + (a - at) ≡ a = omega arith in
      let p₂ : at + (a - at + width u) ≡ e = omega arith in
      let p₃ : c + 0 ≡ c = omega arith in
      let p₄ : c + (width o + 0) ≡ z = omega arith in
      ap (λ (j : TagName). closing s at 0 j c) (from_node s at a m)
      ∙ judge s c o r at 0 (named (a - at) k u) (no_name_lem o g)
      ∙ (λ i. trouble 9 (p₁ i) (p₂ i) (p₃ i) (p₄ i))

  -- Nor has the opening tag.
  pub closing_plain : (at w : ℕ) → closing s at w no_name c ≡ read_at s close_tag c
  unfolding compared
  closing_plain at w = judge s c o r at w no_name (no_name_lem o g) ∙ sym r

-- ---- for an element

-- Where the opening tag has a name, its width does not matter.
pub any_width : {s : List ℕ} {a e : ℕ} (at w c : ℕ) → Named s a e
    → closing s at w (name_from s at a) c ≡ closing s at 0 (name_from s at a) c
unfolding closing compared
any_width {s} {a} at w c n =
    let v = node_at n in
    let f = from_node s at a v.is in
    (λ i. closing s at w (f i) c)
    ∙ go (read_at s close_tag c) (a - at) v.kind v.under
    ∙ (λ i. closing s at 0 (sym f i) c)
  where
    after : ℕ → TagName → Answer → Answer
    after w q x =
        and_then x (λ b r z. judged at c (compared w (width r) q (name_in (inside r))) (got true r z))

    by : (p k : ℕ) (u r : Forest) (z : ℕ) (y : TagName)
        → judged at c (compared w (width r) (named p k u) y) (got true r z)
        ≡ judged at c (compared 0 (width r) (named p k u) y) (got true r z)
    by p k u r z no_name = refl
    by p k u r z (named q l d) = refl

    go : (x : Answer) (p k : ℕ) (u : Forest) → after w (named p k u) x ≡ after 0 (named p k u) x
    go (got b r z) p k u = by p k u r z (name_in (inside r))
    go (trouble n a b c d) p k u = refl

-- A paired element's answer, from that of its closing tag.
abbrev pub closed_by : Forest → (depth : ℕ) → Forest → Answer → Answer
closed_by o d h x = and_then x (λ b r z. got true (o ⋈ group (content d) h r) z)

-- Its opening tag and its content were read: the closing tag with its verdict is left.
pub paired_closed : (s : List ℕ) (T C : Rule) (d at c : ℕ) {o h : Forest} {p : ℕ} {b : Bool}
    → read_at s T at ≡ got true o p
    → read_at s C p ≡ got b h c
    → read_at s (paired T d C close_tag verdict) at ≡ closed_by o d h (closing s at (width o) (name_in (inside o)) c)
unfolding parse closing verdict
paired_closed s T C d at c {o} {h} x y = rw (x, y) (go (read_at s close_tag c))
  where
    judge_all : (v : Verdict) (r : Forest) (z : ℕ) → judged at c v (got true (o ⋈ group (content d) h r) z)
        ≡ closed_by o d h (judged at c v (got true r z))
    judge_all fine r z = refl
    judge_all (differ n a b e f) r z = refl

    go : (x : Answer)
        → and_then x (λ b r z.
        judged at c (compared (width o) (width r) (name_in (inside o)) (name_in (inside r)))
        (got true (o ⋈ group (content d) h r) z))
        ≡ closed_by o d h (and_then x (λ b r z.
        judged at c (compared (width o) (width r) (name_in (inside o)) (name_in (inside r))) (got true r z)))
    go (got b r z) = judge_all (compared (width o) (width r) (name_in (inside o)) (name_in (inside r))) r z
    go (trouble n a b e f) = refl

-- The same of an element, whose opening tag has the name at a.
pub paired_named : (s : List ℕ) (T C : Rule) (d at c : ℕ) {o h : Forest} {p : ℕ} {b : Bool} {a e : ℕ}
    → read_at s T at ≡ got true o p
    → read_at s C p ≡ got b h c
    → Named s a e
    → name_in (inside o) ≡ name_from s at a
    → read_at s (paired T d C close_tag verdict) at ≡ closed_by o d h (closing s at 0 (name_from s at a) c)
paired_named s T C d at c {o} {h} x y n m =
    paired_closed s T C d at c x y
    ∙ ap (closed_by o d h) (ap (λ (q : TagName). closing s at (width o) q c) m ∙ any_width at (width o) c n)

-- The same of a fragment, whose opening tag ends at p.
pub paired_plain : (s : List ℕ) (T C : Rule) (d at c : ℕ) {o h : Forest} {p : ℕ} {b : Bool}
    → read_at s T at ≡ got true o p
    → read_at s C p ≡ got b h c
    → name_in (inside o) ≡ no_name
    → read_at s (paired T d C close_tag verdict) at ≡ closed_by o d h (closing s at (p - at) no_name c)
paired_plain s T C d at c {o} {h} {p} x y m =
    let w = wide_got s (suc (length s)) T 0 at x in
    let e : width o ≡ p - at = omega arith in
    paired_closed s T C d at c x y ∙ ap (closed_by o d h) (λ i. closing s at (e i) (m i) c)
