-- The three forms of an element's name.
use mathlib.Core.Path.{◌≡◌, refl, sym, ap, subst, ◌∙◌}
use mathlib.Core.Bool.{Bool, true, false}
use mathlib.Core.List.{List, [], ◌∷◌}
use Prim.Native.Char.{code}
use Prim.Native.Nat.{ℕ, suc, ◌+◌, ◌-◌, ◌<◌}
use native.Mathlib.Omega.{arith}
use lib.ListN.{length}
use lib.Dec.{eqb}
use borrow.Author.Tests.{ne_eqb, eqb-true}
use Rattle.rules.specs.Forest.{Label, node, content, Forest, nil, group, ◌⋈◌, direct}
use Rattle.rules.specs.Rule.{Rule, many, ◌⨾◌}
use Rattle.rules.specs.Parse.{Answer, got, pick, behind, byte_at, parse, parsed, read_at}
use Rattle.rules.proofs.Run.{both_read}
use Rattle.rules.proofs.Got.{false_true, got_same, then_got, behind_out, going}
use Rattle.rules.proofs.Local.{up_got}
use Rattle.jsx.specs.Kind as Kind
use Rattle.jsx.specs.Byte.{is, expect}
use Rattle.jsx.specs.Blank.{blanks}
use Rattle.jsx.specs.Name.{has, first_is, dashed, is_this, opens_reference, one_name, object_name}
use Rattle.jsx.specs.Name.{part as name_part, other_part, dotted, element_name}
use Rattle.jsx.specs.Closing.{nodes_of, several_parts, parts_of, all_same, same_name}
use Rattle.jsx.proofs.Again.{node_around, one_part_of, other_part_of, object_of, element_name_once}
use Rattle.lex.specs.Contract.{out_of, bytes_from, Past}
use Rattle.same.specs.Contract.{ReadsAt, ReadTo, Named, same_names, behind_colon, behind_dot, parts_from}
use Rattle.lex.proofs.Laws as Lex
use Rattle.lex.proofs.Bare.{flat_got, direct_got, bare_part, bare_blanks}
use Rattle.same.proofs.Nodes.{nodes_flat}
use Rattle.same.proofs.Names as Names

-- The name that was read at a place.
abbrev pub name_at : List ℕ → ℕ → Forest
name_at s a = out_of (read_at s element_name a)

-- The bytes from a to e.
abbrev pub bytes_to : List ℕ → (a e : ℕ) → List ℕ
bytes_to s a e = bytes_from s a (e - a)

-- ---- kinds

-- The kind of a node.
abbrev pub kind_of : Label → ℕ
kind_of (node k x) = k
kind_of (content d) = 0

-- The kind of a name of one part.
abbrev pub one_kind : List ℕ → ℕ
one_kind w = kind_of (one_name w)

-- A node of a kind below those of names with several parts.
abbrev pub Low : Label → Type 0
Low l = (x : ℕ) × (l ≡ node (kind_of l) x) × (kind_of l < 6)

-- A name of one part is of such a kind.
pub one_low : (w : List ℕ) → Low (one_name w)
unfolding one_name
one_low w = go (has "-" w) (first_is opens_reference w) (is_this w)
  where
    go : (x y z : Bool) → Low (pick x (node 3 1) (pick y (node 4 0) (pick z (node 5 0) (node 3 0))))
    go true y z = (1, refl, omega arith)
    go false true z = (0, refl, omega arith)
    go false false true = (0, refl, omega arith)
    go false false false = (0, refl, omega arith)

parts_one : (k : ℕ) (c : Forest) → k < 6 → parts_of k c ≡ direct c ∷ []
unfolding parts_of several_parts
parts_one k c h = rw (ne_eqb k 6 (λ e. omega arith), ne_eqb k 7 (λ e. omega arith))

nodes_object : (w t : Forest) → nodes_of (object_of w ⋈ t) ≡ direct w ∷ nodes_of t
unfolding nodes_of ◌⋈◌ object_name
nodes_object w t = go (is_this (direct w))
  where
    go : (b : Bool) → nodes_of (group (pick b (node 5 0) (node 4 (dashed (direct w)))) w t) ≡ direct w ∷ nodes_of t
    go true = refl
    go false = refl

-- ---- a name's kind and parts

-- What was read is a node of kind k, whose parts have these bytes.
pub record Shape (o : Forest) (k : ℕ) (ps : List (List ℕ)) : Type 0 where
  pub x : ℕ
  pub c : Forest
  pub is : o ≡ group (node k x) c nil
  pub parts : parts_of k c ≡ ps

-- Two names are equal if their kinds and parts are.
pub shapes : {o v : Forest} {k l : ℕ} {ps qs : List (List ℕ)} → Shape o k ps → Shape v l qs
    → same_names o v ≡ pick (eqb k l) (all_same ps qs) false
unfolding same_names same_name
shapes {k = k} {l} h g =
    (λ i. same_names (h.is i) (g.is i)) ∙ (λ i. pick (eqb k l) (all_same (h.parts i) (g.parts i)) false)

-- A separator: the kind of names that have it, its byte, and the rule of what is behind it.
pub data Separator : (k c : ℕ) → Rule → Type 0 where
  colon : Separator Kind.namespaced (code ":") behind_colon
  dot : Separator Kind.member (code ".") behind_dot

-- A name from a to b, whose first part ends at e, has a separator of kind k at q, and behind it what t reads.
pub record Several (s : List ℕ) (a b e q k : ℕ) (t : Rule) : Type 0 where
  pub longer : e < b
  pub rest : ReadTo s t (q + 1) b
  pub shape : Shape (name_at s a) k (bytes_to s a e ∷ parts_from s t (q + 1))

-- A name from a to b, whose first part ends at e, with the blanks behind that ending at q: one part, or several.
pub data Form (s : List ℕ) (a b e q : ℕ) : Type 0 where
  one : e ≡ b → Shape (name_at s a) (one_kind (bytes_to s a e)) (bytes_to s a e ∷ []) → Form s a b e q
  several : {k c : ℕ} {t : Rule} → Separator k c t → byte_at s q ≡ c → Several s a b e q k t → Form s a b e q

-- ---- a name's form

around_got : (k : ℕ) (x : Answer) {o : Forest} {b : ℕ} → node_around k x ≡ got true o b
    → (u : Forest) × (x ≡ got true u b) × (o ≡ group (node k 0) u nil)
around_got k x h =
    let y = then_got x _ h in
    let g = got_same y.4 in
    (y.1, y.3 ∙ (λ i. got (g.0 i) y.1 (g.2 i)), sym g.1)

module _ (s : List ℕ) (a b e q : ℕ) {w v : Forest} (n : Named s a b) (h : read_at s name_part a ≡ got true w e)
    (k : read_at s blanks e ≡ got true v q) where
  first : direct w ≡ bytes_to s a e
  first = direct_got s (suc (length s)) name_part 0 a bare_part h

  as_pair : is ":" (byte_at s q) ≡ true
      → node_around 6 (behind (other_part_of w) (behind v (read_at s (expect ":" ⨾ blanks ⨾ other_part) q)))
      ≡ got true (name_at s a) b
      → Form s a b e q
  unfolding nodes_of ◌⋈◌ parts_of several_parts behind_colon
  as_pair c m =
      let F = suc (length s) in
      let x = around_got 6 _ m in
      let y = behind_out (other_part_of w) _ x.1 in
      let z = behind_out v (read_at s (expect ":" ⨾ blanks ⨾ other_part) q) y.1 in
      let r = Names.separated s ":" (blanks ⨾ other_part) q b z.1 in
      let l₁ = up_got s F blanks 0 e k in
      let l₂ = up_got s F (blanks ⨾ other_part) 0 (q + 1) r.read in
      let p = flat_got s F blanks 0 e bare_blanks k in
      let o : nodes_of z.0 ≡ parts_from s behind_colon (q + 1) =
      r.nodes ∙ sym (ap (λ (x : Answer). nodes_of (out_of x)) r.read) in
      let t : nodes_of x.0 ≡ bytes_to s a e ∷ parts_from s behind_colon (q + 1) =
      ap nodes_of y.2 ∙ (λ i. first i ∷ (ap nodes_of z.2 ∙ nodes_flat v z.0 p ∙ o) i) in
      several colon (eqb-true (byte_at s q) (code ":") c) (record {
        longer = omega arith;
        rest = record { read = Lex.known (read_at s behind_colon (q + 1)) r.read; inside = n.inside };
        shape = record { x = 0; c = x.0; is = x.2; parts = t };
      })

  as_more : is "." (byte_at s q) ≡ true
      → node_around 7 (behind (object_of w) (read_at s (many dotted) e)) ≡ got true (name_at s a) b
      → Form s a b e q
  unfolding parts_of several_parts
  as_more c m =
      let x = around_got 7 _ m in
      let y = behind_out (object_of w) (read_at s (many dotted) e) x.1 in
      go x.0 x.2 y.0 y.2 (Names.rest_read s n.inside k y.1)
    where
      go : (t : Forest) → name_at s a ≡ group (node 7 0) t nil → (u : Forest) → t ≡ object_of w ⋈ u
          → Names.Rest s e b q u
          → Form s a b e q
      go t f u g (Names.over d l i) = false_true d c
      go t f u g (Names.more l z d i) = several dot (eqb-true (byte_at s q) (code ".") c) (record {
        longer = l;
        rest = d;
        shape = record { x = 0; c = t; is = f; parts = ap nodes_of g ∙ nodes_object w u ∙ (λ j. first j ∷ i j) };
      })

  as_one : got true (one_part_of w) e ≡ got true (name_at s a) b → Form s a b e q
  as_one m =
      let g = got_same m in
      let l = one_low (direct w) in
      let sh : Shape (name_at s a) (one_kind (direct w)) (direct w ∷ []) = record {
        x = l.0;
        c = w;
        is = sym g.1 ∙ ap (λ (z : Label). group z w nil) l.1;
        parts = parts_one (one_kind (direct w)) w l.2;
      } in
      one g.2 (subst (λ (z : List ℕ). Shape (name_at s a) (one_kind z) (z ∷ [])) first sh)

  -- The form, by the byte behind the blanks.
  pub form : Form s a b e q
  form =
      go (is ":" (byte_at s q)) (is "." (byte_at s q)) refl refl
      (sym (element_name_once s (suc (length s)) 0 a h k) ∙ n.read)
    where
      go : (c d : Bool) → is ":" (byte_at s q) ≡ c → is "." (byte_at s q) ≡ d
          → pick c (node_around 6 (behind (other_part_of w)
          (behind v (read_at s (expect ":" ⨾ blanks ⨾ other_part) q))))
          (pick d (node_around 7 (behind (object_of w) (read_at s (many dotted) e))) (got true (one_part_of w) e))
          ≡ got true (name_at s a) b
          → Form s a b e q
      go true d f g m = as_pair f m
      go false true f g m = as_more g m
      go false false f g m = as_one m

-- ---- what the code knows of a name

module _ {s : List ℕ} {a b : ℕ} (n : Named s a b) where
  look : (w : Forest)
      × (e : ℕ)
      × (v : Forest)
      × (q : ℕ)
      × (read_at s name_part a ≡ got true w e)
      × (read_at s blanks e ≡ got true v q)
  unfolding element_name parse
  look =
      let y = then_got (parsed s (name_part ⨾ blanks) 0 a) _ n.read in
      let x = going s (suc (length s)) (name_part ⨾ blanks) 0 a Names.goes_look y.3 in
      let z = both_read s (suc (length s)) name_part blanks 0 a x in
      (z.0, z.1, z.2, y.2, z.3, z.4)

  -- A part begins it.
  pub begins : ReadsAt s name_part a
  begins = Names.reads s (Names.begins_inside s n) look.4

  module _ {e : ℕ} (h : Past e s name_part a 1) where
    -- Blanks were read behind the part.
    pub blanks_behind : ReadsAt s blanks e
    blanks_behind =
        let g = got_same (sym look.4 ∙ h.is) in
        Names.reads s h.far.1 (ap (λ (z : ℕ). read_at s blanks z) (sym g.2) ∙ look.5)

    -- The form of the name, with the end of these blanks as it was read before.
    pub form_there : Form s a b e blanks_behind.to
    form_there = form s a b e _ n h.is blanks_behind.read

    -- The form of the name, where the code has found the end of these blanks.
    pub form_at : {q : ℕ} → Past q s blanks e 0 → Form s a b e q
    form_at k = form s a b e _ n h.is k.is
