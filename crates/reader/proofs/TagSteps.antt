-- Opening tags, and elements and fragments around their contents, step by step.
use mathlib.Core.Path.{◌≡◌, refl, sym, ap, subst, ◌∙◌}
use mathlib.Core.Bool.{Bool, true, false}
use mathlib.Core.List.{List}
use Prim.Native.Char.{code}
use Prim.Native.Nat.{ℕ, suc, ◌+◌, ◌*◌, ◌-◌, ◌≤◌}
use native.Mathlib.Omega.{arith}
use lib.ListN.{length}
use lib.Dec.{lit<}
use lib.Seq.{sets}
use borrow.Author.Tests.{eq-eqb}
use borrow.Rule.Slice.PartMut.{put_mid, mid_of}
use Rattle.rules.specs.Forest.{node, Forest, nil, byte, group, ◌⋈◌, width, inside}
use Rattle.rules.specs.Rule.{Rule, step, ◌⨾◌}
use Rattle.rules.specs.Parse.{Answer, got, trouble, pick, behind, byte_at, parse, read_at}
use Rattle.rules.specs.Record.{row_words, count}
use Rattle.rules.proofs.Forests.{count_behind}
use Rattle.rules.proofs.Run.{wide_got}
use Rattle.rules.proofs.Got.{behind_out}
use Rattle.rules.proofs.Again.{seq_no, wrap_got}
use Rattle.jsx.specs.Kind as Kind
use Rattle.jsx.specs.Byte.{is, need, expect}
use Rattle.jsx.specs.Blank.{pass}
use Rattle.jsx.specs.Name.{element_name}
use Rattle.jsx.specs.Expression.{Inner}
use Rattle.jsx.specs.Tag.{attributes, tag_end, open_tag, open_fragment}
use Rattle.jsx.specs.Closing.{no_name, name_in}
use Rattle.jsx.specs.Element.{children, paired_or_not, fragment_in, named_in}
use Rattle.jsx.specs.Depth.{within}
use Rattle.jsx.proofs.Fits.{element_name_few}
use Rattle.lex.specs.Contract.{view, out_of, Leaf, Past}
use Rattle.lex.specs.Answer.{Ans}
use Rattle.lex.specs.Answer as A
use Rattle.lex.proofs.Laws as Lex
use Rattle.lex.proofs.Bare.{bare, Flat, flat_got, count_flat}
use Rattle.table.specs.Slot.{Seat, seat_inside, seat_behind, rows_from}
use Rattle.table.specs.Contract.{Start, node_row, Stored}
use Rattle.table.specs.Reader.{counted, Room, Made}
use Rattle.table.proofs.Laws.{headed, leaf_row}
use Rattle.table.proofs.Made.{made_no, made_got, made_count, made_lent, made_done, refused}
use Rattle.table.proofs.Upto.{Upto, upto_begin, made_stops, made_goes, last_leaf_stops}
use Rattle.same.specs.Contract.{Named}
use Rattle.same.proofs.Forms.{name_at}
use Rattle.closing.specs.declared.Opened.{Opened}
use Rattle.tag.specs.Token.{goes_on}
use Rattle.closing.specs.Close.{name_from, name_count, closing, closing_named}
use Rattle.tag.proofs.Rules.{goes_element_name, bare_end}
use Rattle.closing.proofs.Verdict.{closed_by, opening_name, no_name_lem, paired_named, paired_plain}
use Rattle.row.specs.Shut.{Shut}
use Rattle.reader.specs.Cut.{in_tag}
use Rattle.reader.specs.Contract.{TagAns, Got, No, plain, TagMade, Content}
use Rattle.token.proofs.Rules as K
use Rattle.reader.proofs.Rules as R
use Rattle.reader.proofs.Steps.{made_began}
use Rattle.reader.proofs.ExpressionSteps.{reader_first}
use Rattle.reader.proofs.Paired.{Opens, rows_behind, rows_front, paired_no, paired_shut}

-- ---- the inside of an opening tag

-- A refusal says nothing of a name.
plain_no : {X : Type 0} {r : TagAns} {y : Ans} {n a b c d : ℕ} → plain r ≡ y → y ≡ A.No n a b c d → {z m e k g : ℕ}
    → r ≡ Got z m e k g
    → X
unfolding plain
plain_no {r = r} {y} {n} {a} {b} {c} {d} e f {z} {m} h =
    let i : A.No n a b c d ≡ A.Got z m = sym f ∙ sym e ∙ ap plain h in
    let w : ◌≡◌ {A = ℕ} 0 1 = cc i in
    absurd (omega arith)

-- It refuses.
tag_no : {r : TagAns} {y : Ans} {s : List ℕ} {n : Inner} {at : ℕ} {q : Seat} {t t' : List ℕ} {x a b c d : ℕ}
    → read_at s (in_tag n) at ≡ trouble x a b c d
    → y ≡ A.No x a b c d
    → plain r ≡ y
    → TagMade r s n at q t t'
tag_no e h f = record {
  made = refused e (f ∙ h);
  name = λ z m e k g i. plain_no f h i;
  stops = λ z m e k g i j. plain_no f h i;
  goes = λ z m e k g i j. plain_no f h i;
}

module _ {s : List ℕ} {a : ℕ} {c : ℕ} {q : Seat} (room : Room c s a q) {r : Ans} {t t₁ : List ℕ}
    (l : Made r s element_name a 1 q 0 t t₁) {e k : ℕ} (h : r ≡ A.Got e k) where
  -- Room for the attributes: a name has no more records than bytes.
  pub tag_room : c ≤ 3 → {u : List ℕ} {y : ℕ} {q₂ : Seat} → u ≡ s → y ≡ e → q₂ ≡ seat_behind k q → Room 2 u y q₂
  tag_room i f z w =
      let read = made_got l goes_element_name h in
      let far = l.of.far _ _ h in
      let all = made_count l goes_element_name h in
      let few = room.few in
      let thin = element_name_few s (suc (length s)) 0 a read in
      let wide = wide_got s (suc (length s)) element_name 0 a read in
      rw (f, z, w) (record {
        short = room.short;
        inside = far.1;
        few = omega arith;
        held = room.held;
        shallow = omega (arith, room.shallow);
      })

module _ (d : ℕ) {s : List ℕ} {a : ℕ} {q : Seat} {r : Ans} {t t₁ : List ℕ}
    (l : Made r s element_name a 1 q 0 t t₁) where
  -- The name refuses.
  pub tag_refuses : {x : TagAns} {t' : List ℕ} {n i b g y : ℕ} → r ≡ A.No n i b g y → plain x ≡ r
      → TagMade x s (within d) a q t t'
  unfolding in_tag
  tag_refuses h e = tag_no (seq_no s (suc (length s)) element_name 0 a (made_no l h) _) h e

  module _ {e k : ℕ} (h : r ≡ A.Got e k) where
    tag_begun : Upto s (in_tag (within d)) a q 0 t (element_name ⨾ attributes (within d) ⨾ tag_end) a 0 t
    unfolding in_tag
    tag_begun = upto_begin (in_tag (within d)) q 0 t (made_began l h)

    module _ {i : ℕ} (st : Start (length t₁) (row_words * k) i) {q₂ : Seat} (eq : q₂ ≡ seat_behind k q) {r₂ : Ans}
        {u : List ℕ}
        (l₂ : Made r₂ s (attributes (within d)) e 0 q₂ 0 (mid_of i (length t₁ - i) t₁) u) where
      tag_named : Upto s (in_tag (within d)) a q 0 t (attributes (within d) ⨾ tag_end) e k t₁
      tag_named = reader_first tag_begun goes_element_name l h

      -- An attribute refuses.
      pub tag_refuses_inside : {x : TagAns} {t' : List ℕ} {n i b g y : ℕ} → r₂ ≡ A.No n i b g y → plain x ≡ r₂
          → TagMade x s (within d) a q t t'
      tag_refuses_inside h₂ f = tag_no (made_stops tag_named (made_lent t₁ st l₂ refl) h₂) h₂ f

      module _ {p m : ℕ} (h₂ : r₂ ≡ A.Got p m) {r₃ : Ans} (l₃ : Leaf goes_on r₃ s tag_end p 1) where
        tag_full : {t₂ : List ℕ} → t₂ ≡ put_mid i (length t₁ - i) t₁ u
            → Upto s (in_tag (within d)) a q 0 t tag_end p (k + m) t₂
        tag_full w = made_goes tag_named (made_lent t₁ st l₂ w) (R.goes_attributes d) eq (omega arith) h₂

        -- The tag does not end.
        pub tag_refuses_behind : {x : TagAns} {t' : List ℕ} {n i b g y : ℕ} → r₃ ≡ A.No n i b g y → plain x ≡ r₃
            → TagMade x s (within d) a q t t'
        tag_refuses_behind h₃ f = tag_no (last_leaf_stops (tag_full refl) l₃ h₃) h₃ f

        -- It is read.
        pub tag_is : {z j y x e₁ k₁ g : ℕ} {t₂ : List ℕ} → r₃ ≡ A.Got z j → t₂ ≡ put_mid i (length t₁ - i) t₁ u → y ≡ z
            → x ≡ k + m
            → e₁ ≡ e
            → k₁ ≡ k
            → g ≡ j
            → TagMade (Got y x e₁ k₁ g) s (within d) a q t t₂
        unfolding plain
        tag_is {z} {j} {t₂ = t₂} h₃ w f₁ f₂ f₃ f₄ f₅ =
            let F = suc (length s) in
            let far = l.of.far _ _ h in
            let far₂ = l₂.of.far _ _ h₂ in
            let far₃ = l₃.far _ _ h₃ in
            let full = tag_full w in
            let end = Lex.view_got goes_on (read_at s tag_end p) l₃.is h₃ in
            let E = out_of (read_at s tag_end p) in
            let none = count_flat E (flat_got s F tag_end 0 p bare_end end.1) in
            let whole : read_at s (in_tag (within d)) a ≡ got end.0 (full.acc ⋈ E) z =
            full.so ∙ ap (behind full.acc) end.1 in
            let all : k + m ≡ count (full.acc ⋈ E) =
            omega (arith, full.all, count_behind full.acc E) in
            let rows : t₂ ≡ sets t 0 (rows_from q a (full.acc ⋈ E)) =
            full.wrote ∙ ap (λ (o : List ℕ). sets t 0 o) (sym (rows_front full.acc E q a none)) in
            rw (f₁, f₂, f₃, f₄, f₅) (record {
              made = record { of = made_done s (full.acc ⋈ E) a 2 q 0 t t₂ z (k + m) whole all (omega arith) rows };
              name = λ z₁ m₁ e₁ k₁ g₁ y. named_as y;
              stops = λ z₁ m₁ e₁ k₁ g₁ y n. stops_as end.0 end.2 whole y n;
              goes = λ z₁ m₁ e₁ k₁ g₁ y n. goes_as end.0 end.2 whole y n;
            })
          where
            name_read : Named s a e
            name_read = record { read = made_got l goes_element_name h; inside = (l.of.far _ _ h).1 }

            named_as : {z₁ m₁ e₁ k₁ g₁ : ℕ} → Got z (k + m) e k j ≡ Got z₁ m₁ e₁ k₁ g₁
                → Named s a e₁ × (k₁ ≡ name_count s a)
            named_as {e₁ = e₁} {k₁} y =
                let x₁ : e ≡ e₁ = cc in
                let x₂ : k ≡ k₁ = cc in
                (subst (λ (v : ℕ). Named s a v) x₁ name_read, sym x₂ ∙ made_count l goes_element_name h)

            stops_as : (b : Bool) → j ≡ pick b 1 0 → {o : Forest} → read_at s (in_tag (within d)) a ≡ got b o z
                → {z₁ m₁ e₁ k₁ g₁ : ℕ} → Got z (k + m) e k j ≡ Got z₁ m₁ e₁ k₁ g₁
                → g₁ ≡ 0
                → read_at s (in_tag (within d)) a ≡ got false (out_of (read_at s (in_tag (within d)) a)) z₁
            stops_as true n v {g₁ = g₁} y i = let x : j ≡ g₁ = cc in absurd (omega arith)
            stops_as false n {o} v {z₁} y i =
                let x : z ≡ z₁ = cc in
                Lex.known (read_at s (in_tag (within d)) a) (v ∙ ap (got false o) x)

            goes_as : (b : Bool) → j ≡ pick b 1 0 → {o : Forest} → read_at s (in_tag (within d)) a ≡ got b o z
                → {z₁ m₁ e₁ k₁ g₁ : ℕ} → Got z (k + m) e k j ≡ Got z₁ m₁ e₁ k₁ g₁
                → (g₁ ≡ 0 → ⊥)
                → read_at s (in_tag (within d)) a ≡ got true (out_of (read_at s (in_tag (within d)) a)) z₁
            goes_as true n {o} v {z₁} y i =
                let x : z ≡ z₁ = cc in
                Lex.known (read_at s (in_tag (within d)) a) (v ∙ ap (got true o) x)
            goes_as false n v {g₁ = g₁} y i = let x : j ≡ g₁ = cc in absurd (i (omega arith))

pub ruleset in_tag_steps = (tag_refuses, tag_refuses_inside, tag_refuses_behind, tag_is)

-- ---- a content

got_no : {X : Type 0} {r : Ans} {p m n a b c d : ℕ} → r ≡ A.Got p m → r ≡ A.No n a b c d → X
got_no {X} {r} {p} {m} {n} {a} {b} {c} {d} e f =
    let i : A.No n a b c d ≡ A.Got p m = sym f ∙ e in
    let w : ◌≡◌ {A = ℕ} 0 1 = cc i in
    absurd (omega arith)

-- A reader that was lent the part behind v records below the record in the seat q.
content_lent : (v : ℕ) (q : Seat) (t : List ℕ) {r : Ans} {s : List ℕ} {g : Rule} {p k i : ℕ} {q₁ q₂ : Seat}
    {u t₁ : List ℕ}
    → Start (length t) (row_words * (v + 1)) i
    → q₁ ≡ seat_inside q
    → q₂ ≡ seat_behind v q₁
    → Made r s g p k q₂ 0 (mid_of i (length t - i) t) u
    → t₁ ≡ put_mid i (length t - i) t u
    → Made r s g p k (seat_behind v (seat_inside q)) (row_words * (v + 1)) t t₁
content_lent v q t {r} {s} {g} {p} {k} {t₁ = t₁} st eq eq₂ l w =
    subst (λ (x : Seat). Made r s g p k x (row_words * (v + 1)) t t₁) (eq₂ ∙ ap (seat_behind v) eq) (made_lent t st l w)

module _ {s : List ℕ} {n : Inner} {o : Opened} {p v : ℕ} {q : Seat} (t : List ℕ) {i : ℕ}
    (st : Start (length t) (row_words * (v + 1)) i) {q₁ : Seat} (eq : q₁ ≡ seat_inside q)
    {q₂ : Seat} (eq₂ : q₂ ≡ seat_behind v q₁)
    {r : Ans} {u : List ℕ} (l : Made r s (children n) p 0 q₂ 0 (mid_of i (length t - i) t) u) where
  -- A child refuses.
  pub content_refuses : {t' : List ℕ} {x a b c d : ℕ} → r ≡ A.No x a b c d → Content r s n o p v q t t'
  content_refuses h = record {
    held = r;
    between = put_mid i (length t - i) t u;
    made = content_lent v q t st eq eq₂ l refl;
    refuses = λ x a b c d e. e;
    ends = λ c k e. got_no e h;
  }

  -- The closing tag decides.
  pub content_is : {c k : ℕ} {t₁ t' : List ℕ} {r₂ : Ans} {w : ℕ} → r ≡ A.Got c k → t₁ ≡ put_mid i (length t - i) t u
      → Shut r₂ (closing_named s o c) s Kind.element 1 o.at c w q t₁ t'
      → w ≡ v + k
      → Content r₂ s n o p v q t t'
  content_is {c} {k} {t₁} {t'} {r₂} {w} h e sh f = record {
    held = r;
    between = t₁;
    made = content_lent v q t st eq eq₂ l e;
    refuses = λ x a b c₂ d g. got_no h g;
    ends = λ c₂ k₂ g. shut_as g;
  }
    where
      shut_as : {c₂ k₂ : ℕ} → r ≡ A.Got c₂ k₂
          → Shut r₂ (closing_named s o c₂) s Kind.element 1 o.at c₂ (v + k₂) q t₁ t'
      shut_as {c₂} {k₂} g =
          let y : A.Got c k ≡ A.Got c₂ k₂ = sym h ∙ g in
          let y₁ : c ≡ c₂ = cc in
          let y₂ : k ≡ k₂ = cc in
          let y₃ : w ≡ v + k₂ = f ∙ ap (λ (x : ℕ). v + x) y₂ in
          subst (λ (x : ℕ). Shut r₂ (closing_named s o x) s Kind.element 1 o.at x (v + k₂) q t₁ t') y₁
          (subst (λ (x : ℕ). Shut r₂ (closing_named s o c) s Kind.element 1 o.at c x q t₁ t') y₃ sh)

pub ruleset content_steps = (content_refuses, content_is)

-- ---- an element

-- Bytes before a tag's name, and the rest of its inside.
abbrev front : List ℕ → (at : ℕ) → Forest
front s at = out_of (read_at s pass at)

abbrev rest : List ℕ → (d a : ℕ) → Forest
rest s d a = out_of (read_at s (in_tag (within d)) a)

-- The opening tag around them.
abbrev opening : List ℕ → (d at a : ℕ) → Forest
opening s d at a = group (node Kind.opening_tag 0) (front s at ⋈ rest s d a) nil

module _ (s : List ℕ) (d at a : ℕ) (pa : Past a s pass at 1) where
  inside_read : (x : Answer) → read_at s (in_tag (within d)) a ≡ x
      → read_at s (pass ⨾ in_tag (within d)) at ≡ behind (front s at) x
  inside_read x e = Lex.seq_is s (suc (length s)) 0 at pass (in_tag (within d)) pa.is ∙ ap (behind (front s at)) e

  tag_read : (z : ℕ) (b : Bool) → read_at s (in_tag (within d)) a ≡ got b (rest s d a) z
      → read_at s (open_tag (within d)) at ≡ got b (opening s d at a) z
  unfolding open_tag in_tag
  tag_read z b x = wrap_got s (suc (length s)) (pass ⨾ in_tag (within d)) 0 at (inside_read _ x)
      (λ o. node Kind.opening_tag 0)

  named_no : {n b c e f : ℕ} → read_at s (in_tag (within d)) a ≡ trouble n b c e f
      → read_at s (named_in d (within d)) at ≡ trouble n b c e f
  unfolding named_in open_tag in_tag parse
  named_no x = let k = inside_read _ x in rw k

  flat_front : Flat (front s at)
  flat_front = flat_got s (suc (length s)) pass 0 at K.bare_pass pa.is

  wide_front : a ≡ at + width (front s at)
  wide_front = wide_got s (suc (length s)) pass 0 at pa.is

  -- The tag has the name that was read.
  tag_name : (e z : ℕ) (b : Bool) → Named s a e → read_at s (in_tag (within d)) a ≡ got b (rest s d a) z
      → name_in (inside (opening s d at a)) ≡ name_from s at a
  unfolding inside in_tag
  tag_name e z b n x =
      let F = suc (length s) in
      let more = Lex.seq_is s F 0 a element_name (attributes (within d) ⨾ tag_end) n.read in
      let out = behind_out (name_at s a) (read_at s (attributes (within d) ⨾ tag_end) e) (sym more ∙ x) in
      ap (λ (v : Forest). name_in (front s at ⋈ v)) out.2
      ∙ opening_name at n (front s at) out.0 flat_front wide_front

-- The rows of an opening tag: those inside it, then its own.
tag_rows : (s : List ℕ) (d at a : ℕ) → Past a s pass at 1
    → (q : Seat) (t : List ℕ) {t₁ t₂ : List ℕ} {q₂ : Seat} {z m : ℕ} {b : Bool}
    → q₂ ≡ seat_inside (seat_inside q)
    → read_at s (in_tag (within d)) a ≡ got b (rest s d a) z
    → m ≡ count (rest s d a)
    → t₁ ≡ sets t (2 * row_words) (rows_from q₂ a (rest s d a))
    → Stored row_words (seat_inside q) Kind.opening_tag at z 0 m t₁ t₂
    → t₂ ≡ sets t row_words (rows_from (seat_inside q) at (opening s d at a))
tag_rows s d at a pa q t {z = z} {m} eQ x all w st =
    let C = front s at ⋈ rest s d a in
    let Q : Seat = seat_inside q in
    let wide = wide_got s (suc (length s)) (pass ⨾ in_tag (within d)) 0 at (inside_read s d at a pa _ x) in
    let none = count_flat (front s at) (flat_front s d at a pa) in
    let sum = count_behind (front s at) (rest s d a) in
    st.is
    ∙ (λ i. sets (w i) row_words (node_row Q Kind.opening_tag at z 0 m))
    ∙ (λ i. sets (sets t (2 * row_words) (rows_from (eQ i) a (rest s d a))) row_words
    (node_row Q Kind.opening_tag at z 0 m))
    ∙ ap (λ (r : List ℕ). sets (sets t (2 * row_words) r) row_words (node_row Q Kind.opening_tag at z 0 m))
    (sym (rows_behind (front s at) (rest s d a) (seat_inside Q) at (flat_front s d at a pa) (wide_front s d at a pa)))
    ∙ headed C t Q at row_words (2 * row_words) Kind.opening_tag z 0 m wide (omega arith) refl

module _ (d : ℕ) {s : List ℕ} {at a : ℕ} (pa : Past a s pass at 1) (q : Seat) (t : List ℕ) {i : ℕ}
    (st : Start (length t) (2 * row_words) i) {q₁ : Seat} (eq : q₁ ≡ seat_inside q) {q₂ : Seat}
    (eq₂ : q₂ ≡ seat_inside q₁)
    {r : TagAns} {u : List ℕ} (l : TagMade r s (within d) a q₂ (mid_of i (length t - i) t) u) where
  -- The tag refuses.
  pub named_refuses : {y : Ans} {t' : List ℕ} {n b c e f : ℕ} → r ≡ No n b c e f → y ≡ plain r
      → Made y s (named_in d (within d)) at 1 q 0 t t'
  unfolding plain
  named_refuses h e = refused (named_no s d at a pa (made_no l.made (ap plain h))) (e ∙ ap plain h)

  module _ {z m e k g : ℕ} (h : r ≡ Got z m e k g) {t₁ t₂ : List ℕ} (w : t₁ ≡ put_mid i (length t - i) t u)
      (st₂ : Stored row_words (seat_inside q) Kind.opening_tag at z 0 m t₁ t₂) where
    named_got : plain r ≡ A.Got z m
    unfolding plain
    named_got = ap plain h

    named_count : (b : Bool) → read_at s (in_tag (within d)) a ≡ got b (rest s d a) z → m ≡ count (rest s d a)
    named_count b x =
        let y : A.Got z m ≡ A.Got z (count (rest s d a)) =
        sym named_got ∙ l.made.of.is ∙ ap (view counted) x in
        cc

    named_rows : (b : Bool) → read_at s (in_tag (within d)) a ≡ got b (rest s d a) z
        → t₂ ≡ sets t row_words (rows_from (seat_inside q) at (opening s d at a))
    named_rows b x =
        tag_rows s d at a pa q t (eq₂ ∙ ap seat_inside eq) x (named_count b x)
        ((made_lent t st l.made w).of.wrote _ _ named_got) st₂

    -- It closes itself.
    pub named_single : {y x v : ℕ} {t₃ : List ℕ} → g ≡ 0 → Stored 0 q Kind.element at z 0 v t₂ t₃ → v ≡ m + 1 → y ≡ z
        → x ≡ m + 2
        → Made (A.Got y x) s (named_in d (within d)) at 1 q 0 t t₃
    unfolding named_in paired_or_not count parse
    named_single {t₃ = t₃} n st₃ ev f₁ f₂ =
        let read = l.stops z m e k g h n in
        let O = opening s d at a in
        let tag = tag_read s d at a pa z false read in
        let whole : read_at s (named_in d (within d)) at ≡ got true (group (node Kind.element 0) O nil) z = rw tag in
        let wide = wide_got s (suc (length s)) (open_tag (within d)) 0 at tag in
        let all = named_count false read in
        let sum = count_behind (front s at) (rest s d a) in
        let none = count_flat (front s at) (flat_front s d at a pa) in
        let far = l.made.of.far _ _ named_got in
        let fp = pa.far in
        let rows : t₃ ≡ sets t 0 (rows_from q at (group (node Kind.element 0) O nil)) =
        st₃.is
        ∙ (λ j. sets (named_rows false read j) 0 (node_row q Kind.element at z 0 (ev j)))
        ∙ headed O t q at 0 row_words Kind.element z 0 (m + 1) wide (omega arith) refl in
        rw (f₁, f₂) (record {
          of = made_done s (group (node Kind.element 0) O nil) at 1 q 0 t t₃ z (m + 2) whole (omega arith)
              (omega arith) rows;
        })

    -- Its content decides.
    module _ (n : g ≡ 0 → ⊥) {o : Opened} (eo : o ≡ record { at = at; start = a; end = e; count = k }) where
      named_opens : Opens s d (within d) (open_tag (within d))
          (λ o. node Kind.element (paired_or_not o)) Kind.element 1 at z m
          (closing_named s o) q t t₂
      unfolding paired_or_not ◌⋈◌
      named_opens =
          let read = l.goes z m e k g h n in
          let name = (l.name z m e k g h).0 in
          let all = named_count true read in
          let sum = count_behind (front s at) (rest s d a) in
          let none = count_flat (front s at) (flat_front s d at a pa) in
          let far = l.made.of.far _ _ named_got in
          let fp = pa.far in
          let tag = tag_read s d at a pa z true read in
          record {
            under = front s at ⋈ rest s d a;
            tag = tag;
            wrote = named_rows true read;
            all = omega arith;
            few = omega arith;
            closed = λ v c b kids. paired_named s (open_tag (within d)) (children (within d)) d at c tag kids name
                (tag_name s d at a pa e z true name read)
                ∙ ap (λ (x : Opened). closed_by (opening s d at a) d v (closing_named s x c)) (sym eo);
            says = λ v x. refl;
          }

      -- It has a content.
      pub named_is : {r₂ : Ans} {v : ℕ} {t₃ : List ℕ} → Content r₂ s (within d) o z v q t₂ t₃ → v ≡ m + 1
          → Made r₂ s (named_in d (within d)) at 1 q 0 t t₃
      unfolding named_in
      named_is {r₂} {v} {t₃} c ev = by c.held refl
        where
          by : (x : Ans) → c.held ≡ x → Made r₂ s (named_in d (within d)) at 1 q 0 t t₃
          by (A.No n a b x y) j =
              refused (paired_no named_opens (made_no c.made j)) (c.refuses n a b x y j)
          by (A.Got p j) x =
              let sh = subst (λ (y : Opened). Shut r₂ (closing_named s o p) s Kind.element 1 y.at p (v + j) q
              c.between t₃) eo (c.ends p j x) in
              paired_shut named_opens c.made (R.goes_children d)
              (ap (λ (y : ℕ). seat_behind y (seat_inside q)) ev) (ap (λ (y : ℕ). row_words * (y + 1)) ev) x sh
              (ap (λ (y : ℕ). y + j) ev)

pub ruleset named_steps = (named_refuses, named_single, named_is)

-- ---- a fragment

bare_opening : bare (pass ⨾ expect ">") ≡ true
unfolding bare expect need
bare_opening = rw K.bare_pass

module _ (s : List ℕ) (at a : ℕ) (pa : Past a s pass at 1) (y : byte_at s a ≡ code ">") where
  fragment_inside : read_at s (pass ⨾ expect ">") at ≡ got true (front s at ⋈ byte (byte_at s a) nil) (a + 1)
  unfolding expect
  fragment_inside =
      let F = suc (length s) in
      let i = Lex.before_end s a (code ">") y (lit< tt) in
      Lex.seq_is s F 0 at pass (expect ">") pa.is
      ∙ ap (behind (front s at))
      (Lex.when_yes s F 0 a (is ">") step need (eq-eqb _ (code ">") y) ∙ Lex.step_is s F 0 a i)

  fragment_flat : Flat (front s at ⋈ byte (byte_at s a) nil)
  fragment_flat = flat_got s (suc (length s)) (pass ⨾ expect ">") 0 at bare_opening fragment_inside

module _ (d : ℕ) {s : List ℕ} {at a : ℕ} (pa : Past a s pass at 1) (y : byte_at s a ≡ code ">") (q : Seat) {p : ℕ}
    (ep : p ≡ a + 1) {t t₁ : List ℕ} (st : Stored row_words (seat_inside q) Kind.opening_tag at p 0 0 t t₁) where
  fragment_opens : Opens s d (within d) open_fragment (λ o. node Kind.fragment 0) Kind.fragment 0 at (a + 1) 0
      (closing s at (a + 1 - at) no_name) q t t₁
  unfolding open_fragment inside
  fragment_opens =
      let F = suc (length s) in
      let C = front s at ⋈ byte (byte_at s a) nil in
      let read = fragment_inside s at a pa y in
      let flat = fragment_flat s at a pa y in
      let none = count_flat C flat in
      let wide = wide_got s F (pass ⨾ expect ">") 0 at read in
      let tag = wrap_got s F (pass ⨾ expect ">") 0 at read (λ o. node Kind.opening_tag 0) in
      let fp = pa.far in
      record {
        under = C;
        tag = tag;
        wrote = st.is
            ∙ (λ i. sets t row_words (node_row (seat_inside q) Kind.opening_tag at (ep i) 0 0))
            ∙ ap (sets t row_words) (leaf_row C (seat_inside q) at Kind.opening_tag (a + 1) 0 wide none);
        all = sym none;
        few = omega arith;
        closed = λ v c b kids. paired_plain s open_fragment (children (within d)) d at c tag kids (no_name_lem C flat);
        says = λ v x. refl;
      }

  module _ {i : ℕ} (st₂ : Start (length t₁) (2 * row_words) i) {q₂ : Seat} (eq₂ : q₂ ≡ seat_inside q) {q₃ : Seat}
      (eq₃ : q₃ ≡ seat_behind 1 q₂) {r : Ans} {p₁ : ℕ} (ep₁ : p₁ ≡ a + 1) {u : List ℕ}
      (l : Made r s (children (within d)) p₁ 0 q₃ 0 (mid_of i (length t₁ - i) t₁) u) where
    fragment_lent : {t₂ : List ℕ} → t₂ ≡ put_mid i (length t₁ - i) t₁ u
        → Made r s (children (within d)) (a + 1) 0 (seat_behind 1 (seat_inside q)) (2 * row_words) t₁ t₂
    fragment_lent {t₂} w =
        subst (λ (x : ℕ). Made r s (children (within d)) x 0 (seat_behind 1 (seat_inside q)) (2 * row_words) t₁ t₂) ep₁
        (subst (λ (x : Seat). Made r s (children (within d)) p₁ 0 x (2 * row_words) t₁ t₂)
        (eq₃ ∙ ap (seat_behind 1) eq₂)
        (made_lent t₁ st₂ l w))

    -- A child refuses.
    pub fragment_refuses : {t' : List ℕ} {n b c e f : ℕ} → r ≡ A.No n b c e f
        → Made r s (fragment_in d (within d)) at 1 q 0 t t'
    unfolding fragment_in
    fragment_refuses h = refused (paired_no fragment_opens (made_no (fragment_lent refl) h)) h

    -- The closing tag decides.
    pub fragment_is : {c k e v : ℕ} {t₂ t₃ : List ℕ} {r₂ : Ans} → r ≡ A.Got c k → t₂ ≡ put_mid i (length t₁ - i) t₁ u
        → Shut r₂ (closing s at (e - at) no_name c) s Kind.fragment 0 at c v q t₂ t₃
        → e ≡ a + 1
        → v ≡ k + 1
        → Made r₂ s (fragment_in d (within d)) at 1 q 0 t t₃
    unfolding fragment_in
    fragment_is {c} {k} {e} {v} {t₂} {t₃} {r₂} h w sh ee ev =
        let m : v ≡ 0 + 1 + k = omega arith in
        let at_end = subst
        (λ (x : ℕ). Shut r₂ (closing s at (x - at) no_name c) s Kind.fragment 0 at c v q t₂ t₃) ee sh in
        paired_shut fragment_opens (fragment_lent w) (R.goes_children d) refl refl h at_end m

pub ruleset fragment_steps = (fragment_refuses, fragment_is)
