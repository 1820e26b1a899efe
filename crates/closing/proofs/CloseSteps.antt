-- A closing tag, read part by part, with its rows and the verdict: what each need of its readers follows from.
use mathlib.Core.Path.{◌≡◌, refl, sym, ap, subst, ◌∙◌}
use mathlib.Core.Bool.{Bool, true, false}
use mathlib.Core.List.{List}
use Prim.Native.Char.{code}
use Prim.Native.Nat.{ℕ, suc, ◌+◌, ◌-◌, ◌≤◌}
use native.Mathlib.Omega.{arith}
use lib.Dec.{lit<}
use lib.ListN.{length}
use Rattle.lex.proofs.Results.{results}
use borrow.Author.Tests.{eq-eqb, ne_eqb}
use borrow.Rule.Slice.PartMut.{put_mid, mid_of}
use mir.Syntax.{w64}
use mir.Val.{Fits}
use Rattle.rules.specs.Forest.{node, Forest, nil, byte, group, ◌⋈◌, width}
use Rattle.rules.specs.Rule.{done, step, node_of, ◌⨾◌}
use Rattle.rules.specs.Parse.{Answer, got, trouble, behind, byte_at, parse, read_at}
use Rattle.rules.specs.Record.{row_words}
use Rattle.rules.proofs.Forests.{width_behind}
use Rattle.rules.proofs.Run.{wide_got, behind_none}
use Rattle.jsx.specs.Kind as Kind
use Rattle.jsx.specs.Byte.{is, need}
use Rattle.jsx.specs.Blank.{blanks}
use Rattle.jsx.specs.Name.{element_name}
use Rattle.jsx.specs.Tag.{close_name, close_tag}
use Rattle.jsx.specs.Closing.{TagName, no_name, same_name}
use Rattle.lex.specs.Contract.{out_of, nothing, expect_byte, Leaf}
use Rattle.lex.specs.Answer.{Ans, Got, No}
use Rattle.lex.proofs.Laws as Lex
use Rattle.lex.proofs.Bare.{Flat, flat_got}
use Rattle.table.specs.Slot.{Seat, seat_inside}
use Rattle.table.specs.Contract.{Start, Words, Stored}
use Rattle.table.specs.Reader.{Room, MadeOf, Made}
use Rattle.table.proofs.Made.{made_stop, made_as, made_no, made_got, made_lent}
use Rattle.table.proofs.Upto.{Upto, upto_begin, upto_as, upto_count, same_seat, read_goes, made_goes}
use Rattle.table.proofs.Upto.{last_leaf, node_made, node_no}
use Rattle.table.proofs.Asked.{leaf_inside, made_inside, enter_here, room_here}
use Rattle.same.specs.Contract.{Named, same_names}
use Rattle.same.proofs.Forms.{name_at}
use Rattle.closing.specs.declared.Opened.{Opened}
use Rattle.tag.specs.Token.{close_by, close_open}
use Rattle.closing.specs.Close.{Opening, Slashed, name_from, closing, closing_named}
use Rattle.tag.proofs.Rules.{goes_close, bare_close, goes_close_open, bare_close_open}
use Rattle.tag.proofs.Rules.{goes_element_name, goes_close_name}
use Rattle.closing.proofs.Repeated.{none_at_shut}
use Rattle.closing.proofs.Verdict.{NodeAt, node_at, in_closing, close_opened, close_is, close_bare, closing_no}
use Rattle.closing.proofs.Verdict.{closing_same, closing_differs, closing_by_name, closing_bare, closing_plain}
use Rattle.closing.proofs.OpenedSteps.{opening_copy}

-- ---- answers under a verdict

-- The tag is refused, whatever was opened.
tag_no : {s : List ℕ} {c : ℕ} {q : Seat} {t t' : List ℕ} {r : Ans} {n a b g y : ℕ} (at w : ℕ) (x : TagName)
    → read_at s in_closing c ≡ trouble n a b g y
    → r ≡ No n a b g y
    → MadeOf r (closing s at w x c) s c 3 q 0 t t'
tag_no {s} {c} {q} {t} {t'} at w x e h =
    made_stop s c 3 q 0 t t' h
    (closing_no s at w c x (sym (close_opened s c) ∙ node_no s in_closing c Kind.closing_tag e))

-- The tag is taken as its rule read it.
tag_made : {s : List ℕ} {c : ℕ} {q : Seat} {t t' : List ℕ} {r : Ans} {x : Answer}
    → x ≡ read_at s close_tag c
    → Made r s (node_of Kind.closing_tag in_closing) c 3 q 0 t t'
    → MadeOf r x s c 3 q 0 t t'
tag_made {s} {c} {q} {t} {t'} {r} e l =
    subst (λ (y : Answer). MadeOf r y s c 3 q 0 t t') (sym e)
    (made_as l close_tag 3 (close_opened s c) (omega arith)).of

-- ---- from the name on

module _ {s : List ℕ} {c q : ℕ} (v : Slashed s c q) where
  -- Behind `<` and `/`.
  slashed : (i : Seat) (t : List ℕ) → c ≤ length s
      → Upto s in_closing c i row_words t (close_name ⨾ close_by (code ">")) q 0 t
  slashed i t h =
      read_goes (upto_begin in_closing i row_words t h) bare_close_open v.read.is v.read.far.1

  named_is : read_at s element_name q ≡ read_at s close_name q
  unfolding close_name
  named_is =
      sym (Lex.when_no s (suc (length s)) 0 q (is ">") done element_name (ne_eqb (byte_at s q) (code ">") v.named))

  flat : Flat (out_of (read_at s close_open c))
  flat = flat_got s (suc (length s)) close_open 0 c bare_close_open v.read.is

  wide : q ≡ c + width (out_of (read_at s close_open c))
  wide = wide_got s (suc (length s)) close_open 0 c v.read.is

  module _ {r : Ans} {q₁ : Seat} {i : ℕ} {t t₁ : List ℕ} (l : Made r s element_name q 1 q₁ i t t₁) where
    closing_name : Made r s close_name q 1 q₁ i t t₁
    closing_name = made_as l close_name 1 named_is (omega arith)

    -- The name refuses.
    name_stops : {n a b g y : ℕ} → r ≡ No n a b g y → read_at s in_closing c ≡ trouble n a b g y
    name_stops h =
        let F = suc (length s) in
        Lex.seq_is s F 0 c close_open (close_name ⨾ close_by (code ">")) v.read.is
        ∙ ap (behind (out_of (read_at s close_open c)))
        (Lex.seq_no s F 0 q close_name (close_by (code ">")) (sym named_is ∙ made_no l h))

    module _ {f k : ℕ} (h : r ≡ Got f k) where
      name_read : Named s q f
      name_read = record { read = made_got l goes_element_name h; inside = (l.of.far _ _ h).1 }

      name : NodeAt s q f
      name = node_at name_read

      module _ {r₂ : Ans} (l₂ : Leaf nothing r₂ s (close_by (code ">")) f 1) where
        -- The tag's end refuses.
        end_stops : {n a b g y : ℕ} → r₂ ≡ No n a b g y → read_at s in_closing c ≡ trouble n a b g y
        end_stops h₂ =
            let F = suc (length s) in
            Lex.seq_is s F 0 c close_open (close_name ⨾ close_by (code ">")) v.read.is
            ∙ ap (behind (out_of (read_at s close_open c)))
            (Lex.seq_is s F 0 q close_name (close_by (code ">")) (sym named_is ∙ name_read.read)
            ∙ ap (behind (name_at s q)) (Lex.leaf_no l₂ h₂))

        module _ {z j₂ : ℕ} (h₂ : r₂ ≡ Got z j₂) where
          abbrev rest : Forest
          rest = out_of (read_at s (close_by (code ">")) f)

          -- What the rule read.
          whole : read_at s close_tag c
              ≡ got true (group (node Kind.closing_tag 0)
              (out_of (read_at s close_open c) ⋈ (group (node name.kind name.extra) name.under nil ⋈ rest)) nil) z
          whole =
              close_is s c v.read.is (sym named_is ∙ name_read.read)
              (Lex.leaf_got (goes_close (code ">")) l₂ h₂)
              ∙ ap (λ (y : Forest). got true (group (node Kind.closing_tag 0)
              (out_of (read_at s close_open c) ⋈ (y ⋈ rest)) nil) z) name.is

          -- Its rows are stored.
          tag_stored : {j : Seat} {t₂ : List ℕ} → q₁ ≡ seat_inside j → i ≡ row_words → c ≤ length s
              → Stored 0 j Kind.closing_tag c z 0 k t₁ t₂
              → Made (Got z (k + 1)) s (node_of Kind.closing_tag in_closing) c 3 j 0 t t₂
          tag_stored {j} g e b w =
              let far = v.read.far in
              let far₁ = l.of.far _ _ h in
              let far₂ = l₂.far _ _ h₂ in
              let on = made_goes (slashed (seat_inside j) t b) closing_name goes_close_name
              (g ∙ same_seat (seat_inside j)) (e ∙ omega arith) h in
              let through = upto_count (last_leaf on l₂ (goes_close (code ">")) (bare_close (code ">")) h₂) {k = k}
              (omega arith) in
              node_made Kind.closing_tag 3 through (omega arith) w (omega arith)

-- ---- close_named

module _ {s : List ℕ} {o : Opened} {c : ℕ} {q : Seat} {p : ℕ} (op : Opening s o) (room : Room 3 s c q)
    (v : Slashed s c p)
    (t : List ℕ) {i : ℕ} (st : Start (length t) row_words i) {q₁ : Seat} (g : q₁ ≡ seat_inside q) {r : Ans} {u : List ℕ}
    (l : Made r s element_name p 1 q₁ 0 (mid_of i (length t - i) t) u) where
  -- The name refuses.
  pub named_stops : {t' : List ℕ} {n a b d y : ℕ} → r ≡ No n a b d y → MadeOf r (closing_named s o c) s c 3 q 0 t t'
  named_stops h = tag_no o.at 0 (name_from s o.at o.start) (name_stops v l h) h

  module _ {f k : ℕ} (h : r ≡ Got f k) {r₂ : Ans} (l₂ : Leaf nothing r₂ s (close_by (code ">")) f 1) where
    lent : Made r s element_name p 1 q₁ row_words t (put_mid i (length t - i) t u)
    lent = made_lent t st l refl

    -- The tag's end refuses.
    pub named_end_stops : {t' : List ℕ} {n a b d y : ℕ} → r₂ ≡ No n a b d y
        → MadeOf r₂ (closing_named s o c) s c 3 q 0 t t'
    named_end_stops h₂ =
        tag_no o.at 0 (name_from s o.at o.start) (end_stops v l h l₂ h₂) h₂

    module _ {z j₂ : ℕ} (h₂ : r₂ ≡ Got z j₂) {x : Bool} (ex : x ≡ same_names (name_at s o.start) (name_at s p)) where
      abbrev A : NodeAt s o.start o.end
      A = node_at op.read

      abbrev B : NodeAt s p f
      B = name v lent h

      as_name : x ≡ same_name A.kind A.under B.kind B.under
      unfolding same_names
      as_name = ex ∙ (λ i. same_names (A.is i) (B.is i))

      -- The names differ.
      pub named_differs : {t' : List ℕ} {y : ℕ} → x ≡ false → y ≡ f
          → MadeOf (No 7 o.start o.end p y) (closing_named s o c) s c 3 q 0 t t'
      named_differs {t'} e ey =
          rw ey
          (made_stop s c 3 q 0 t t' refl
          (closing_differs s c p f _ _ _ B.kind B.extra (flat v) (wide v) B.ends (whole v lent h l₂ h₂)
          o.at o.start o.end _ op.behind A.ends A.is (sym as_name ∙ e)))

      -- They are equal, and the tag's row was stored.
      pub named_made : {y m : ℕ} {t₁ t₂ : List ℕ} → x ≡ true → t₁ ≡ put_mid i (length t - i) t u
          → Stored 0 q Kind.closing_tag c z 0 k t₁ t₂
          → y ≡ z
          → m ≡ k + 1
          → MadeOf (Got y m) (closing_named s o c) s c 3 q 0 t t₂
      named_made e e₁ w ey em =
          rw (ey, em)
          (tag_made
          (closing_same s c p f _ _ _ B.kind B.extra (flat v) (wide v) B.ends (whole v lent h l₂ h₂)
          o.at o.start o.end _ op.behind A.ends A.is (sym as_name ∙ e))
          (tag_stored v lent h l₂ h₂ g refl room.inside (rw e₁ at w)))

pub ruleset named_steps = (results, named_stops, named_end_stops, named_differs, named_made)

-- ---- close_read

flat_byte : (o : Forest) (b : ℕ) → Flat o → Flat (o ⋈ byte b nil)
unfolding ◌⋈◌
flat_byte nil b h = tt
flat_byte (byte x o) b h = flat_byte o b h
flat_byte (group l c o) b h = absurd h

module _ {s : List ℕ} {c : ℕ} {r : Ans} (l : Leaf nothing r s close_open c 2) where
  open_no : {n a b d y : ℕ} → r ≡ No n a b d y → read_at s in_closing c ≡ trouble n a b d y
  open_no h = Lex.seq_no s (suc (length s)) 0 c close_open (close_name ⨾ close_by (code ">")) (Lex.leaf_no l h)

  module _ {p j : ℕ} (h : r ≡ Got p j) where
    open_got : read_at s close_open c ≡ got true (out_of (read_at s close_open c)) p
    open_got = Lex.leaf_got goes_close_open l h

    open_flat : Flat (out_of (read_at s close_open c))
    open_flat = flat_got s (suc (length s)) close_open 0 c bare_close_open open_got

    -- Behind it a name begins.
    pub slashed_asked : {b : ℕ} → b ≡ byte_at s p → (b ≡ code ">" → ⊥)
        → {u : List ℕ} {c₁ p₁ : ℕ} → u ≡ s
        → c₁ ≡ c
        → p₁ ≡ p
        → Slashed u c₁ p₁
    slashed_asked y x e₁ e₂ e₃ =
        rw (e₁, e₂, e₃)
        (record { read = record { is = open_got; far = l.far _ _ h }; named = λ e. x (y ∙ e) })

    -- Behind it is `>`.
    module _ (x : byte_at s p ≡ code ">") where
      bare_inside : Flat (out_of (read_at s close_open c) ⋈ byte (byte_at s p) nil)
      bare_inside = flat_byte (out_of (read_at s close_open c)) (byte_at s p) open_flat

      bare_whole : read_at s close_tag c
          ≡ got true (group (node Kind.closing_tag 0) (out_of (read_at s close_open c) ⋈ byte (byte_at s p) nil) nil)
          (p + 1)
      bare_whole = close_bare s c open_got x (Lex.before_end s p (code ">") x (lit< tt))

      bare_wide : p + 1 ≡ c + width (out_of (read_at s close_open c) ⋈ byte (byte_at s p) nil)
      unfolding width
      bare_wide =
          let w = wide_got s (suc (length s)) close_open 0 c open_got in
          let w₂ = width_behind (out_of (read_at s close_open c)) (byte (byte_at s p) nil) in
          omega arith

      -- Its row is stored.
      bare_stored : {q : Seat} {t t₁ : List ℕ} → c ≤ length s → Stored 0 q Kind.closing_tag c (p + 1) 0 0 t t₁
          → Made (Got (p + 1) 1) s (node_of Kind.closing_tag in_closing) c 3 q 0 t t₁
      unfolding close_by close_name parse ◌⋈◌
      bare_stored {q} {t} b w =
          let F = suc (length s) in
          let far = l.far _ _ h in
          let i = Lex.before_end s p (code ">") x (lit< tt) in
          let shut : read_at s (close_by (code ">")) p ≡ got true (byte (byte_at s p) nil) (p + 1) =
          Lex.seq_is s F 0 p blanks (expect_byte (code ">")) (none_at_shut s p x)
          ∙ ap (behind nil)
          (Lex.when_yes s F 0 p (is ">") step need (eq-eqb _ (code ">") x) ∙ Lex.step_is s F 0 p i) in
          let l₂ = Lex.leaf_done nothing s (close_by (code ">")) p 1 (p + 1) 0 shut refl (omega arith) in
          let none : read_at s (close_name ⨾ close_by (code ">")) p ≡ read_at s (close_by (code ">")) p =
          Lex.seq_is s F 0 p close_name (close_by (code ">"))
          (Lex.when_yes s F 0 p (is ">") done element_name (eq-eqb _ (code ">") x))
          ∙ behind_none (read_at s (close_by (code ">")) p) in
          let on = upto_as
          (read_goes (upto_begin in_closing (seat_inside q) row_words t b) bare_close_open open_got far.1)
          none in
          node_made Kind.closing_tag 3
          (last_leaf on l₂ (goes_close (code ">")) (bare_close (code ">")) refl) (omega arith) w (omega arith)

-- Neither `<` nor `/`, or blanks that refuse.
pub read_stops : {s : List ℕ} {o : Opened} {c : ℕ} {r : Ans}
    → Opening s o
    → Leaf nothing r s close_open c 2
    → {q : Seat} {t t' : List ℕ} {n a b d y : ℕ} → r ≡ No n a b d y
    → MadeOf r (closing_named s o c) s c 3 q 0 t t'
read_stops {s} {o} v l h = tag_no o.at 0 (name_from s o.at o.start) (open_no l h) h

-- The tag has no name.
pub read_bare : {s : List ℕ} {o : Opened} {c : ℕ} {r : Ans} {p j b : ℕ}
    → Opening s o
    → Leaf nothing r s close_open c 2
    → r ≡ Got p j
    → b ≡ byte_at s p
    → b ≡ code ">"
    → {q : Seat} {t t' : List ℕ} {y : ℕ} → y ≡ p + 1
    → MadeOf (No 9 o.start o.end c y) (closing_named s o c) s c 3 q 0 t t'
read_bare {s} {o} {c} op l h e x {q} {t} {t'} y =
    let A = node_at op.read in
    let z = sym e ∙ x in
    rw y
    (made_stop s c 3 q 0 t t' refl
    (closing_bare s c _ (bare_inside l h z) (bare_whole l h z) o.at o.start o.end _ op.behind A.ends
    (bare_wide l h z) A.is))

pub ruleset read_steps = (results, read_stops, read_bare)

-- ---- close_by_name

module _ {s : List ℕ} {at e c : ℕ} {q : Seat} {p : ℕ} (le : at ≤ e) (room : Room 3 s c q)
    (v : Slashed s c p) {q₁ : Seat}
    (g : q₁ ≡ seat_inside q)
    {r : Ans} {t t₁ : List ℕ} (l : Made r s element_name p 1 q₁ 0 t t₁) where
  -- The name refuses.
  pub by_name_stops : {t₀ t' : List ℕ} {n a b d y : ℕ} → r ≡ No n a b d y
      → MadeOf r (closing s at (e - at) no_name c) s c 3 q 0 t₀ t'
  by_name_stops h = tag_no at (e - at) no_name (name_stops v l h) h

  module _ {f k : ℕ} (h : r ≡ Got f k) {r₂ : Ans} (l₂ : Leaf nothing r₂ s (close_by (code ">")) f 1) where
    -- The tag's end refuses.
    pub by_name_end_stops : {t₀ t' : List ℕ} {n a b d y : ℕ} → r₂ ≡ No n a b d y
        → MadeOf r₂ (closing s at (e - at) no_name c) s c 3 q 0 t₀ t'
    by_name_end_stops h₂ = tag_no at (e - at) no_name (end_stops v l h l₂ h₂) h₂

    -- The whole tag was read.
    pub by_name_is : {t₀ t' : List ℕ} {z j₂ y : ℕ} → r₂ ≡ Got z j₂ → y ≡ f
        → MadeOf (No 8 at e p y) (closing s at (e - at) no_name c) s c 3 q 0 t₀ t'
    by_name_is {t₀} {t'} h₂ ey =
        let B = name v l h in
        rw ey
        (made_stop s c 3 q 0 t₀ t' refl
        (closing_by_name s c p f _ _ _ B.kind B.extra (flat v) (wide v) B.ends (whole v l h l₂ h₂) at e le))

pub ruleset by_name_steps = (results, by_name_stops, by_name_end_stops, by_name_is)

-- ---- close_fragment

module _ {s : List ℕ} {at e c : ℕ} {q : Seat} (le : at ≤ e) (room : Room 3 s c q) {r : Ans}
    (l : Leaf nothing r s close_open c 2) where
  -- Neither `<` nor `/`, or blanks that refuse.
  pub fragment_stops : {t t' : List ℕ} {n a b d y : ℕ} → r ≡ No n a b d y
      → MadeOf r (closing s at (e - at) no_name c) s c 3 q 0 t t'
  fragment_stops h = tag_no at (e - at) no_name (open_no l h) h

  -- The tag has no name, and its row was stored.
  pub fragment_made : {p j b : ℕ} → r ≡ Got p j → b ≡ byte_at s p → b ≡ code ">"
      → {t t₁ : List ℕ} {y : ℕ} → Stored 0 q Kind.closing_tag c (p + 1) 0 0 t t₁
      → y ≡ p + 1
      → MadeOf (Got y 1) (closing s at (e - at) no_name c) s c 3 q 0 t t₁
  fragment_made h f x w y =
      let z = sym f ∙ x in
      rw y
      (tag_made (closing_plain s c _ (bare_inside l h z) (bare_whole l h z) at (e - at))
      (bare_stored l h z room.inside w))

pub ruleset fragment_steps = (results, fragment_stops, fragment_made)

-- ---- what the calls ask

module _ {s : List ℕ} {c : ℕ} {q : Seat} (room : Room 3 s c q) where
  -- Room for the name,
  pub name_room : {p : ℕ} → Slashed s c p → {q₁ : Seat} {u : List ℕ} {y : ℕ} → q₁ ≡ seat_inside q → u ≡ s → y ≡ p
      → Room 3 u y q₁
  name_room v g e f =
      let few = room.few in
      let short = room.short in
      let here = room.inside in
      let far = v.read.far in
      rw (g, e, f) (record {
        short = room.short;
        inside = omega arith;
        few = omega arith;
        held = omega arith;
        shallow = omega (arith, room.shallow);
      })

  -- for the row of a tag with a name,
  pub named_words : {p : ℕ} {r : Ans} {q₁ : Seat} {t u : List ℕ} {f k : ℕ} {r₂ : Ans} {z j : ℕ}
      → Slashed s c p
      → Made r s element_name p 1 q₁ 0 t u
      → r ≡ Got f k
      → Leaf nothing r₂ s (close_by (code ">")) f 1
      → r₂ ≡ Got z j
      → {q₂ : Seat} {x y m : ℕ} → q₂ ≡ q
      → x ≡ c
      → y ≡ z
      → m ≡ k
      → Words q₂ Kind.closing_tag x y 0 m
  named_words v l h l₂ h₂ g e f i =
      let few = room.few in
      let short = room.short in
      let held = room.held in
      let deep = room.shallow in
      let far = v.read.far in
      let far₁ = l.of.far _ _ h in
      let far₂ = l₂.far _ _ h₂ in
      rw (g, e, f, i) (omega arith)

  -- and for that of one with none.
  pub bare_words : {r : Ans} {p j : ℕ} → Leaf nothing r s close_open c 2 → r ≡ Got p j
      → {q₂ : Seat} {x y : ℕ} → q₂ ≡ q
      → x ≡ c
      → y ≡ p + 1
      → Words q₂ Kind.closing_tag x y 0 0
  bare_words l h g e f =
      let few = room.few in
      let short = room.short in
      let held = room.held in
      let deep = room.shallow in
      let far = l.far _ _ h in
      rw (g, e, f) (omega arith)

  -- A place behind what opens the tag fits.
  pub bare_fits : {r : Ans} {p j : ℕ}
      → Leaf nothing r s close_open c 2
      → r ≡ Got p j
      → {y : ℕ} → y ≡ p
      → Fits w64 (y + 1)
  bare_fits l h e =
      let short = room.short in
      let far = l.far _ _ h in
      omega arith

  -- So does the count of a name with its tag's.
  pub named_fits : {p : ℕ} {r : Ans} {q₁ : Seat} {i : ℕ} {t u : List ℕ} {f k : ℕ} → Made r s element_name p 1 q₁ i t u
      → r ≡ Got f k
      → {y : ℕ} → y ≡ k
      → Fits w64 (y + 1)
  named_fits l h e =
      let short = room.short in
      let far = l.of.far _ _ h in
      omega arith

-- The opening name that is compared was read.
pub named_opened : {s : List ℕ} {o : Opened} → Opening s o → {u : List ℕ} {x y : ℕ} → x ≡ o.start → y ≡ o.end → u ≡ s
    → Named u x y
named_opened v e f g = rw (e, f, g) v.read

-- So was the closing name.
pub named_closing : {r : Ans} {s : List ℕ} {p k : ℕ} {q : Seat} {i f j : ℕ} {t t' : List ℕ}
    → Made r s element_name p k q i t t'
    → r ≡ Got f j
    → {u : List ℕ} {x y : ℕ} → x ≡ p
    → y ≡ f
    → u ≡ s
    → Named u x y
named_closing l h e f g =
    rw (e, f, g) (record { read = made_got l goes_element_name h; inside = (l.of.far _ _ h).1 })

pub ruleset named_asked =
    (results, enter_here, leaf_inside, made_inside, name_room, named_words, named_fits, named_opened, named_closing)

pub ruleset read_asked =
    (results, enter_here, leaf_inside, room_here, opening_copy, slashed_asked, name_room, bare_words, bare_fits)
