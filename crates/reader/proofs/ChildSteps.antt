-- Children, step by step.
use mathlib.Core.Path.{◌≡◌, refl, sym, ap, ◌∙◌}
use mathlib.Core.Bool.{Bool, true, false}
use mathlib.Core.List.{List}
use Prim.Native.Char.{code}
use Prim.Native.Nat.{ℕ, suc, ◌+◌, ◌*◌, ◌-◌, ◌≤◌, ◌<◌}
use native.Mathlib.Omega.{arith}
use lib.ListN.{length}
use lib.Seq.{sets}
use borrow.Author.Tests.{ne_eqb}
use borrow.Rule.Slice.PartMut.{put_mid, mid_of}
use mir.Syntax.{w64}
use mir.Val.{Fits}
use Rattle.rules.specs.Forest.{Forest, nil}
use Rattle.rules.specs.Rule.{Rule, done, stop, refuse, when, after, many, here, ◌⇒◌∣◌}
use Rattle.rules.specs.Parse.{Answer, got, trouble, pick, byte_at, parse, read_at}
use Rattle.rules.specs.Record.{row_words, count}
use Rattle.rules.proofs.Forests.{behind_nil}
use Rattle.rules.proofs.Run.{goes, never, wide_got}
use Rattle.rules.proofs.Again.{after_no}
use Rattle.jsx.specs.Refusal.{stray_in_text}
use Rattle.jsx.specs.Kind as Kind
use Rattle.jsx.specs.Byte.{is, end}
use Rattle.jsx.specs.Blank.{pass}
use Rattle.jsx.specs.Text.{in_text, text}
use Rattle.jsx.specs.Braces.{container, spread, empty_braces}
use Rattle.jsx.specs.Expression.{Inner}
use Rattle.jsx.specs.Element.{child, children}
use Rattle.jsx.specs.Depth.{within}
use Rattle.jsx.proofs.Goes.{within_goes}
use Rattle.lex.specs.Contract.{view, out_of, nothing, Leaf}
use Rattle.lex.specs.Answer.{Ans, Got, No}
use Rattle.lex.proofs.Laws as Lex
use Rattle.table.specs.Slot.{Seat, seat_behind, rows_from}
use Rattle.table.specs.Contract.{Start}
use Rattle.table.specs.Reader.{counted, Room, Made}
use Rattle.table.proofs.Made.{made_as, made_no, made_got, made_lent, refused, made_done}
use Rattle.table.proofs.Upto.{Upto, upto_begin, upto_as, upto_more, upto_count, loop_on, loop_out, loop_stops}
use Rattle.table.proofs.Upto.{upto_made}
use Rattle.table.proofs.Upto.{same_seat}
use Rattle.reader.specs.Contract.{ChildMade}
use Rattle.token.proofs.Rules as K
use Rattle.reader.proofs.Rules as R
use Rattle.reader.proofs.Levels as L
use Rattle.reader.proofs.Steps.{Loop, loop_begins}
use Rattle.reader.proofs.BracesSteps.{passed_over, leaf_passes}

-- ---- one child

-- A reader of what stands here has made it.
child_of : {r : Ans} {s : List ℕ} {g : Rule} (n : Inner) {at k : ℕ} {q : Seat} {t t' : List ℕ}
    → Made r s g at k q 0 t t'
    → 1 ≤ k
    → goes g ≡ true
    → read_at s (child n) at ≡ read_at s g at
    → ChildMade r s n at q t t'
child_of {r} {s} {g} n {at} l b go e = record {
  made = made_as l (child n) 0 (sym e) (omega arith);
  stays = λ m h. let far = l.of.far _ _ h in absurd (omega arith);
  goes = λ z m h x. Lex.known (read_at s (child n) at) (e ∙ made_got l go h);
}

-- What stands here refuses.
child_no : {r : Ans} {s : List ℕ} (n : Inner) {at : ℕ} {q : Seat} {t t' : List ℕ} {x a b c d : ℕ}
    → read_at s (child n) at ≡ trouble x a b c d
    → r ≡ No x a b c d
    → ChildMade r s n at q t t'
child_no {r} {s} n {at} e h = record {
  made = refused e h;
  stays = λ m f. Lex.none_got (λ p m. read_at s (child n) at ≡ got false nil at) at m (sym h ∙ f);
  goes = λ z m f x.
      Lex.none_got (λ p m. read_at s (child n) at ≡ got true (out_of (read_at s (child n) at)) p) z m (sym h ∙ f);
}

-- The children end here.
child_stops : {s : List ℕ} (n : Inner) {at : ℕ} {q : Seat} {t : List ℕ} → read_at s (child n) at ≡ got false nil at
    → at ≤ length s
    → ChildMade (Got at 0) s n at q t t
unfolding count Rattle.rules.specs.Record.records
child_stops {s} n {at} {q} {t} e h = record {
  made = record { of = made_done s nil at 0 q 0 t t at 0 e refl (omega arith) refl };
  stays = λ m f. e;
  goes = λ z m f x. let y : at ≡ z = cc in absurd (x (sym y));
}

-- What is no text.
abbrev markup : ℕ → Rule
markup d =
    when (is "<") ⇒ (after pass (is "/") ⇒ stop ∣ (within d).element)
    ∣ when (is "{") ⇒ (within d).child_braces
    ∣ when in_text ⇒ text
    ∣ refuse stray_in_text here

-- What is neither text nor a tag.
abbrev tagless : ℕ → Rule
tagless d =
    when (is "{") ⇒ (within d).child_braces
    ∣ when in_text ⇒ text
    ∣ refuse stray_in_text here

-- A byte of a text is none of the others.
record Plainly (b : ℕ) : Type 0 where
  less : is "<" b ≡ false
  brace : is "{" b ≡ false
  last : end b ≡ false

plainly : (b : ℕ) → in_text b ≡ true → Plainly b
unfolding in_text
plainly b h = go (is "<" b) refl (is ">" b) (is "{" b) refl (is "}" b) (end b) refl h
  where
    go : (x : Bool) → is "<" b ≡ x
        → (y z : Bool) → is "{" b ≡ z
        → (v w : Bool) → end b ≡ w
        → pick (pick x true (pick y true (pick z true (pick v true w)))) false true ≡ true
        → Plainly b
    go true e y z f v w g k = never k
    go false e true z f v w g k = never k
    go false e false true f v w g k = never k
    go false e false false f true w g k = never k
    go false e false false f false true g k = never k
    go false e false false f false false g k = record { less = e; brace = f; last = g }

module _ (d : ℕ) (s : List ℕ) (at : ℕ) {b : ℕ} (y : b ≡ byte_at s at) where
  -- It is not the end.
  not_last : end b ≡ false → read_at s (child (within d)) at ≡ read_at s (markup d) at
  unfolding child
  not_last h = Lex.when_no s (suc (length s)) 0 at end stop (markup d) (sym (ap end y) ∙ h)

  not_tag : end b ≡ false → is "<" b ≡ false → read_at s (child (within d)) at ≡ read_at s (tagless d) at
  not_tag h x = not_last h ∙ Lex.when_no s (suc (length s)) 0 at (is "<") _ (tagless d) (sym (ap (is "<") y) ∙ x)

  -- A text.
  pub child_text : {q : Seat} {t t' : List ℕ} {f : Bool} {r : Ans} → f ≡ in_text b → f ≡ true
      → Made r s text at 1 q 0 t t'
      → ChildMade r s (within d) at q t t'
  child_text e x l =
      let p = plainly b (sym e ∙ x) in
      child_of (within d) l (omega arith) K.goes_text
      (not_tag p.last p.less
      ∙ Lex.when_no s (suc (length s)) 0 at (is "{") _ _ (sym (ap (is "{") y) ∙ p.brace)
      ∙ Lex.when_yes s (suc (length s)) 0 at in_text text _ (Lex.tested in_text y e x))

  -- A tag.
  module _ (x : b ≡ code "<") where
    at_less : read_at s (child (within d)) at ≡ read_at s (after pass (is "/") ⇒ stop ∣ (within d).element) at
    at_less = not_last (ap end x) ∙ Lex.when_yes s (suc (length s)) 0 at (is "<") _ (tagless d) (Lex.byte_is y x)

    module _ {r : Ans} (l : Leaf nothing r s pass at 1) where
      -- The blanks behind the `<` refuse.
      pub child_refuses : {q : Seat} {t t' : List ℕ} {n a c g z : ℕ} → r ≡ No n a c g z
          → ChildMade r s (within d) at q t t'
      child_refuses h =
          child_no (within d) (at_less ∙ after_no s (suc (length s)) pass 0 at (Lex.leaf_no l h) (is "/") _ _) h

      module _ {a j : ℕ} (h : r ≡ Got a j) {b₂ : ℕ} (y₂ : b₂ ≡ byte_at s a) where
        behind_less : read_at s (child (within d)) at
            ≡ pick (is "/" (byte_at s a)) (read_at s stop at) (read_at s (within d).element at)
        behind_less = at_less ∙ passed_over (leaf_passes K.goes_pass l h) (is "/") _ _

        -- A closing tag: the children end before it.
        pub child_closing : {q : Seat} {t : List ℕ} {z : ℕ} → b₂ ≡ code "/" → z ≡ at
            → ChildMade (Got z 0) s (within d) at q t t
        unfolding parse
        child_closing x₂ f =
            let e = Lex.byte_is y₂ x₂ in
            let far = l.far _ _ h in
            rw f (child_stops (within d) (behind_less ∙ rw e) (omega arith))

        -- An element or a fragment.
        pub child_element : {q : Seat} {t t' : List ℕ} {r₂ : Ans} → (b₂ ≡ code "/" → ⊥)
            → Made r₂ s (within d).element at 1 q 0 t t'
            → ChildMade r₂ s (within d) at q t t'
        child_element x₂ l₂ =
            let e = Lex.byte_not y₂ x₂ in
            child_of (within d) l₂ (omega arith) (within_goes d).element (behind_less ∙ rw e)

  module _ (x : b ≡ code "<" → ⊥) where
    -- Braces.
    module _ (x₂ : b ≡ code "{") where
      at_brace : read_at s (child (within d)) at ≡ read_at s (within d).child_braces at
      at_brace =
          not_tag (ap end x₂) (ap (is "<") x₂)
          ∙ Lex.when_yes s (suc (length s)) 0 at (is "{") (within d).child_braces _ (Lex.byte_is y x₂)

      -- No level is left.
      pub child_deep : {q : Seat} {t t' : List ℕ} → d ≡ 0 → ChildMade (No 14 at at 0 0) s (within d) at q t t'
      child_deep h = child_no (within d) (at_brace ∙ L.child_braces_deep s at d h) refl

      module _ (deep : d ≡ 0 → ⊥) {r : Ans} (l : Leaf nothing r s pass at 1) where
        -- The blanks behind the `{` refuse.
        pub child_braces_refuse : {q : Seat} {t t' : List ℕ} {n a c g z : ℕ} → r ≡ No n a c g z
            → ChildMade r s (within d) at q t t'
        child_braces_refuse h =
            child_no (within d) (at_brace ∙ L.child_braces_is s at d deep
            ∙ after_no s (suc (length s)) pass 0 at (Lex.leaf_no l h) (is "}") _ _) h

        module _ {p j : ℕ} (h : r ≡ Got p j) {b₂ : ℕ} (y₂ : b₂ ≡ byte_at s p) where
          behind_brace : read_at s (child (within d)) at
              ≡ pick (is "}" (byte_at s p)) (read_at s empty_braces at)
              (pick (is "." (byte_at s p)) (read_at s (spread Kind.spread_child (within (d - 1))) at)
              (read_at s (container (within (d - 1))) at))
          behind_brace =
              let passed = leaf_passes K.goes_pass l h in
              at_brace ∙ L.child_braces_is s at d deep ∙ passed_over passed (is "}") _ _
              ∙ ap (pick (is "}" (byte_at s p)) (read_at s empty_braces at)) (passed_over passed (is ".") _ _)

          -- They are empty.
          pub child_empty : {q : Seat} {t t' : List ℕ} {r₂ : Ans} → b₂ ≡ code "}" → Made r₂ s empty_braces at 2 q 0 t t'
              → ChildMade r₂ s (within d) at q t t'
          child_empty x₃ l₂ =
              let e = Lex.byte_is y₂ x₃ in
              child_of (within d) l₂ (omega arith) K.goes_empty_braces (behind_brace ∙ rw e)

          module _ (x₃ : b₂ ≡ code "}" → ⊥) where
            -- `{...expression}`.
            pub child_spread : {q : Seat} {t t' : List ℕ} {r₂ : Ans} → b₂ ≡ code "."
                → Made r₂ s (spread Kind.spread_child (within (d - 1))) at 3 q 0 t t'
                → ChildMade r₂ s (within d) at q t t'
            child_spread x₄ l₂ =
                let e = Lex.byte_not y₂ x₃ in
                let f = Lex.byte_is y₂ x₄ in
                child_of (within d) l₂ (omega arith) (R.goes_spread (d - 1) Kind.spread_child)
                (behind_brace ∙ rw (e, f))

            -- `{expression}`.
            pub child_held : {q : Seat} {t t' : List ℕ} {r₂ : Ans} → (b₂ ≡ code "." → ⊥)
                → Made r₂ s (container (within (d - 1))) at 3 q 0 t t'
                → ChildMade r₂ s (within d) at q t t'
            child_held x₄ l₂ =
                let e = Lex.byte_not y₂ x₃ in
                let f = Lex.byte_not y₂ x₄ in
                child_of (within d) l₂ (omega arith) (R.goes_container (d - 1)) (behind_brace ∙ rw (e, f))

    module _ (x₂ : b ≡ code "{" → ⊥) where
      -- The input ends.
      pub child_last : {q : Seat} {t : List ℕ} {c : ℕ} → Room c s at q → b ≡ 256
          → ChildMade (Got at 0) s (within d) at q t t
      unfolding child parse
      child_last room h =
          let e = Lex.byte_is y h in
          child_stops (within d) (rw e) room.inside

      -- A stray byte.
      pub child_stray : {q : Seat} {t t' : List ℕ} {f : Bool} → f ≡ in_text b → f ≡ false → (b ≡ 256 → ⊥)
          → ChildMade (No 6 at at 0 0) s (within d) at q t t'
      unfolding parse
      child_stray e h g =
          let stray : read_at s (child (within d)) at ≡ trouble stray_in_text at at 0 0 =
          not_tag (ne_eqb b 256 g) (ne_eqb b (code "<") x)
          ∙ Lex.when_no s (suc (length s)) 0 at (is "{") (within d).child_braces
          (when in_text text (refuse stray_in_text here)) (Lex.byte_not y x₂)
          ∙ Lex.when_no s (suc (length s)) 0 at in_text text (refuse stray_in_text here) (Lex.tested in_text y e h) in
          child_no (within d) stray refl

pub ruleset child_steps = (
  child_text,
  child_refuses,
  child_closing,
  child_element,
  child_deep,
  child_braces_refuse,
  child_empty,
  child_spread,
  child_held,
  child_last,
  child_stray,
)

-- ---- the loop over them

module _ (d : ℕ) {s : List ℕ} {c at : ℕ} {q : Seat} {t₀ : List ℕ} {p m : ℕ} (t : List ℕ)
    (v : Loop c s (children (within d)) at q t₀ p m t) {a : ℕ} (st : Start (length t) (row_words * m) a) {q₂ : Seat}
    (eq : q₂ ≡ seat_behind m q) {r : Ans}
    {u : List ℕ} (l : ChildMade r s (within d) p q₂ (mid_of a (length t - a) t) u) where
  kids_left : Upto s (children (within d)) at q 0 t₀ (many (child (within d))) p m t
  unfolding children
  kids_left = v.here

  -- One of them refuses.
  pub kids_refuse : {t' : List ℕ} {x a b g y : ℕ} → r ≡ No x a b g y → Made r s (children (within d)) at 0 q 0 t₀ t'
  kids_refuse h = refused (loop_stops kids_left (made_no l.made h)) h

  module _ {z k : ℕ} (h : r ≡ Got z k) where
    -- It stays: they end.
    pub kids_end : {t' : List ℕ} {y x : ℕ} → z ≡ p → t' ≡ put_mid a (length t - a) t u → y ≡ p → x ≡ m
        → Made (Got y x) s (children (within d)) at 0 q 0 t₀ t'
    unfolding parse Rattle.rules.specs.Record.records
    kids_end {t'} e w f g =
        let ends = l.stays k (h ∙ ap (λ (i : ℕ). Got i k) e) in
        let same : t' ≡ t = (made_lent t st l.made w).of.wrote _ _ h
        ∙ ap (λ (o : Answer). sets t (row_words * m) (rows_from q₂ p (out_of o))) ends in
        let turn : Upto s (child (within d)) p (seat_behind m q) (row_words * m) t stop p 0 t =
        upto_as (upto_begin (child (within d)) (seat_behind m q) (row_words * m) t v.here.inside) ends in
        let o = loop_out refl (omega arith) kids_left turn in
        let far = v.here.ends in
        rw (f, g, same) (upto_made 0 (upto_count o {k = m} (omega arith)) (omega arith))

    module _ (n : z ≡ p → ⊥) where
      -- It passes a byte.
      pub kids_less : {y : ℕ} → y ≡ z → length s - y < length s - p
      kids_less f = let far = l.made.of.far _ _ h in omega arith

      -- They go on.
      pub kids_again : {y x : ℕ} {t' : List ℕ} → t' ≡ put_mid a (length t - a) t u → y ≡ z → x ≡ m + k
          → Loop c s (children (within d)) at q t₀ y x t'
      unfolding children parse
      kids_again {t' = t'} w f g =
          let far = l.made.of.far _ _ h in
          let o = out_of (read_at s (child (within d)) p) in
          let read = l.goes z k h n in
          let all : k ≡ count o = same_count (h) (l.made.of.is ∙ ap (view counted) read) in
          let wrote = (made_lent t st l.made w).of.wrote _ _ h in
          let turn : Upto s (child (within d)) p (seat_behind m q) (row_words * m) t done z (0 + k) t' =
          upto_more (upto_begin (child (within d)) (seat_behind m q) (row_words * m) t v.here.inside) {h = done} o
          (read ∙ ap (λ (y : Forest). got true y z) (sym (behind_nil o)))
          (wide_got s (suc (length s)) (child (within d)) 0 p read) far.1 all far.0
          (wrote ∙ (λ i. sets t (row i) (rows_from ((eq ∙ same_seat (seat_behind m q)) i) p o))) in
          let next = loop_on refl (omega arith) kids_left (upto_count turn {k = k} (omega arith)) (omega arith) in
          rw (f, g) (record { room = v.room; here = next })
        where
          row : row_words * m ≡ row_words * m + row_words * 0
          row = omega arith

          same_count : {x : ℕ} → r ≡ Got z k → r ≡ Got z x → k ≡ x
          same_count {x} e f = let y : Got z k ≡ Got z x = sym e ∙ f in cc

    -- The records so far are a number.
    pub kids_fit : {y : ℕ} → y ≡ k → Fits w64 (m + y)
    kids_fit f =
        let far = l.made.of.far _ _ h in
        let few = v.here.few in
        let here = v.here.inside in
        let short = v.room.short in
        omega arith

pub ruleset kids_steps = (loop_begins, kids_refuse, kids_end, kids_again)

pub ruleset kids_asked = (kids_less, kids_fit)
