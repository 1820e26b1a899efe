-- Expressions with their records, braces, and attributes, step by step.
use mathlib.Core.Path.{◌≡◌, refl, sym, ap, ◌∙◌}
use mathlib.Core.Bool.{Bool, true, false}
use mathlib.Core.List.{List}
use Prim.Native.Char.{code}
use Prim.Native.Nat.{ℕ, suc, ◌+◌, ◌*◌, ◌-◌, ◌≤◌}
use native.Mathlib.Omega.{arith}
use lib.ListN.{length}
use lib.Dec.{lit<}
use borrow.Author.Tests.{eq-eqb}
use borrow.Rule.Slice.PartMut.{put_mid, mid_of}
use Rattle.rules.specs.Forest.{node, Forest, nil}
use Rattle.rules.specs.Rule.{Rule, done, step, refuse, when, after, from_mark, node_of, ◌⨾◌, ◌⇒◌∣◌}
use Rattle.rules.specs.Parse.{Answer, got, trouble, pick, and_then, behind, byte_at, parse, parsed, read_at}
use Rattle.rules.specs.Record.{row_words}
use Rattle.rules.proofs.Run.{goes, never, unmarked, calm, wide_got}
use Rattle.rules.proofs.Got.{got_same, trouble_got, going}
use Rattle.rules.proofs.Again.{after_no, after_got, seq_no, wrap_no, wrap_answer}
use Rattle.jsx.proofs.Again.{node_around}
use Rattle.rules.proofs.Flat.{seq_assoc}
use Rattle.jsx.specs.Refusal.{unexpected, empty_value}
use Rattle.jsx.specs.Kind as Kind
use Rattle.jsx.specs.Byte.{is, quote, need, expect}
use Rattle.jsx.specs.Blank.{blank, blanks, comment, comment_turn, line_comment, line_turn, pass}
use Rattle.jsx.specs.Name.{attribute_name}
use Rattle.jsx.specs.Text.{quoted}
use Rattle.jsx.specs.Expression.{no_sibling, conditional, expression}
use Rattle.jsx.specs.Braces.{container, dots, spread, empty_value_braces}
use Rattle.jsx.specs.Tag.{value, initializer, named_attribute, attribute}
use Rattle.jsx.specs.Depth.{within}
use Rattle.jsx.proofs.Fits.{thrift, nodes_far}
use Rattle.lex.specs.Contract.{out_of, nothing, Leaf, Past}
use Rattle.lex.specs.Answer.{Ans, Got, No}
use Rattle.lex.proofs.Laws as Lex
use Rattle.lex.proofs.Bare.{bare, flat_got, count_flat}
use Rattle.table.specs.Slot.{Seat, seat_inside, seat_behind}
use Rattle.table.specs.Contract.{Start, Stored}
use Rattle.table.specs.Reader.{Room, Made}
use Rattle.table.proofs.Made.{made_as, made_no, made_lent, refused}
use Rattle.table.proofs.Upto.{Upto, upto_begin, upto_as, upto_bare, upto_no, leaf_stops, leaf_goes, read_goes}
use Rattle.table.proofs.Upto.{made_stops}
use Rattle.table.proofs.Upto.{last_made, last_made_stops, upto_made}
use Rattle.tag.specs.Token.{close_by, goes_on}
use Rattle.tag.proofs.Rules.{goes_close, bare_close}
use Rattle.token.specs.Token.{assigned, dots_on, shut_braces}
use Rattle.token.proofs.Told.{told_goes, told_stop}
use Rattle.reader.specs.Cut.{in_container, in_spread, in_attribute}
use Rattle.token.proofs.Rules as K
use Rattle.reader.proofs.Rules as R
use Rattle.reader.proofs.Levels as L
use Rattle.reader.proofs.Steps.{Wraps, Holds, node_is, leaf_made_as, made_began}
use Rattle.reader.proofs.ExpressionSteps.{reader_first, reader_leaf, reader_leaf_refuses}

-- ---- which rules are nodes

-- Bytes up to p, then G.
past_upto : {s : List ℕ} {at p k : ℕ} {x : Rule} (G : Rule) (q : Seat) (i : ℕ) (t : List ℕ)
    → bare x ≡ true
    → Past p s x at k
    → Upto s (x ⨾ G) at q i t G p 0 t
past_upto {s} {at} {x = x} G q i t ba l =
    let far = l.far in
    read_goes (upto_begin (x ⨾ G) q i t (omega arith)) ba l.is far.1

module _ (s : List ℕ) (d at : ℕ) where
  abbrev F : ℕ
  F = suc (length s)

  -- An expression is a node around a conditional.
  pub expr_wraps : at ≤ length s → Wraps s (expression (within d)) at Kind.expression (conditional (within d)) at
  unfolding expression
  expr_wraps h = record {
    within = conditional (within d);
    node = refl;
    here = λ q i t. upto_begin (conditional (within d)) q i t h;
    on = R.goes_cond d;
    few = λ o z e. nodes_far (thrift d).expression s 0 at e;
  }

  -- `{expression}` is a node around it.
  pub held_wraps : {p : ℕ} → Past p s pass at 1
      → Wraps s (container (within d)) at Kind.container (in_container (within d)) p
  unfolding container in_container shut_braces
  held_wraps l = record {
    within = pass ⨾ in_container (within d);
    node = refl;
    here = λ q i t. past_upto (in_container (within d)) q i t K.bare_pass l;
    on = R.goes_in_container d;
    few = λ o z e. let f = nodes_far (thrift d).container s 0 at e in omega arith;
  }

  spread_cut : (p : ℕ) → read_at s (dots ⨾ blanks ⨾ expression (within d) ⨾ blanks ⨾ expect "}") p
      ≡ read_at s (in_spread (within d)) p
  unfolding in_spread dots_on close_by expect
  spread_cut p = sym (seq_assoc s F dots blanks (expression (within d) ⨾ blanks ⨾ expect "}") 0 p)

  spread_node : (k : ℕ) → read_at s (spread k (within d)) at ≡ read_at s (node_of k (pass ⨾ in_spread (within d))) at
  unfolding spread
  spread_node k =
      wrap_answer s F (λ o. node k 0) (pass ⨾ dots ⨾ blanks ⨾ expression (within d) ⨾ blanks ⨾ expect "}") 0 at
      ∙ ap (node_around k)
      (L.seq_under s pass (dots ⨾ blanks ⨾ expression (within d) ⨾ blanks ⨾ expect "}")
      (in_spread (within d)) at spread_cut)
      ∙ sym (wrap_answer s F (λ o. node k 0) (pass ⨾ in_spread (within d)) 0 at)

  -- `{...expression}` is a node around it.
  pub spread_wraps : (k : ℕ) {p : ℕ} → Past p s pass at 1 → Wraps s (spread k (within d)) at k (in_spread (within d)) p
  spread_wraps k l = record {
    within = pass ⨾ in_spread (within d);
    node = spread_node k;
    here = λ q i t. past_upto (in_spread (within d)) q i t K.bare_pass l;
    on = R.goes_in_spread d;
    few = λ o z e. let f = nodes_far ((thrift d).spread k) s 0 at e in omega arith;
  }

  -- An attribute that has a name is a node around it.
  pub attr_wraps : {b : ℕ} → at ≤ length s → b ≡ byte_at s at → (b ≡ code "{" → ⊥)
      → Wraps s (attribute (within d)) at Kind.attribute (in_attribute (within d)) at
  unfolding attribute named_attribute in_attribute
  attr_wraps h y x = record {
    within = in_attribute (within d);
    node = Lex.when_no s F 0 at (is "{") (within d).spread_braces (named_attribute (within d)) (Lex.byte_not y x);
    here = λ q i t. upto_begin (in_attribute (within d)) q i t h;
    on = R.goes_in_attribute d;
    few = λ o z e. nodes_far (thrift d).attribute s 0 at e;
  }

  -- So they hold what is inside them.
  pub expr_holds : at ≤ length s → Holds s (expression (within d)) at (conditional (within d)) at
  expr_holds h = record { kind = Kind.expression; wraps = expr_wraps h }

  -- So does `{expression}`,
  pub held_holds : {p : ℕ} → Past p s pass at 1 → Holds s (container (within d)) at (in_container (within d)) p
  held_holds l = record { kind = Kind.container; wraps = held_wraps l }

  -- and `{...expression}`,
  pub spread_holds : (k : ℕ) {p : ℕ} → Past p s pass at 1 → Holds s (spread k (within d)) at (in_spread (within d)) p
  spread_holds k l = record { kind = k; wraps = spread_wraps k l }

  -- and an attribute that has a name.
  pub attr_holds : {b : ℕ} → at ≤ length s → b ≡ byte_at s at → (b ≡ code "{" → ⊥)
      → Holds s (attribute (within d)) at (in_attribute (within d)) at
  attr_holds h y x = record { kind = Kind.attribute; wraps = attr_wraps h y x }

-- ---- `{expression}` and `{...expression}` with their rows

module _ (d : ℕ) {s : List ℕ} {at p : ℕ} (pa : Past p s pass at 1) (t : List ℕ) {a : ℕ}
    (st : Start (length t) row_words a)
    {q q₁ : Seat} (eq : q₁ ≡ seat_inside q) {r : Ans} {u : List ℕ} where
  -- `{expression}` is read, and its row was stored.
  pub held_made : Made r s (in_container (within d)) p 2 q₁ 0 (mid_of a (length t - a) t) u
      → {z m y x : ℕ} {t₁ t₂ : List ℕ} → r ≡ Got z m
      → t₁ ≡ put_mid a (length t - a) t u
      → Stored 0 q Kind.container at z 0 m t₁ t₂
      → y ≡ z
      → x ≡ m + 1
      → Made (Got y x) s (container (within d)) at 3 q 0 t t₂
  held_made l h w st₂ f g =
      let far = pa.far in
      node_is t st eq l h w st₂ (held_wraps s d at pa) (omega arith) (omega arith) f g

  -- So is `{...expression}`.
  pub spread_made : (K : ℕ) → Made r s (in_spread (within d)) p 2 q₁ 0 (mid_of a (length t - a) t) u
      → {z m y x : ℕ} {t₁ t₂ : List ℕ} → r ≡ Got z m
      → t₁ ≡ put_mid a (length t - a) t u
      → Stored 0 q K at z 0 m t₁ t₂
      → y ≡ z
      → x ≡ m + 1
      → Made (Got y x) s (spread K (within d)) at 3 q 0 t t₂
  spread_made K l h w st₂ f g =
      let far = pa.far in
      node_is t st eq l h w st₂ (spread_wraps s d at K pa) (omega arith) (omega arith) f g

-- ---- the inside of `{expression}`

module _ (d : ℕ) {s : List ℕ} {at : ℕ} {c : ℕ} {q : Seat} (room : Room c s at q) {r : Ans} {t t₁ : List ℕ}
    (l : Made r s (expression (within d)) at 1 q 0 t t₁) where
  held_begun : Upto s (in_container (within d)) at q 0 t (expression (within d) ⨾ shut_braces) at 0 t
  unfolding in_container
  held_begun = upto_begin (in_container (within d)) q 0 t room.inside

  -- The expression refuses.
  pub held_refuses : {t' : List ℕ} {x a b g y : ℕ} → r ≡ No x a b g y → Made r s (in_container (within d)) at 2 q 0 t t'
  held_refuses h = refused (made_stops held_begun l h) h

  module _ {e m : ℕ} (h : r ≡ Got e m) {r₂ : Ans} (l₂ : Leaf nothing r₂ s shut_braces e 1) where
    -- The braces are not closed.
    pub held_refuses_behind : {t' : List ℕ} {x a b g y : ℕ} → r₂ ≡ No x a b g y
        → Made r₂ s (in_container (within d)) at 2 q 0 t t'
    held_refuses_behind h₂ =
        reader_leaf_refuses held_begun (R.goes_expression d) l K.goes_shut_braces K.bare_shut_braces h l₂ h₂

    -- It is read.
    pub held_is : {z i y x : ℕ} → r₂ ≡ Got z i → y ≡ z → x ≡ m
        → Made (Got y x) s (in_container (within d)) at 2 q 0 t t₁
    held_is h₂ f g =
        let far = l.of.far _ _ h in
        let far₂ = l₂.far _ _ h₂ in
        reader_leaf held_begun (R.goes_expression d) l K.goes_shut_braces K.bare_shut_braces h l₂ 2 h₂ (omega arith) f g

pub ruleset in_held_steps = (held_refuses, held_refuses_behind, held_is)

-- ---- the inside of `{...expression}`

module _ (d : ℕ) {s : List ℕ} {at : ℕ} {c : ℕ} {q : Seat} (room : Room c s at q) {t : List ℕ} {r : Ans}
    (l : Leaf nothing r s dots_on at 3) where
  spread_begun : Upto s (in_spread (within d)) at q 0 t (dots_on ⨾ expression (within d) ⨾ close_by (code "}")) at 0 t
  unfolding in_spread
  spread_begun = upto_begin (in_spread (within d)) q 0 t room.inside

  -- The dots are not there.
  pub spread_refuses : {t' : List ℕ} {x a b g y : ℕ} → r ≡ No x a b g y → Made r s (in_spread (within d)) at 2 q 0 t t'
  spread_refuses h = refused (leaf_stops spread_begun l h) h

  module _ {p j : ℕ} (h : r ≡ Got p j) {r₂ : Ans} {t₁ : List ℕ} (l₂ : Made r₂ s (expression (within d)) p 1 q 0 t t₁)
    where
      spread_dots : Upto s (in_spread (within d)) at q 0 t (expression (within d) ⨾ close_by (code "}")) p 0 t
      spread_dots = leaf_goes spread_begun l K.goes_dots K.bare_dots h

      -- The expression refuses.
      pub spread_refuses_inside : {t' : List ℕ} {x a b g y : ℕ} → r₂ ≡ No x a b g y
          → Made r₂ s (in_spread (within d)) at 2 q 0 t t'
      spread_refuses_inside h₂ = refused (made_stops spread_dots l₂ h₂) h₂

      module _ {e m : ℕ} (h₂ : r₂ ≡ Got e m) {r₃ : Ans} (l₃ : Leaf nothing r₃ s (close_by (code "}")) e 1) where
        -- The braces are not closed.
        pub spread_refuses_behind : {t' : List ℕ} {x a b g y : ℕ} → r₃ ≡ No x a b g y
            → Made r₃ s (in_spread (within d)) at 2 q 0 t t'
        spread_refuses_behind h₃ =
            reader_leaf_refuses spread_dots (R.goes_expression d) l₂ (goes_close (code "}"))
            (bare_close (code "}")) h₂ l₃ h₃

        -- It is read.
        pub spread_is : {z i y x : ℕ} → r₃ ≡ Got z i → y ≡ z → x ≡ m
            → Made (Got y x) s (in_spread (within d)) at 2 q 0 t t₁
        spread_is h₃ f g =
            let far = l.far _ _ h in
            let far₂ = l₂.of.far _ _ h₂ in
            let far₃ = l₃.far _ _ h₃ in
            reader_leaf spread_dots (R.goes_expression d) l₂ (goes_close (code "}")) (bare_close (code "}")) h₂ l₃ 2 h₃
            (omega arith) f g

pub ruleset in_spread_steps = (spread_refuses, spread_refuses_inside, spread_refuses_behind, spread_is)

-- ---- a value

-- What stands there if no quoted string does.
abbrev unquoted : ℕ → Rule
unquoted d =
    when (is "{") ⇒ (within d).value_braces
    ∣ when (is "<") ⇒ (within d).element ⨾ no_sibling unexpected
    ∣ need

-- What was passed is looked over.
pub passed_over : {s : List ℕ} {at p k : ℕ} {x : Rule} → Past p s x at k
    → (f : ℕ → Bool) (t u : Rule)
    → read_at s (after x f t u) at ≡ pick (f (byte_at s p)) (read_at s t at) (read_at s u at)
passed_over {s} {at} {x = x} l f t u = after_got s (suc (length s)) x 0 at l.is f t u

-- A leaf for blanks that has got something has passed them.
pub leaf_passes : {r : Ans} {s : List ℕ} {at k p j : ℕ} {x : Rule} → goes x ≡ true → Leaf nothing r s x at k
    → r ≡ Got p j
    → Past p s x at k
leaf_passes go l h = record { is = Lex.leaf_got go l h; far = l.far _ _ h }

-- Empty braces as a value: 11.
empty_value_lem : {s : List ℕ} {at p : ℕ} → Past p s pass at 1 → byte_at s p ≡ code "}"
    → read_at s empty_value_braces at ≡ trouble empty_value at (p + 1) 0 0
unfolding empty_value_braces parse expect calm pass blanks blank comment comment_turn line_comment line_turn
empty_value_lem {s} {at} {p} l y =
    let F = suc (length s) in
    let i = Lex.before_end s p (code "}") y (lit< tt) in
    let passed : parsed s pass at at ≡ got true (out_of (read_at s pass at)) p = unmarked s F pass refl at 0 at
    ∙ l.is in
    Lex.seq_is s F at at pass (expect "}" ⨾ refuse empty_value from_mark) passed
    ∙ ap (behind (out_of (read_at s pass at)))
    (Lex.seq_is s F at p (expect "}") (refuse empty_value from_mark)
    (Lex.when_yes s F at p (is "}") step need (eq-eqb _ (code "}") y) ∙ Lex.step_is s F at p i))

module _ (d : ℕ) (s : List ℕ) (at : ℕ) {b : ℕ} (y : b ≡ byte_at s at) where
  -- A quoted string.
  pub value_quoted : {q : Seat} {t t' : List ℕ} {f : Bool} {r : Ans} → f ≡ quote b → f ≡ true
      → Made r s quoted at 2 q 0 t t'
      → Made r s (value (within d)) at 1 q 0 t t'
  unfolding value
  value_quoted e x l =
      made_as l (value (within d)) 1
      (sym (Lex.when_yes s (suc (length s)) 0 at quote quoted (unquoted d) (Lex.tested quote y e x))) (omega arith)

  module _ {f : Bool} (e : f ≡ quote b) (x : f ≡ false) where
    not_quoted : read_at s (value (within d)) at ≡ read_at s (unquoted d) at
    unfolding value
    not_quoted = Lex.when_no s (suc (length s)) 0 at quote quoted (unquoted d) (Lex.tested quote y e x)

    -- Braces.
    module _ (x₂ : b ≡ code "{") where
      in_braces_lem : read_at s (value (within d)) at ≡ read_at s (within d).value_braces at
      in_braces_lem = not_quoted ∙ Lex.when_yes s (suc (length s)) 0 at (is "{") _ _ (Lex.byte_is y x₂)

      -- No level is left.
      pub value_deep : {q : Seat} {t t' : List ℕ} → d ≡ 0 → Made (No 14 at at 0 0) s (value (within d)) at 1 q 0 t t'
      value_deep h = refused (in_braces_lem ∙ L.value_braces_deep s at d h) refl

      module _ (deep : d ≡ 0 → ⊥) {r : Ans} (l : Leaf nothing r s pass at 1) where
        -- The blanks refuse.
        pub value_refuses : {q : Seat} {t t' : List ℕ} {z a b g w : ℕ} → r ≡ No z a b g w
            → Made r s (value (within d)) at 1 q 0 t t'
        value_refuses h =
            refused (in_braces_lem ∙ L.value_braces_is s at d deep
            ∙ after_no s (suc (length s)) pass 0 at (Lex.leaf_no l h) (is "}") _ _) h

        module _ {p j : ℕ} (h : r ≡ Got p j) {b₂ : ℕ} (y₂ : b₂ ≡ byte_at s p) where
          braces_there : read_at s (value (within d)) at
              ≡ pick (is "}" (byte_at s p)) (read_at s empty_value_braces at)
              (read_at s (container (within (d - 1))) at)
          braces_there =
              in_braces_lem ∙ L.value_braces_is s at d deep ∙ passed_over (leaf_passes K.goes_pass l h) (is "}") _ _

          -- They are empty: 11.
          pub value_empty : {q : Seat} {t t' : List ℕ} {z : ℕ} → b₂ ≡ code "}" → z ≡ p + 1
              → Made (No 11 at z 0 0) s (value (within d)) at 1 q 0 t t'
          value_empty x₃ f =
              let e = Lex.byte_is y₂ x₃ in
              rw f (refused (braces_there ∙ rw e (empty_value_lem (leaf_passes K.goes_pass l h) (sym y₂ ∙ x₃))) refl)

          -- `{expression}`.
          pub value_held : {q : Seat} {t t' : List ℕ} {r₂ : Ans} → (b₂ ≡ code "}" → ⊥)
              → Made r₂ s (container (within (d - 1))) at 3 q 0 t t'
              → Made r₂ s (value (within d)) at 1 q 0 t t'
          value_held x₃ l₂ =
              let e = Lex.byte_not y₂ x₃ in
              made_as l₂ (value (within d)) 1 (sym (braces_there ∙ rw e)) (omega arith)

    module _ (x₂ : b ≡ code "{" → ⊥) where
      no_braces : read_at s (value (within d)) at
          ≡ read_at s (when (is "<") ⇒ (within d).element ⨾ no_sibling unexpected ∣ need) at
      no_braces = not_quoted ∙ Lex.when_no s (suc (length s)) 0 at (is "{") _ _ (Lex.byte_not y x₂)

      -- An element or a fragment.
      pub value_element : {q : Seat} {t t' : List ℕ} {r : Ans} → b ≡ code "<"
          → Made r s ((within d).element ⨾ no_sibling unexpected) at 1 q 0 t t'
          → Made r s (value (within d)) at 1 q 0 t t'
      value_element x₃ l =
          made_as l (value (within d)) 1
          (sym (no_braces ∙ Lex.when_yes s (suc (length s)) 0 at (is "<") _ need (Lex.byte_is y x₃))) (omega arith)

      -- None of these.
      pub value_none : {q : Seat} {t : List ℕ} {r : Ans} → (b ≡ code "<" → ⊥) → Leaf nothing r s need at 0
          → Made r s (value (within d)) at 1 q 0 t t
      value_none x₃ l = leaf_made_as (value (within d)) 1 R.bare_need
          (Lex.leaf_refuses {k = 1} l refl (Lex.need_fails s at))
          (sym (no_braces ∙ Lex.when_no s (suc (length s)) 0 at (is "<") _ need (Lex.byte_not y x₃))) (omega arith)

pub ruleset value_steps = (
  value_quoted,
  value_deep,
  value_refuses,
  value_empty,
  value_held,
  value_element,
  value_none,
)

-- ---- the inside of an attribute

assigned_goes : goes (blanks ⨾ expect "=" ⨾ blanks) ≡ true
unfolding goes blanks expect need
assigned_goes = refl

module _ (d : ℕ) (s : List ℕ) (at : ℕ) where
  -- The `=` and the value, as the code reads them.
  value_cut : read_at s (blanks ⨾ expect "=" ⨾ blanks ⨾ value (within d)) at
      ≡ read_at s ((blanks ⨾ expect "=" ⨾ blanks) ⨾ value (within d)) at
  value_cut =
      let F = suc (length s) in
      sym (seq_assoc s F blanks (expect "=" ⨾ blanks) (value (within d)) 0 at
      ∙ L.seq_under s blanks ((expect "=" ⨾ blanks) ⨾ value (within d)) (expect "=" ⨾ blanks ⨾ value (within d)) at
      (λ q. seq_assoc s F (expect "=") blanks (value (within d)) 0 q))

  -- Behind a name the leaf and the rule go by the same byte: a `=`, none, or a refusal on the way to it.
  initial_by : (P : Answer → Answer → Type 0)
      → P (read_at s (blanks ⨾ expect "=" ⨾ blanks) at) (read_at s (blanks ⨾ expect "=" ⨾ blanks ⨾ value (within d)) at)
      → P (got false nil at) (got true nil at)
      → ((n a b c e : ℕ) → P (trouble n a b c e) (trouble n a b c e))
      → P (read_at s assigned at) (read_at s (initializer (within d)) at)
  unfolding assigned initializer parse
  initial_by P there absent fails = by (read_at s blanks at)
    where
      by : (x : Answer) → P
          (and_then x (λ a u q. pick (is "=" (byte_at s q))
          (read_at s (blanks ⨾ expect "=" ⨾ blanks) at) (got false nil at)))
          (and_then x (λ a u q. pick (is "=" (byte_at s q))
          (read_at s (blanks ⨾ expect "=" ⨾ blanks ⨾ value (within d)) at) (got true nil at)))
      by (got a u q) = go (is "=" (byte_at s q))
        where
          go : (c : Bool) → P (pick c (read_at s (blanks ⨾ expect "=" ⨾ blanks) at) (got false nil at))
              (pick c (read_at s (blanks ⨾ expect "=" ⨾ blanks ⨾ value (within d)) at) (got true nil at))
          go true = there
          go false = absent
      by (trouble n a b c e) = fails n a b c e

  -- A value follows the `=`,
  initial_goes : {o : Forest} {p : ℕ} → read_at s assigned at ≡ got true o p
      → read_at s (initializer (within d)) at ≡ behind o (read_at s (value (within d)) p)
  initial_goes {o} {p} e =
      initial_by (λ x y. x ≡ got true o p → y ≡ behind o (read_at s (value (within d)) p))
      (λ g. value_cut ∙ Lex.seq_is s (suc (length s)) 0 at (blanks ⨾ expect "=" ⨾ blanks) (value (within d)) g)
      (λ g. never (got_same g).0) (λ n a b c f g. trouble_got g) e

  -- or nothing does,
  initial_stops : {o : Forest} {p : ℕ} → read_at s assigned at ≡ got false o p
      → read_at s (initializer (within d)) at ≡ got true nil at
  initial_stops {o} {p} e =
      initial_by (λ x y. x ≡ got false o p → y ≡ got true nil at)
      (λ g. never
      (got_same (sym g ∙ going s (suc (length s)) (blanks ⨾ expect "=" ⨾ blanks) 0 at assigned_goes g)).0)
      (λ g. refl) (λ n a b c f g. trouble_got g) e

  -- or it refuses.
  initial_no : {n a b c e : ℕ} → read_at s assigned at ≡ trouble n a b c e
      → read_at s (initializer (within d)) at ≡ trouble n a b c e
  initial_no {n} {a} {b} {c} {e} f =
      initial_by (λ x y. x ≡ trouble n a b c e → y ≡ trouble n a b c e)
      (λ g. value_cut ∙ seq_no s (suc (length s)) (blanks ⨾ expect "=" ⨾ blanks) 0 at g (value (within d)))
      (λ g. trouble_got (sym g)) (λ n₁ a₁ b₁ c₁ e₁ g. g) f

module _ (d : ℕ) {s : List ℕ} {at : ℕ} {q : Seat} {r : Ans} {t t₁ : List ℕ}
    (l : Made r s attribute_name at 1 q 0 t t₁) where
  -- The name refuses.
  pub in_attr_refuses : {t' : List ℕ} {x a b g y : ℕ} → r ≡ No x a b g y
      → Made r s (in_attribute (within d)) at 1 q 0 t t'
  unfolding in_attribute
  in_attr_refuses h = refused (seq_no s (suc (length s)) attribute_name 0 at (made_no l h) _) h

  module _ {e k : ℕ} (h : r ≡ Got e k) {r₂ : Ans} (l₂ : Leaf goes_on r₂ s assigned e 0) where
    in_attr_begun : Upto s (in_attribute (within d)) at q 0 t (attribute_name ⨾ initializer (within d)) at 0 t
    unfolding in_attribute
    in_attr_begun = upto_begin (in_attribute (within d)) q 0 t (made_began l h)

    in_attr_named : Upto s (in_attribute (within d)) at q 0 t (initializer (within d)) e k t₁
    in_attr_named = reader_first in_attr_begun R.goes_attribute_name l h

    -- What stands behind it refuses.
    pub in_attr_refuses_behind : {t' : List ℕ} {x a b g y : ℕ} → r₂ ≡ No x a b g y
        → Made r₂ s (in_attribute (within d)) at 1 q 0 t t'
    in_attr_refuses_behind h₂ = refused (upto_no in_attr_named (initial_no d s e (Lex.leaf_no l₂ h₂))) h₂

    module _ {p j : ℕ} (h₂ : r₂ ≡ Got p j) where
      -- It stands alone.
      pub in_attr_alone : {y x : ℕ} → j ≡ 0 → y ≡ e → x ≡ k → Made (Got y x) s (in_attribute (within d)) at 1 q 0 t t₁
      unfolding parse
      in_attr_alone n f g =
          let far = l.of.far _ _ h in
          rw (f, g)
          (upto_made 1 (upto_as in_attr_named {h = done} (initial_stops d s e (told_stop l₂ h₂ n))) (omega arith))

      module _ (n : j ≡ 0 → ⊥) {a : ℕ} (st : Start (length t₁) (row_words * k) a) {q₂ : Seat}
          (eq : q₂ ≡ seat_behind k q)
          {r₃ : Ans} {u : List ℕ} (l₃ : Made r₃ s (value (within d)) p 1 q₂ 0 (mid_of a (length t₁ - a) t₁) u) where
        in_attr_value : Upto s (in_attribute (within d)) at q 0 t (value (within d)) p k t₁
        in_attr_value =
            let on = told_goes l₂ h₂ n in
            upto_bare in_attr_named _ (initial_goes d s e on) (wide_got s (suc (length s)) assigned 0 e on)
            (l₂.far _ _ h₂).1
            (count_flat _ (flat_got s (suc (length s)) assigned 0 e K.bare_assigned on))

        -- The value refuses.
        pub in_attr_refuses_inside : {t' : List ℕ} {x a b g y : ℕ} → r₃ ≡ No x a b g y
            → Made r₃ s (in_attribute (within d)) at 1 q 0 t t'
        in_attr_refuses_inside h₃ = refused (last_made_stops in_attr_value (made_lent t₁ st l₃ refl) h₃) h₃

        -- It has a value.
        pub in_attr_is : {z m y x : ℕ} {t₂ : List ℕ} → r₃ ≡ Got z m → t₂ ≡ put_mid a (length t₁ - a) t₁ u → y ≡ z
            → x ≡ k + m
            → Made (Got y x) s (in_attribute (within d)) at 1 q 0 t t₂
        in_attr_is h₃ w f g =
            let far = l.of.far _ _ h in
            let far₂ = l₂.far _ _ h₂ in
            let far₃ = l₃.of.far _ _ h₃ in
            rw (f, g)
            (upto_made 1 (last_made in_attr_value (made_lent t₁ st l₃ w) (R.goes_value d) eq (omega arith) h₃)
            (omega arith))

pub ruleset in_attr_steps = (
  in_attr_refuses,
  in_attr_refuses_behind,
  in_attr_alone,
  in_attr_refuses_inside,
  in_attr_is,
)

-- ---- `{...expression}` among attributes

module _ (d : ℕ) (s : List ℕ) (at : ℕ) {b : ℕ} (y : b ≡ byte_at s at) (x : b ≡ code "{") where
  attr_braces : read_at s (attribute (within d)) at ≡ read_at s (within d).spread_braces at
  unfolding attribute
  attr_braces = Lex.when_yes s (suc (length s)) 0 at (is "{") (within d).spread_braces _ (Lex.byte_is y x)

  -- No level is left.
  pub attr_deep : {q : Seat} {t t' : List ℕ} → d ≡ 0 → Made (No 14 at at 0 0) s (attribute (within d)) at 1 q 0 t t'
  attr_deep h = refused (attr_braces ∙ L.spread_braces_deep s at d h) refl

  module _ (deep : d ≡ 0 → ⊥) {r : Ans} (l : Leaf nothing r s pass at 1) where
    -- The blanks refuse.
    pub attr_refuses : {q : Seat} {t t' : List ℕ} {n a b g z : ℕ} → r ≡ No n a b g z
        → Made r s (attribute (within d)) at 1 q 0 t t'
    unfolding spread
    attr_refuses h =
        refused (attr_braces ∙ L.spread_braces_is s at d deep ∙ wrap_no s (suc (length s)) _ 0 at
        (seq_no s (suc (length s)) pass 0 at (Lex.leaf_no l h) _) (λ o. node Kind.spread_attribute 0)) h

    -- The spread decides.
    pub attr_spread : {q : Seat} {t t' : List ℕ} {p j : ℕ} {r₂ : Ans} → r ≡ Got p j
        → Made r₂ s (spread Kind.spread_attribute (within (d - 1))) at 3 q 0 t t'
        → Made r₂ s (attribute (within d)) at 1 q 0 t t'
    attr_spread h l₂ =
        made_as l₂ (attribute (within d)) 1 (sym (attr_braces ∙ L.spread_braces_is s at d deep)) (omega arith)

pub ruleset attr_spread_steps = (attr_deep, attr_refuses, attr_spread)
