-- Expressions, step by step: what each need of their readers follows from.
use mathlib.Core.Path.{◌≡◌, refl, sym, ◌∙◌}
use mathlib.Core.Bool.{Bool, true, false}
use mathlib.Core.List.{List, [], ◌∷◌}
use Prim.Native.Char.{code}
use Prim.Native.Nat.{ℕ, suc, ◌+◌, ◌*◌, ◌-◌, ◌≤◌, ◌<◌}
use native.Mathlib.Omega.{arith}
use lib.ListN.{length}
use lib.Dec.{lit<}
use borrow.Author.Tests.{eq-eqb, ne_eqb}
use borrow.Rule.Slice.PartMut.{put_mid, mid_of}
use Rattle.rules.specs.Forest.{nil, byte, ◌⋈◌, width}
use Rattle.rules.specs.Rule.{Rule, done, step, refuse, when, starts, after, many, here, ◌⨾◌, ◌⇒◌∣◌}
use Rattle.rules.specs.Parse.{trouble, byte_at, opens, parse, read_at}
use Rattle.rules.specs.Record.{row_words, count}
use Rattle.rules.proofs.Run.{goes}
use Rattle.rules.proofs.Again.{seq_no}
use Rattle.jsx.specs.Refusal.{unexpected, too_deep}
use Rattle.jsx.specs.Byte.{bytes_of, is, digit, quote, need, expect}
use Rattle.jsx.specs.Blank.{blanks, pass}
use Rattle.jsx.specs.Name.{opens_name}
use Rattle.jsx.specs.Word.{primary_word, number, string}
use Rattle.jsx.specs.Expression.{no_sibling, primary, postfix, unary, either, question, conditional, argument_turn}
use Rattle.jsx.specs.Depth.{within}
use Rattle.lex.specs.Contract.{nothing, Leaf, expect_byte}
use Rattle.lex.specs.Answer.{Ans, Got, No}
use Rattle.lex.proofs.Laws as Lex
use Rattle.lex.proofs.Bare.{bare, goes_blanks, bare_blanks}
use Rattle.table.specs.Slot.{Seat, seat_behind}
use Rattle.table.specs.Contract.{Start}
use Rattle.table.specs.Reader.{Room, Made}
use Rattle.table.proofs.Made.{made_as, made_no, made_lent, refused}
use Rattle.table.proofs.Upto.{Upto, upto_begin, upto_as, upto_count, upto_when, upto_else, look_no, look_yes, look_else}
use Rattle.table.proofs.Upto.{leaf_stops, leaf_goes, made_stops, made_goes, last_leaf, last_leaf_stops}
use Rattle.table.proofs.Upto.{upto_bare, last_made, last_made_stops, upto_made, handed_up, same_seat}
use Rattle.tag.specs.Token.{close_by}
use Rattle.tag.proofs.Rules.{goes_close, bare_close, goes_expect}
use Rattle.token.specs.Token.{parted, dot_word}
use Rattle.reader.specs.Cut.{group_by, arguments, tail_of, arms_of}
use Rattle.token.proofs.Rules as K
use Rattle.reader.proofs.Rules as R
use Rattle.reader.proofs.Levels as L
use Rattle.reader.proofs.Steps.{leaf_made_as, made_began}

-- ---- a level

-- None is left: 14 here.
too_deep_lem : {s : List ℕ} {G : Rule} {at : ℕ} → read_at s G at ≡ trouble too_deep at at 0 0
    → {q : Seat} {t t' : List ℕ} {j : ℕ} → Made (No 14 at at 0 0) s G at j q 0 t t'
too_deep_lem e = refused e refl

-- ---- a reader, then a leaf

module _ {s : List ℕ} {G X Y : Rule} {at : ℕ} {q : Seat} {t : List ℕ} {p : ℕ}
    (v : Upto s G at q 0 t (X ⨾ Y) p 0 t) (gx : goes X ≡ true) {r : Ans} {k : ℕ} {t₁ : List ℕ}
    (l : Made r s X p k q 0 t t₁) where
  -- The reader is through: the leaf is left.
  pub reader_first : {e m : ℕ} → r ≡ Got e m → Upto s G at q 0 t Y e m t₁
  reader_first {m = m} h =
      let z : 0 + row_words * 0 ≡ 0 = omega arith in
      upto_count (made_goes v l gx (same_seat q) (sym z) h) {k = m} (omega arith)

  module _ (gy : goes Y ≡ true) (by : bare Y ≡ true) {e m : ℕ} (h : r ≡ Got e m) {r₂ : Ans} {k₂ : ℕ}
      (l₂ : Leaf nothing r₂ s Y e k₂) where
    -- The leaf refuses.
    pub reader_leaf_refuses : {t' : List ℕ} {x a b g y j : ℕ} → r₂ ≡ No x a b g y → Made r₂ s G at j q 0 t t'
    reader_leaf_refuses h₂ = refused (last_leaf_stops (reader_first h) l₂ h₂) h₂

    -- Both are read.
    pub reader_leaf : {z i y x : ℕ} (j : ℕ) → r₂ ≡ Got z i → at + j ≤ z → y ≡ z → x ≡ m
        → Made (Got y x) s G at j q 0 t t₁
    reader_leaf j h₂ b f g = rw (f, g) (upto_made j (last_leaf (reader_first h) l₂ gy by h₂) b)

-- ---- `(conditional)` and `[conditional]`

-- What a group reads.
abbrev grouped : (c d : ℕ) → Rule
grouped c d = pass ⨾ conditional (within (d - 1)) ⨾ close_by c

module _ (c d : ℕ) {s : List ℕ} {at : ℕ} {q : Seat} {t : List ℕ} where
  -- No level is left.
  pub group_deep : {t' : List ℕ} → d ≡ 0 → Made (No 14 at at 0 0) s (group_by c d) at 1 q 0 t t'
  group_deep h = too_deep_lem (L.group_deep s at d h c)

  module _ (deep : d ≡ 0 → ⊥) {r : Ans} (l : Leaf nothing r s pass at 1) where
    -- The blanks refuse.
    pub group_refuses : {t' : List ℕ} {x a b g y : ℕ} → r ≡ No x a b g y → Made r s (group_by c d) at 1 q 0 t t'
    group_refuses h = refused (L.group_is s at d deep c ∙ seq_no s (suc (length s)) pass 0 at (Lex.leaf_no l h) _) h

    module _ {p j : ℕ} (h : r ≡ Got p j) {r₂ : Ans} {t₁ : List ℕ}
        (l₂ : Made r₂ s (conditional (within (d - 1))) p 1 q 0 t t₁) where
      group_open : Upto s (group_by c d) at q 0 t (conditional (within (d - 1)) ⨾ close_by c) p 0 t
      group_open =
          let far = l.far _ _ h in
          let begun : Upto s (group_by c d) at q 0 t (grouped c d) at 0 t =
          upto_as (upto_begin (group_by c d) q 0 t (omega arith)) (L.group_is s at d deep c) in
          leaf_goes begun l K.goes_pass K.bare_pass h

      -- What is inside refuses.
      pub group_refuses_inside : {t' : List ℕ} {x a b g y : ℕ} → r₂ ≡ No x a b g y
          → Made r₂ s (group_by c d) at 1 q 0 t t'
      group_refuses_inside h₂ = refused (made_stops group_open l₂ h₂) h₂

      module _ {e m : ℕ} (h₂ : r₂ ≡ Got e m) {r₃ : Ans} (l₃ : Leaf nothing r₃ s (close_by c) e 1) where
        -- It is not closed.
        pub group_refuses_behind : {t' : List ℕ} {x a b g y : ℕ} → r₃ ≡ No x a b g y
            → Made r₃ s (group_by c d) at 1 q 0 t t'
        group_refuses_behind h₃ =
            reader_leaf_refuses group_open (R.goes_cond (d - 1)) l₂ (goes_close c) (bare_close c) h₂ l₃ h₃

        -- It is read.
        pub group_is : {z i y x : ℕ} → r₃ ≡ Got z i → y ≡ z → x ≡ m → Made (Got y x) s (group_by c d) at 1 q 0 t t₁
        group_is h₃ f g =
            let far = l.far _ _ h in
            let far₂ = l₂.of.far _ _ h₂ in
            let far₃ = l₃.far _ _ h₃ in
            reader_leaf group_open (R.goes_cond (d - 1)) l₂ (goes_close c) (bare_close c) h₂ l₃ 1 h₃ (omega arith) f g

pub ruleset group_steps = (group_deep, group_refuses, group_refuses_inside, group_refuses_behind, group_is)

-- ---- `!` and `-`

module _ (d : ℕ) {s : List ℕ} {at : ℕ} {q : Seat} {t : List ℕ} where
  -- No level is left.
  pub prefix_deep : {t' : List ℕ} → d ≡ 0 → Made (No 14 at at 0 0) s (within d).prefix at 1 q 0 t t'
  prefix_deep h = too_deep_lem (L.prefix_deep s at d h)

  module _ (deep : d ≡ 0 → ⊥) {r : Ans} (l : Leaf nothing r s pass at 1) where
    -- The blanks refuse.
    pub prefix_refuses : {t' : List ℕ} {x a b g y : ℕ} → r ≡ No x a b g y → Made r s (within d).prefix at 1 q 0 t t'
    prefix_refuses h = refused (L.prefix_is s at d deep ∙ seq_no s (suc (length s)) pass 0 at (Lex.leaf_no l h) _) h

    -- The operand decides.
    pub prefix_is : {r₂ : Ans} {p j : ℕ} {t' : List ℕ} → r ≡ Got p j
        → Made r₂ s (unary (within (d - 1))) p 1 q 0 t t'
        → Made r₂ s (within d).prefix at 1 q 0 t t'
    prefix_is h l₂ =
        let far = l.far _ _ h in
        let begun = upto_as (upto_begin (within d).prefix q 0 t (omega arith)) (L.prefix_is s at d deep) in
        handed_up 1 (leaf_goes begun l K.goes_pass K.bare_pass h) (R.goes_unary (d - 1)) l₂ refl refl (omega arith)

pub ruleset prefix_steps = (prefix_deep, prefix_refuses, prefix_is)

-- ---- calls

-- A byte is left, and it is there: nothing more is left.
pub step_last : {s : List ℕ} {G : Rule} {at : ℕ} {q : Seat} {i : ℕ} {t₀ : List ℕ} {p m : ℕ} {t : List ℕ}
    → Upto s G at q i t₀ step p m t
    → p < length s
    → Upto s G at q i t₀ done (p + 1) m t
unfolding parse width count ◌⋈◌
step_last {s} {p = p} v h =
    upto_bare v (byte (byte_at s p) nil) (Lex.step_is s (suc (length s)) 0 p h) (omega arith) (omega arith) refl

-- What a call reads behind its parenthesis.
abbrev called : ℕ → Rule
called d = when (is ")") step (arguments (within (d - 1)))

module _ (d : ℕ) {s : List ℕ} {at : ℕ} {q : Seat} {t : List ℕ} where
  -- No level is left.
  pub call_deep : {t' : List ℕ} → d ≡ 0 → Made (No 14 at at 0 0) s (within d).call at 1 q 0 t t'
  call_deep h = too_deep_lem (L.call_deep s at d h)

  module _ (deep : d ≡ 0 → ⊥) {r : Ans} (l : Leaf nothing r s pass at 1) where
    -- The blanks refuse.
    pub call_refuses : {t' : List ℕ} {x a b g y : ℕ} → r ≡ No x a b g y → Made r s (within d).call at 1 q 0 t t'
    call_refuses h = refused (L.call_is s at d deep ∙ seq_no s (suc (length s)) pass 0 at (Lex.leaf_no l h) _) h

    module _ {p j : ℕ} (h : r ≡ Got p j) {b : ℕ} (y : b ≡ byte_at s p) where
      call_open : Upto s (within d).call at q 0 t (called d) p 0 t
      call_open =
          let far = l.far _ _ h in
          let begun = upto_as (upto_begin (within d).call q 0 t (omega arith)) (L.call_is s at d deep) in
          leaf_goes begun l K.goes_pass K.bare_pass h

      -- It is empty.
      pub call_empty : {z : ℕ} → b ≡ code ")" → z ≡ p + 1 → Made (Got z 0) s (within d).call at 1 q 0 t t
      call_empty x f =
          let far = l.far _ _ h in
          let i = Lex.before_end s p (code ")") (sym y ∙ x) (lit< tt) in
          rw f (upto_made 1 (step_last (upto_when call_open y (eq-eqb b (code ")") x)) i) (omega arith))

      -- The arguments decide.
      pub call_is : {r₂ : Ans} {t' : List ℕ} → (b ≡ code ")" → ⊥)
          → Made r₂ s (arguments (within (d - 1))) p 1 q 0 t t'
          → Made r₂ s (within d).call at 1 q 0 t t'
      call_is x l₂ =
          let far = l.far _ _ h in
          handed_up 1 (upto_else call_open y (ne_eqb b (code ")") x)) (R.goes_arguments (d - 1)) l₂ refl refl
          (omega arith)

pub ruleset call_steps = (call_deep, call_refuses, call_empty, call_is)

-- Conditionals and `)`.
module _ (d : ℕ) {s : List ℕ} {at : ℕ} {q : Seat} {r : Ans} {t t₁ : List ℕ}
    (l : Made r s (conditional (within d)) at 1 q 0 t t₁) where
  -- The first refuses.
  pub args_refuses : {t' : List ℕ} {x a b g y : ℕ} → r ≡ No x a b g y → Made r s (arguments (within d)) at 1 q 0 t t'
  unfolding arguments
  args_refuses h = refused (seq_no s (suc (length s)) (conditional (within d)) 0 at (made_no l h) _) h

  module _ {e k : ℕ} (h : r ≡ Got e k) {a : ℕ} (st : Start (length t₁) (row_words * k) a) {q₂ : Seat}
      (eq : q₂ ≡ seat_behind k q)
      {r₂ : Ans} {u : List ℕ} (l₂ : Made r₂ s (many (argument_turn (within d))) e 0 q₂ 0
      (mid_of a (length t₁ - a) t₁) u)
    where
      args_begun : Upto s (arguments (within d)) at q 0 t
          (conditional (within d) ⨾ many (argument_turn (within d)) ⨾ expect_byte (code ")")) at 0 t
      unfolding arguments expect
      args_begun = upto_begin (arguments (within d)) q 0 t (made_began l h)

      args_first : Upto s (arguments (within d)) at q 0 t
          (many (argument_turn (within d)) ⨾ expect_byte (code ")")) e k t₁
      args_first = reader_first args_begun (R.goes_cond d) l h

      -- One behind it refuses.
      pub args_refuses_inside : {t' : List ℕ} {x a b g y : ℕ} → r₂ ≡ No x a b g y
          → Made r₂ s (arguments (within d)) at 1 q 0 t t'
      args_refuses_inside h₂ = refused (made_stops args_first (made_lent t₁ st l₂ refl) h₂) h₂

      module _ {p m : ℕ} (h₂ : r₂ ≡ Got p m) {r₃ : Ans} (l₃ : Leaf nothing r₃ s (expect_byte (code ")")) p 1) where
        args_all : {t₂ : List ℕ} → t₂ ≡ put_mid a (length t₁ - a) t₁ u
            → Upto s (arguments (within d)) at q 0 t (expect_byte (code ")")) p (k + m) t₂
        unfolding goes
        args_all w = made_goes args_first (made_lent t₁ st l₂ w) refl eq (omega arith) h₂

        -- They are not closed.
        pub args_refuses_behind : {t' : List ℕ} {x a b g y : ℕ} → r₃ ≡ No x a b g y
            → Made r₃ s (arguments (within d)) at 1 q 0 t t'
        args_refuses_behind h₃ = refused (last_leaf_stops (args_all refl) l₃ h₃) h₃

        -- They are read.
        pub args_are : {z i y x : ℕ} {t₂ : List ℕ} → r₃ ≡ Got z i → t₂ ≡ put_mid a (length t₁ - a) t₁ u → y ≡ z
            → x ≡ k + m
            → Made (Got y x) s (arguments (within d)) at 1 q 0 t t₂
        args_are h₃ w f g =
            let far = l.of.far _ _ h in
            let far₂ = l₂.of.far _ _ h₂ in
            let far₃ = l₃.far _ _ h₃ in
            rw (f, g)
            (upto_made 1 (last_leaf (args_all w) l₃ (goes_expect (code ")")) (R.bare_expect (code ")")) h₃)
            (omega arith))

pub ruleset args_steps = (args_refuses, args_refuses_inside, args_refuses_behind, args_are)

-- ---- a primary

module _ (d : ℕ) (s : List ℕ) (at : ℕ) {b : ℕ} (y : b ≡ byte_at s at) where
  -- A name.
  pub primary_word_lem : {q : Seat} {t : List ℕ} {f : Bool} {r : Ans} → f ≡ opens_name b → f ≡ true
      → Leaf nothing r s primary_word at 1
      → Made r s (primary (within d)) at 1 q 0 t t
  unfolding primary
  primary_word_lem e x l =
      leaf_made_as (primary (within d)) 1 R.bare_primary_word l
      (sym (Lex.when_yes s (suc (length s)) 0 at opens_name primary_word _ (Lex.tested opens_name y e x))) (omega arith)

  module _ {f : Bool} (e : f ≡ opens_name b) (x : f ≡ false) where
    not_word : read_at s (primary (within d)) at
        ≡ read_at s (when digit ⇒ number ∣ when quote ⇒ string ∣ when (is "(") ⇒ (within d).paren ∣ need) at
    unfolding primary
    not_word = Lex.when_no s (suc (length s)) 0 at opens_name primary_word _ (Lex.tested opens_name y e x)

    -- A number.
    pub primary_number : {q : Seat} {t : List ℕ} {f₂ : Bool} {r : Ans} → f₂ ≡ digit b → f₂ ≡ true
        → Leaf nothing r s number at 1
        → Made r s (primary (within d)) at 1 q 0 t t
    primary_number e₂ x₂ l =
        leaf_made_as (primary (within d)) 1 R.bare_number l
        (sym (not_word ∙ Lex.when_yes s (suc (length s)) 0 at digit number _ (Lex.tested digit y e₂ x₂))) (omega arith)

    module _ {f₂ : Bool} (e₂ : f₂ ≡ digit b) (x₂ : f₂ ≡ false) where
      not_number : read_at s (primary (within d)) at
          ≡ read_at s (when quote ⇒ string ∣ when (is "(") ⇒ (within d).paren ∣ need) at
      not_number = not_word ∙ Lex.when_no s (suc (length s)) 0 at digit number _ (Lex.tested digit y e₂ x₂)

      -- A string.
      pub primary_string : {q : Seat} {t : List ℕ} {f₃ : Bool} {r : Ans} → f₃ ≡ quote b → f₃ ≡ true
          → Leaf nothing r s string at 2
          → Made r s (primary (within d)) at 1 q 0 t t
      primary_string e₃ x₃ l =
          leaf_made_as (primary (within d)) 1 R.bare_string l
          (sym (not_number ∙ Lex.when_yes s (suc (length s)) 0 at quote string _ (Lex.tested quote y e₃ x₃)))
          (omega arith)

      module _ {f₃ : Bool} (e₃ : f₃ ≡ quote b) (x₃ : f₃ ≡ false) where
        not_string : read_at s (primary (within d)) at ≡ read_at s (when (is "(") ⇒ (within d).paren ∣ need) at
        not_string = not_number ∙ Lex.when_no s (suc (length s)) 0 at quote string _ (Lex.tested quote y e₃ x₃)

        -- `(conditional)`.
        pub primary_group : {q : Seat} {t t' : List ℕ} {r : Ans}
            → b ≡ code "(" → Made r s (group_by (code ")") d) at 1 q 0 t t'
            → Made r s (primary (within d)) at 1 q 0 t t'
        primary_group x₄ l =
            made_as l (primary (within d)) 1
            (sym (not_string ∙ Lex.when_yes s (suc (length s)) 0 at (is "(") (within d).paren need (Lex.byte_is y x₄)
            ∙ L.paren_group s at d)) (omega arith)

        -- None of these.
        pub primary_none : {q : Seat} {t : List ℕ} {r : Ans} → (b ≡ code "(" → ⊥) → Leaf nothing r s need at 0
            → Made r s (primary (within d)) at 1 q 0 t t
        primary_none x₄ l = leaf_made_as (primary (within d)) 1 R.bare_need
            (Lex.leaf_refuses {k = 1} l refl (Lex.need_fails s at))
            (sym (not_string ∙ Lex.when_no s (suc (length s)) 0 at (is "(") (within d).paren need (Lex.byte_not y x₄)))
            (omega arith)

pub ruleset primary_steps = (primary_word_lem, primary_number, primary_string, primary_group, primary_none)

-- ---- behind a primary

-- What stands there if no `.name` does.
abbrev bracketed : ℕ → Rule
bracketed d = when (is "[") ⇒ (within d).bracket ∣ when (is "(") ⇒ (within d).call ∣ need

module _ (d : ℕ) (s : List ℕ) (at : ℕ) {b : ℕ} (y : b ≡ byte_at s at) where
  -- `.name`.
  pub tail_word : {q : Seat} {t : List ℕ} {r : Ans} → b ≡ code "." → Leaf nothing r s dot_word at 1
      → Made r s (tail_of (within d)) at 1 q 0 t t
  unfolding tail_of
  tail_word x l =
      leaf_made_as (tail_of (within d)) 1 K.bare_dot_word l
      (sym (Lex.when_yes s (suc (length s)) 0 at (is ".") dot_word (bracketed d) (Lex.byte_is y x))) (omega arith)

  module _ (x : b ≡ code "." → ⊥) where
    no_word : read_at s (tail_of (within d)) at ≡ read_at s (bracketed d) at
    unfolding tail_of
    no_word = Lex.when_no s (suc (length s)) 0 at (is ".") dot_word (bracketed d) (Lex.byte_not y x)

    -- `[conditional]`.
    pub tail_bracket : {q : Seat} {t t' : List ℕ} {r : Ans}
        → b ≡ code "[" → Made r s (group_by (code "]") d) at 1 q 0 t t'
        → Made r s (tail_of (within d)) at 1 q 0 t t'
    tail_bracket x₂ l =
        made_as l (tail_of (within d)) 1
        (sym (no_word ∙ Lex.when_yes s (suc (length s)) 0 at (is "[") (within d).bracket _ (Lex.byte_is y x₂)
        ∙ L.bracket_group s at d)) (omega arith)

    module _ (x₂ : b ≡ code "[" → ⊥) where
      no_bracket : read_at s (tail_of (within d)) at ≡ read_at s (when (is "(") ⇒ (within d).call ∣ need) at
      no_bracket = no_word ∙ Lex.when_no s (suc (length s)) 0 at (is "[") (within d).bracket _ (Lex.byte_not y x₂)

      -- A call.
      pub tail_call : {q : Seat} {t t' : List ℕ} {r : Ans} → b ≡ code "(" → Made r s (within d).call at 1 q 0 t t'
          → Made r s (tail_of (within d)) at 1 q 0 t t'
      tail_call x₃ l =
          made_as l (tail_of (within d)) 1
          (sym (no_bracket ∙ Lex.when_yes s (suc (length s)) 0 at (is "(") (within d).call need (Lex.byte_is y x₃)))
          (omega arith)

      -- None of these.
      pub tail_none : {q : Seat} {t : List ℕ} {r : Ans} → (b ≡ code "(" → ⊥) → Leaf nothing r s need at 0
          → Made r s (tail_of (within d)) at 1 q 0 t t
      tail_none x₃ l = leaf_made_as (tail_of (within d)) 1 R.bare_need
          (Lex.leaf_refuses {k = 1} l refl (Lex.need_fails s at))
          (sym (no_bracket ∙ Lex.when_no s (suc (length s)) 0 at (is "(") (within d).call need (Lex.byte_not y x₃)))
          (omega arith)

pub ruleset tail_steps = (tail_word, tail_bracket, tail_call, tail_none)

-- ---- a unary

-- What stands there if no `!` does, and if no `-` does.
abbrev no_bang : ℕ → Rule
no_bang d =
    starts (bytes_of "--") ⇒ refuse unexpected here
    ∣ when (is "-") ⇒ (within d).prefix
    ∣ when (is "<") ⇒ (within d).element ⨾ no_sibling unexpected
    ∣ postfix (within d)

abbrev no_dash : ℕ → Rule
no_dash d =
    when (is "<") ⇒ (within d).element ⨾ no_sibling unexpected
    ∣ postfix (within d)

module _ (d : ℕ) (s : List ℕ) (at : ℕ) {b : ℕ} (y : b ≡ byte_at s at) where
  -- `!`.
  pub unary_bang : {q : Seat} {t t' : List ℕ} {r : Ans} → b ≡ code "!" → Made r s (within d).prefix at 1 q 0 t t'
      → Made r s (unary (within d)) at 1 q 0 t t'
  unfolding unary
  unary_bang x l =
      made_as l (unary (within d)) 1
      (sym (Lex.when_yes s (suc (length s)) 0 at (is "!") (within d).prefix (no_bang d) (Lex.byte_is y x)))
      (omega arith)

  module _ (x : b ≡ code "!" → ⊥) where
    no_bang_lem : read_at s (unary (within d)) at ≡ read_at s (no_bang d) at
    unfolding unary
    no_bang_lem = Lex.when_no s (suc (length s)) 0 at (is "!") (within d).prefix (no_bang d) (Lex.byte_not y x)

    -- `--`.
    pub unary_twice : {q : Seat} {t t' : List ℕ} {f : Bool} → b ≡ code "-" → f ≡ opens s (code "-" ∷ code "-" ∷ []) at
        → f ≡ true
        → Made (No 3 at at 0 0) s (unary (within d)) at 1 q 0 t t'
    unfolding parse
    unary_twice x₂ e h = let z = sym e ∙ h in refused (no_bang_lem ∙ rw z) refl

    -- `-`.
    pub unary_dash : {q : Seat} {t : List ℕ} {f : Bool} {r : Ans} {t' : List ℕ} → b ≡ code "-"
        → f ≡ opens s (code "-" ∷ code "-" ∷ []) at
        → f ≡ false
        → Made r s (within d).prefix at 1 q 0 t t'
        → Made r s (unary (within d)) at 1 q 0 t t'
    unfolding parse
    unary_dash x₂ e h l =
        let z = sym e ∙ h in
        let w = Lex.byte_is y x₂ in
        made_as l (unary (within d)) 1 (sym (no_bang_lem ∙ rw (z, w))) (omega arith)

    module _ (x₂ : b ≡ code "-" → ⊥) where
      no_dash_lem : read_at s (unary (within d)) at ≡ read_at s (no_dash d) at
      unfolding parse
      no_dash_lem =
          let w = Lex.byte_not y x₂ in
          let z = Lex.opens_no s (code "-" ∷ []) at (code "-") w in
          no_bang_lem ∙ rw (z, w)

      -- An element or a fragment.
      pub unary_element : {q : Seat} {t t' : List ℕ} {r : Ans} → b ≡ code "<"
          → Made r s ((within d).element ⨾ no_sibling unexpected) at 1 q 0 t t'
          → Made r s (unary (within d)) at 1 q 0 t t'
      unary_element x₃ l =
          made_as l (unary (within d)) 1
          (sym (no_dash_lem ∙ Lex.when_yes s (suc (length s)) 0 at (is "<") _ (postfix (within d)) (Lex.byte_is y x₃)))
          (omega arith)

      -- A postfix.
      pub unary_postfix : {q : Seat} {t t' : List ℕ} {r : Ans} → (b ≡ code "<" → ⊥)
          → Made r s (postfix (within d)) at 1 q 0 t t'
          → Made r s (unary (within d)) at 1 q 0 t t'
      unary_postfix x₃ l =
          made_as l (unary (within d)) 1
          (sym (no_dash_lem ∙ Lex.when_no s (suc (length s)) 0 at (is "<") _ (postfix (within d)) (Lex.byte_not y x₃)))
          (omega arith)

pub ruleset unary_steps = (unary_bang, unary_twice, unary_dash, unary_element, unary_postfix)

-- ---- a conditional

-- What stands behind an either.
abbrev chosen : ℕ → Rule
chosen d = after blanks (is "?") (blanks ⨾ question (within d)) done

module _ (d : ℕ) {s : List ℕ} {at : ℕ} {q : Seat} {r : Ans} {t t₁ : List ℕ}
    (l : Made r s (either (within d)) at 1 q 0 t t₁) where
  -- The first part refuses.
  pub cond_refuses : {t' : List ℕ} {x a b g y : ℕ} → r ≡ No x a b g y → Made r s (conditional (within d)) at 1 q 0 t t'
  unfolding conditional
  cond_refuses h = refused (seq_no s (suc (length s)) (either (within d)) 0 at (made_no l h) _) h

  module _ {e k : ℕ} (h : r ≡ Got e k) {r₂ : Ans} (l₂ : Leaf nothing r₂ s blanks e 0) where
    cond_begun : Upto s (conditional (within d)) at q 0 t (either (within d) ⨾ chosen d) at 0 t
    unfolding conditional
    cond_begun = upto_begin (conditional (within d)) q 0 t (made_began l h)

    cond_first : Upto s (conditional (within d)) at q 0 t (chosen d) e k t₁
    cond_first = reader_first cond_begun (R.goes_either d) l h

    -- The blanks behind it refuse.
    pub cond_refuses_behind : {t' : List ℕ} {x a b g y : ℕ} → r₂ ≡ No x a b g y
        → Made r₂ s (conditional (within d)) at 1 q 0 t t'
    cond_refuses_behind h₂ = refused (look_no cond_first l₂ h₂) h₂

    module _ {p j : ℕ} (h₂ : r₂ ≡ Got p j) {b : ℕ} (y : b ≡ byte_at s p) where
      -- No `?` is there.
      pub cond_alone : {z x : ℕ} → (b ≡ code "?" → ⊥) → z ≡ e → x ≡ k
          → Made (Got z x) s (conditional (within d)) at 1 q 0 t t₁
      cond_alone x f g =
          let far = l.of.far _ _ h in
          rw (f, g) (upto_made 1 (look_else cond_first l₂ goes_blanks h₂ y (ne_eqb b (code "?") x)) (omega arith))

      module _ (x : b ≡ code "?") {a : ℕ} (st : Start (length t₁) (row_words * k) a) {q₂ : Seat}
          (eq : q₂ ≡ seat_behind k q)
          {r₃ : Ans} {u : List ℕ} (l₃ : Made r₃ s (question (within d)) p 1 q₂ 0 (mid_of a (length t₁ - a) t₁) u) where
        cond_asked : Upto s (conditional (within d)) at q 0 t (question (within d)) p k t₁
        cond_asked =
            leaf_goes (look_yes cond_first l₂ goes_blanks h₂ y (eq-eqb b (code "?") x)) l₂ goes_blanks bare_blanks h₂

        -- The choice refuses.
        pub cond_refuses_inside : {t' : List ℕ} {x a b g y : ℕ} → r₃ ≡ No x a b g y
            → Made r₃ s (conditional (within d)) at 1 q 0 t t'
        cond_refuses_inside h₃ = refused (last_made_stops cond_asked (made_lent t₁ st l₃ refl) h₃) h₃

        -- It is read.
        pub cond_is : {z m y x : ℕ} {t₂ : List ℕ} → r₃ ≡ Got z m → t₂ ≡ put_mid a (length t₁ - a) t₁ u → y ≡ z
            → x ≡ k + m
            → Made (Got y x) s (conditional (within d)) at 1 q 0 t t₂
        cond_is h₃ w f g =
            let far = l.of.far _ _ h in
            let far₂ = l₂.far _ _ h₂ in
            let far₃ = l₃.of.far _ _ h₃ in
            rw (f, g)
            (upto_made 1 (last_made cond_asked (made_lent t₁ st l₃ w) (R.goes_question d) eq (omega arith) h₃)
            (omega arith))

pub ruleset cond_steps = (cond_refuses, cond_refuses_behind, cond_alone, cond_refuses_inside, cond_is)

-- ---- a choice

module _ (d : ℕ) (s : List ℕ) (at : ℕ) {f : Bool}
    (e : f ≡ opens s (code "?" ∷ code "." ∷ []) at) where
  -- `?.`.
  pub choice_dot : {q : Seat} {t t' : List ℕ} → f ≡ true → Made (No 3 at at 0 0) s (question (within d)) at 1 q 0 t t'
  unfolding question parse
  choice_dot h = let z = sym e ∙ h in refused (rw z) refl

  module _ (h : f ≡ false) {f₂ : Bool} (e₂ : f₂ ≡ opens s (code "?" ∷ code "?" ∷ []) at) where
    -- `??`.
    pub choice_twice : {q : Seat} {t t' : List ℕ} → f₂ ≡ true
        → Made (No 3 at at 0 0) s (question (within d)) at 1 q 0 t t'
    unfolding question parse
    choice_twice h₂ =
        let z = sym e ∙ h in
        let w = sym e₂ ∙ h₂ in
        refused (rw (z, w)) refl

    module _ (h₂ : f₂ ≡ false) where
      choice_here : read_at s (question (within d)) at ≡ read_at s (within d).choice at
      unfolding question parse
      choice_here =
          let z = sym e ∙ h in
          let w = sym e₂ ∙ h₂ in
          rw (z, w)

      -- No level is left.
      pub choice_deep : {q : Seat} {t t' : List ℕ} → d ≡ 0
          → Made (No 14 at at 0 0) s (question (within d)) at 1 q 0 t t'
      choice_deep x = too_deep_lem (choice_here ∙ L.choice_deep s at d x)

      module _ (deep : d ≡ 0 → ⊥) {r : Ans} (l : Leaf nothing r s pass at 1) where
        -- The blanks refuse.
        pub choice_refuses : {q : Seat} {t t' : List ℕ} {x a b g y : ℕ} → r ≡ No x a b g y
            → Made r s (question (within d)) at 1 q 0 t t'
        choice_refuses x =
            refused (choice_here ∙ L.choice_is s at d deep ∙ seq_no s (suc (length s)) pass 0 at (Lex.leaf_no l x) _) x

        -- The arms decide.
        pub choice_is : {q : Seat} {t : List ℕ} {r₂ : Ans} {p j : ℕ} {t' : List ℕ} → r ≡ Got p j
            → Made r₂ s (arms_of (within (d - 1))) p 1 q 0 t t'
            → Made r₂ s (question (within d)) at 1 q 0 t t'
        choice_is {q} {t} x l₂ =
            let far = l.far _ _ x in
            let begun = upto_as (upto_begin (question (within d)) q 0 t (omega arith))
            (choice_here ∙ L.choice_is s at d deep) in
            handed_up 1 (leaf_goes begun l K.goes_pass K.bare_pass x) (R.goes_arms (d - 1)) l₂ refl refl (omega arith)

pub ruleset choice_steps = (choice_dot, choice_twice, choice_deep, choice_refuses, choice_is)

-- ---- its arms

module _ (d : ℕ) {s : List ℕ} {at : ℕ} {c : ℕ} {q : Seat} (room : Room c s at q) {r : Ans} {t t₁ : List ℕ}
    (l : Made r s (conditional (within d)) at 1 q 0 t t₁) where
  arms_begun : Upto s (arms_of (within d)) at q 0 t (conditional (within d) ⨾ parted ⨾ conditional (within d)) at 0 t
  unfolding arms_of
  arms_begun = upto_begin (arms_of (within d)) q 0 t room.inside

  -- The first refuses.
  pub arms_refuse : {t' : List ℕ} {x a b g y : ℕ} → r ≡ No x a b g y → Made r s (arms_of (within d)) at 1 q 0 t t'
  arms_refuse h = refused (made_stops arms_begun l h) h

  module _ {e k : ℕ} (h : r ≡ Got e k) {r₂ : Ans} (l₂ : Leaf nothing r₂ s parted e 1) where
    arms_first : Upto s (arms_of (within d)) at q 0 t (parted ⨾ conditional (within d)) e k t₁
    arms_first = reader_first arms_begun (R.goes_cond d) l h

    -- No `:` is behind it.
    pub arms_refuse_behind : {t' : List ℕ} {x a b g y : ℕ} → r₂ ≡ No x a b g y
        → Made r₂ s (arms_of (within d)) at 1 q 0 t t'
    arms_refuse_behind h₂ = refused (leaf_stops arms_first l₂ h₂) h₂

    module _ {p j : ℕ} (h₂ : r₂ ≡ Got p j) {a : ℕ} (st : Start (length t₁) (row_words * k) a) {q₂ : Seat}
        (eq : q₂ ≡ seat_behind k q) {r₃ : Ans} {u : List ℕ}
        (l₃ : Made r₃ s (conditional (within d)) p 1 q₂ 0 (mid_of a (length t₁ - a) t₁) u) where
      arms_second : Upto s (arms_of (within d)) at q 0 t (conditional (within d)) p k t₁
      arms_second = leaf_goes arms_first l₂ K.goes_parted K.bare_parted h₂

      -- The second refuses.
      pub arms_refuse_inside : {t' : List ℕ} {x a b g y : ℕ} → r₃ ≡ No x a b g y
          → Made r₃ s (arms_of (within d)) at 1 q 0 t t'
      arms_refuse_inside h₃ = refused (last_made_stops arms_second (made_lent t₁ st l₃ refl) h₃) h₃

      -- Both are read.
      pub arms_are : {z m y x : ℕ} {t₂ : List ℕ} → r₃ ≡ Got z m → t₂ ≡ put_mid a (length t₁ - a) t₁ u → y ≡ z
          → x ≡ k + m
          → Made (Got y x) s (arms_of (within d)) at 1 q 0 t t₂
      arms_are h₃ w f g =
          let far = l.of.far _ _ h in
          let far₂ = l₂.far _ _ h₂ in
          let far₃ = l₃.of.far _ _ h₃ in
          rw (f, g)
          (upto_made 1 (last_made arms_second (made_lent t₁ st l₃ w) (R.goes_cond d) eq (omega arith) h₃) (omega arith))

pub ruleset arms_steps = (arms_refuse, arms_refuse_behind, arms_refuse_inside, arms_are)
