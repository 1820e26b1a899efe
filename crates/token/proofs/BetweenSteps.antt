-- What stands between two readers, each with its blanks: what each need of their leaves follows from.
use mathlib.Core.Path.{◌≡◌, refl, sym, ap, ◌∙◌}
use mathlib.Core.Bool.{Bool, true, false}
use mathlib.Core.List.{List, [], ◌∷◌}
use mathlib.Core.Logic.{inl, inr}
use Prim.Native.Char.{code}
use Prim.Native.Nat.{ℕ, suc, ◌+◌, ◌≤◌, ◌<◌}
use native.Mathlib.Omega.{arith}
use lib.Dec.{lit<, eqb}
use lib.ListN.{length}
use Rattle.lex.proofs.Results.{results}
use borrow.Author.Tests.{eq-eqb, ne_eqb}
use types.Run.{OneOf}
use Rattle.rules.specs.Forest.{Forest, nil, byte}
use Rattle.rules.specs.Rule.{Test, Rule, done, stop, step, refuse, when, after, here, this_byte, ◌⨾◌}
use Rattle.rules.specs.Parse.{Answer, got, trouble, pick, behind, byte_at, opens, parse, read_at}
use Rattle.rules.proofs.Run.{both}
use Rattle.rules.proofs.Flat.{seq_assoc}
use Rattle.rules.proofs.Again.{after_no, after_got, seq_no, two_got}
use Rattle.jsx.specs.Refusal.{comma_in_braces}
use Rattle.jsx.specs.Byte.{is, need, expect, ◌or◌}
use Rattle.jsx.specs.Blank.{blanks, pass}
use Rattle.jsx.specs.Word.{word}
use Rattle.jsx.specs.Braces.{dots, close_container}
use Rattle.lex.specs.Contract.{out_of, nothing, expect_byte, Leaf}
use Rattle.lex.specs.Answer.{Ans, Got, No}
use Rattle.lex.proofs.Laws as Lex
use Rattle.lex.proofs.Bare.{goes_blanks}
use Rattle.blank.proofs.Laws.{two_inside}
use Rattle.table.proofs.Asked.{leaf_inside}
use Rattle.tag.specs.Token.{open_by, close_by, goes_on}
use Rattle.tag.proofs.Rules.{goes_open, goes_close}
use Rattle.tag.proofs.TokenSteps.{two_stop, two_are, leaf_next}
use Rattle.token.specs.Token.{suffixed, comma, assigned, attribute_at, parted, dots_on, shut_braces, dot_word}
use Rattle.token.proofs.Rules.{goes_pass}
use Rattle.token.proofs.Told.{leaf_as, starts_yes, starts_no, stops_at}

-- ---- blanks, and what the byte behind them decides

module _ {s : List ℕ} {at : ℕ} {r : Ans} (l : Leaf nothing r s blanks at 0) {q j : ℕ} (h : r ≡ Got q j) {b : ℕ}
    (y : b ≡ byte_at s q) where
  passed : read_at s blanks at ≡ got true (out_of (read_at s blanks at)) q
  passed = Lex.leaf_got goes_blanks l h

  -- One of two rules is read behind them.
  chosen : (f : Test) (t u : Rule) {x : Bool} → f b ≡ x
      → read_at s (blanks ⨾ when f t u) at
      ≡ behind (out_of (read_at s blanks at)) (pick x (read_at s t q) (read_at s u q))
  unfolding parse
  chosen f t u {x} e =
      let k : f (byte_at s q) ≡ x = sym (ap f y) ∙ e in
      Lex.seq_is s (suc (length s)) 0 at blanks (when f t u) passed ∙ rw k

  -- One of two rules is read from their first byte on.
  looked : (f : Test) (t u : Rule) {x : Bool} → f b ≡ x
      → read_at s (after blanks f t u) at ≡ pick x (read_at s t at) (read_at s u at)
  looked f t u {x} e =
      let k : f (byte_at s q) ≡ x = sym (ap f y) ∙ e in
      after_got s (suc (length s)) blanks 0 at passed f t u ∙ rw k

-- ---- the blanks before a suffix

-- `(`, `.` and `[`.
abbrev suffixes : List ℕ
suffixes = code "(" ∷ code "." ∷ code "[" ∷ []

suffix_yes : {b : ℕ} → OneOf suffixes b → (is "." or is "[" or is "(") b ≡ true
suffix_yes (inl h) = rw h
suffix_yes (inr (inl h)) = rw h
suffix_yes (inr (inr h)) = rw h

suffix_no : (b : ℕ) → (OneOf suffixes b → ⊥) → (is "." or is "[" or is "(") b ≡ false
suffix_no b h = rw (
  ne_eqb b (code ".") (λ e. h (inr (inl e))),
  ne_eqb b (code "[") (λ e. h (inr (inr e))),
  ne_eqb b (code "(") (λ e. h (inl e)),
)

module _ {s : List ℕ} {at : ℕ} {r : Ans} (l : Leaf nothing r s blanks at 0) where
  -- The blanks refuse.
  pub suffix_stops : {n a b c d : ℕ} → r ≡ No n a b c d → Leaf goes_on r s suffixed at 0
  unfolding suffixed
  suffix_stops h =
      Lex.leaf_stop goes_on s suffixed at 0 h
      (after_no s (suc (length s)) blanks 0 at (Lex.leaf_no l h) (is "." or is "[" or is "(") blanks stop)

  module _ {q j : ℕ} (h : r ≡ Got q j) {b : ℕ} (y : b ≡ byte_at s q) where
    -- One follows.
    pub suffix_is : {z : ℕ} → OneOf suffixes b → z ≡ q → Leaf goes_on (Got z 1) s suffixed at 0
    unfolding suffixed
    suffix_is k e =
        let far = l.far _ _ h in
        rw e
        (Lex.leaf_done goes_on s suffixed at 0 q 1
        (looked l h y (is "." or is "[" or is "(") blanks stop (suffix_yes k) ∙ passed l h y)
        refl (omega arith))

    -- None follows: nothing is passed.
    pub suffix_none : (OneOf suffixes b → ⊥) → Leaf goes_on (Got at 0) s suffixed at 0
    unfolding suffixed
    suffix_none k =
        let far = l.far _ _ h in
        Lex.leaf_done goes_on s suffixed at 0 at 0
        (looked l h y (is "." or is "[" or is "(") blanks stop (suffix_no b k) ∙ stops_at s at)
        refl (omega arith)

pub ruleset suffix_steps = (results, suffix_stops, suffix_is, suffix_none)

-- ---- a comma

module _ {s : List ℕ} {at : ℕ} {r : Ans} (l : Leaf nothing r s blanks at 0) where
  -- The blanks refuse.
  pub comma_stops : {n a b c d : ℕ} → r ≡ No n a b c d → Leaf goes_on r s comma at 0
  unfolding comma
  comma_stops h =
      Lex.leaf_stop goes_on s comma at 0 h
      (seq_no s (suc (length s)) blanks 0 at (Lex.leaf_no l h) (when (is ",") pass stop))

  module _ {q j : ℕ} (h : r ≡ Got q j) {b : ℕ} (y : b ≡ byte_at s q) where
    -- None follows.
    pub comma_none : {z : ℕ} → (b ≡ code "," → ⊥) → z ≡ q → Leaf goes_on (Got z 0) s comma at 0
    unfolding comma
    comma_none k e =
        let far = l.far _ _ h in
        rw e
        (Lex.leaf_done goes_on s comma at 0 q 0
        (chosen l h y (is ",") pass stop (ne_eqb b (code ",") k)
        ∙ ap (behind (out_of (read_at s blanks at))) (stops_at s q))
        refl (omega arith))

    -- One follows.
    module _ (k : b ≡ code ",") {r₂ : Ans} (l₂ : Leaf nothing r₂ s pass q 1) where
      comma_passed : read_at s comma at ≡ behind (out_of (read_at s blanks at)) (read_at s pass q)
      unfolding comma
      comma_passed = chosen l h y (is ",") pass stop (eq-eqb b (code ",") k)

      -- The blanks behind it refuse.
      pub comma_then_stops : {n a c d f : ℕ} → r₂ ≡ No n a c d f → Leaf goes_on r₂ s comma at 0
      comma_then_stops h₂ =
          Lex.leaf_stop goes_on s comma at 0 h₂
          (comma_passed ∙ ap (behind (out_of (read_at s blanks at))) (Lex.leaf_no l₂ h₂))

      -- They are passed.
      pub comma_is : {p m z : ℕ} → r₂ ≡ Got p m → z ≡ p → Leaf goes_on (Got z 1) s comma at 0
      comma_is {p} h₂ e =
          let far = l.far _ _ h in
          let far₂ = l₂.far _ _ h₂ in
          rw e
          (Lex.leaf_done goes_on s comma at 0 p 1
          (comma_passed ∙ ap (behind (out_of (read_at s blanks at))) (Lex.leaf_got goes_pass l₂ h₂))
          refl (omega arith))

pub ruleset comma_steps = (results, comma_stops, comma_none, comma_then_stops, comma_is)

-- ---- an attribute's `=`

-- A `=` that is there is a byte.
equals_pass : (s : List ℕ) (q : ℕ) → eqb (byte_at s q) (code "=") ≡ true
    → read_at s (expect "=" ⨾ blanks) q ≡ read_at s pass q
unfolding expect pass parse
equals_pass s q h = rw h

module _ {s : List ℕ} {at : ℕ} {r : Ans} (l : Leaf nothing r s blanks at 0) where
  -- The blanks refuse.
  pub assign_stops : {n a b c d : ℕ} → r ≡ No n a b c d → Leaf goes_on r s assigned at 0
  unfolding assigned
  assign_stops h =
      Lex.leaf_stop goes_on s assigned at 0 h
      (after_no s (suc (length s)) blanks 0 at (Lex.leaf_no l h) (is "=") (blanks ⨾ expect "=" ⨾ blanks) stop)

  module _ {q j : ℕ} (h : r ≡ Got q j) {b : ℕ} (y : b ≡ byte_at s q) where
    -- None follows: nothing is passed.
    pub assign_none : (b ≡ code "=" → ⊥) → Leaf goes_on (Got at 0) s assigned at 0
    unfolding assigned
    assign_none k =
        let far = l.far _ _ h in
        Lex.leaf_done goes_on s assigned at 0 at 0
        (looked l h y (is "=") (blanks ⨾ expect "=" ⨾ blanks) stop (ne_eqb b (code "=") k) ∙ stops_at s at)
        refl (omega arith)

    -- One follows.
    module _ (k : b ≡ code "=") {r₂ : Ans} (l₂ : Leaf nothing r₂ s pass q 1) where
      assign_passed : read_at s assigned at ≡ behind (out_of (read_at s blanks at)) (read_at s pass q)
      unfolding assigned
      assign_passed =
          looked l h y (is "=") (blanks ⨾ expect "=" ⨾ blanks) stop (eq-eqb b (code "=") k)
          ∙ Lex.seq_is s (suc (length s)) 0 at blanks (expect "=" ⨾ blanks) (passed l h y)
          ∙ ap (behind (out_of (read_at s blanks at))) (equals_pass s q (Lex.byte_is y k))

      -- The blanks behind it refuse.
      pub assign_then_stops : {n a c d f : ℕ} → r₂ ≡ No n a c d f → Leaf goes_on r₂ s assigned at 0
      assign_then_stops h₂ =
          Lex.leaf_stop goes_on s assigned at 0 h₂
          (assign_passed ∙ ap (behind (out_of (read_at s blanks at))) (Lex.leaf_no l₂ h₂))

      -- They are passed.
      pub assign_is : {p m z : ℕ} → r₂ ≡ Got p m → z ≡ p → Leaf goes_on (Got z 1) s assigned at 0
      assign_is {p} h₂ e =
          let far = l.far _ _ h in
          let far₂ = l₂.far _ _ h₂ in
          rw e
          (Lex.leaf_done goes_on s assigned at 0 p 1
          (assign_passed ∙ ap (behind (out_of (read_at s blanks at))) (Lex.leaf_got goes_pass l₂ h₂))
          refl (omega arith))

pub ruleset assign_steps = (results, assign_stops, assign_none, assign_then_stops, assign_is)

-- ---- the blanks before an attribute

-- `/` and `>`.
abbrev ends : List ℕ
ends = code "/" ∷ code ">" ∷ []

ends_yes : {b : ℕ} → OneOf ends b → (is "/" or is ">") b ≡ true
ends_yes (inl h) = rw h
ends_yes (inr h) = rw h

ends_no : (b : ℕ) → (OneOf ends b → ⊥) → (is "/" or is ">") b ≡ false
ends_no b h = rw (ne_eqb b (code "/") (λ e. h (inl e)), ne_eqb b (code ">") (λ e. h (inr e)))

module _ {s : List ℕ} {at : ℕ} {r : Ans} (l : Leaf nothing r s blanks at 0) where
  -- The blanks refuse.
  pub attribute_stops : {n a b c d : ℕ} → r ≡ No n a b c d → Leaf goes_on r s attribute_at at 0
  unfolding attribute_at
  attribute_stops h =
      Lex.leaf_stop goes_on s attribute_at at 0 h
      (seq_no s (suc (length s)) blanks 0 at (Lex.leaf_no l h) (when (is "/" or is ">") stop done))

  module _ {q j : ℕ} (h : r ≡ Got q j) {b : ℕ} (y : b ≡ byte_at s q) where
    -- The tag ends behind them.
    pub attribute_none : {z : ℕ} → OneOf ends b → z ≡ q → Leaf goes_on (Got z 0) s attribute_at at 0
    unfolding attribute_at
    attribute_none k e =
        let far = l.far _ _ h in
        rw e
        (Lex.leaf_done goes_on s attribute_at at 0 q 0
        (chosen l h y (is "/" or is ">") stop done (ends_yes k)
        ∙ ap (behind (out_of (read_at s blanks at))) (stops_at s q))
        refl (omega arith))

    -- It does not.
    pub attribute_is : {z : ℕ} → (OneOf ends b → ⊥) → z ≡ q → Leaf goes_on (Got z 1) s attribute_at at 0
    unfolding attribute_at parse
    attribute_is k e =
        let far = l.far _ _ h in
        rw e
        (Lex.leaf_done goes_on s attribute_at at 0 q 1
        (chosen l h y (is "/" or is ">") stop done (ends_no b k))
        refl (omega arith))

pub ruleset attribute_steps = (results, attribute_stops, attribute_none, attribute_is)

-- ---- a conditional's `:`

module _ {s : List ℕ} {at : ℕ} {r : Ans} (l : Leaf nothing r s (close_by (code ":")) at 1) where
  colon_of : read_at s (close_by (code ":") ⨾ blanks) at ≡ read_at s parted at
  unfolding close_by parted expect
  colon_of = seq_assoc s (suc (length s)) blanks (expect ":") blanks 0 at

  -- It is not there.
  pub colon_stops : {n a b c d : ℕ} → r ≡ No n a b c d → Leaf nothing r s parted at 1
  colon_stops h = leaf_as 1 (two_stop {u = blanks} l 1 h) colon_of (omega arith)

  -- It is, and blanks follow.
  pub colon_is : {r₂ : Ans} {p m : ℕ} → r ≡ Got p m → Leaf nothing r₂ s blanks p 0 → Leaf nothing r₂ s parted at 1
  colon_is h l₂ = leaf_as 1 (two_are l 1 (goes_close (code ":")) h l₂ (omega arith)) colon_of (omega arith)

pub ruleset colon_steps = (results, colon_stops, colon_is)

-- ---- `.name`

module _ {s : List ℕ} {at : ℕ} {r : Ans} (l : Leaf nothing r s (open_by (code ".")) at 1) where
  word_of : read_at s (open_by (code ".") ⨾ word) at ≡ read_at s dot_word at
  unfolding open_by dot_word expect
  word_of = seq_assoc s (suc (length s)) (expect ".") blanks word 0 at

  -- No `.` is there.
  pub dot_stops : {n a b c d : ℕ} → r ≡ No n a b c d → Leaf nothing r s dot_word at 1
  dot_stops h = leaf_as 1 (two_stop {u = word} l 1 h) word_of (omega arith)

  -- One is, and a name follows or does not.
  pub dot_is : {r₂ : Ans} {p m : ℕ} → r ≡ Got p m → Leaf nothing r₂ s word p 1 → Leaf nothing r₂ s dot_word at 1
  dot_is h l₂ = leaf_as 1 (two_are l 1 (goes_open (code ".")) h l₂ (omega arith)) word_of (omega arith)

pub ruleset dot_steps = (results, dot_stops, dot_is)

-- ---- `...`

-- Three dots.
abbrev three_dots : List ℕ
three_dots = code "." ∷ code "." ∷ code "." ∷ []

-- Three bytes that stand here stand within the input.
three_end : (s : List ℕ) (at a b c : ℕ) → c < 256 → opens s (a ∷ b ∷ c ∷ []) at ≡ true → at + 3 ≤ length s
unfolding opens
three_end s at a b c i h =
    let k = both (eqb (byte_at s at) a) (opens s (b ∷ c ∷ []) (at + 1)) h in
    let j = two_inside s (at + 1) b c i k.1 in
    omega arith

-- No dot is there.
needed : (s : List ℕ) (at : ℕ) → read_at s dots at ≡ read_at s need at → read_at s need at ≡ read_at s dots_on at
unfolding dots_on
needed s at e = go (read_at s need at) (Lex.need_fails s at) e
  where
    go : (x : Answer) → Lex.Fails x → read_at s dots at ≡ x → x ≡ read_at s (dots ⨾ blanks) at
    go (got a o p) f h = absurd f
    go (trouble n a b c d) f h = sym (Lex.seq_no s (suc (length s)) 0 at dots blanks h)

module _ (s : List ℕ) (at : ℕ) {f : Bool} (o : f ≡ opens s three_dots at) where
  -- They are there, and blanks follow.
  pub dots_are : {r : Ans} {p : ℕ} → f ≡ true → Leaf nothing r s blanks p 0 → p ≡ at + 3 → Leaf nothing r s dots_on at 3
  unfolding dots_on dots
  dots_are {r} h l e =
      let F = suc (length s) in
      let k = three_end s at (code ".") (code ".") (code ".") (lit< tt) (sym o ∙ h) in
      let e₂ : at + 1 + 1 ≡ at + 2 = omega arith in
      let e₃ : at + 2 + 1 ≡ at + 3 = omega arith in
      let B : ℕ → Forest = λ i. byte (byte_at s i) nil in
      let first = Lex.step_is s F 0 at (omega arith) in
      let second = Lex.step_is s F 0 (at + 1) (omega arith) ∙ ap (got true (B (at + 1))) e₂ in
      let third = Lex.step_is s F 0 (at + 2) (omega arith) ∙ ap (got true (B (at + 2))) e₃ in
      let l₃ : Leaf nothing r s blanks (at + 3) 0 = rw e at l in
      Lex.leaf_behind nothing dots_on at 3 _ (λ a o. refl) l₃
      (Lex.seq_is s F 0 at dots blanks
      (starts_yes s three_dots F 0 at (step ⨾ step ⨾ step) (when (is ".") (refuse 3 here) need) (sym o ∙ h)
      ∙ two_got s F step (step ⨾ step) 0 at first
      (two_got s F step step 0 (at + 1) second third)))
      (omega arith)

  module _ (h : f ≡ false) {b : ℕ} (y : b ≡ byte_at s at) where
    not_three : read_at s dots at ≡ read_at s (when (is ".") (refuse 3 here) need) at
    unfolding dots
    not_three =
        starts_no s three_dots (suc (length s)) 0 at (step ⨾ step ⨾ step) (when (is ".") (refuse 3 here) need)
        (sym o ∙ h)

    -- One or two are.
    pub dots_few : b ≡ code "." → Leaf nothing (No 3 at at 0 0) s dots_on at 3
    unfolding dots_on parse
    dots_few k =
        let F = suc (length s) in
        Lex.leaf_stop nothing s dots_on at 3 refl
        (Lex.seq_no s F 0 at dots blanks
        (not_three ∙ Lex.when_yes s F 0 at (is ".") (refuse 3 here) need (Lex.byte_is y k)))

    -- None is.
    pub dots_none : {r : Ans} → (b ≡ code "." → ⊥) → Leaf nothing r s need at 0 → Leaf nothing r s dots_on at 3
    dots_none k l =
        let F = suc (length s) in
        let none = not_three ∙ Lex.when_no s F 0 at (is ".") (refuse 3 here) need (Lex.byte_not y k) in
        Lex.leaf_refuses l (needed s at none) (Lex.need_fails s at)

pub ruleset dots_steps = (results, dots_are, dots_few, dots_none)

-- ---- the end of `{expression}`

module _ {s : List ℕ} {at : ℕ} {r : Ans} (l : Leaf nothing r s blanks at 0) where
  -- The blanks refuse.
  pub braces_stops : {n a b c d : ℕ} → r ≡ No n a b c d → Leaf nothing r s shut_braces at 1
  unfolding shut_braces
  braces_stops h =
      Lex.leaf_stop nothing s shut_braces at 1 h
      (seq_no s (suc (length s)) blanks 0 at (Lex.leaf_no l h) close_container)

  module _ {q j : ℕ} (h : r ≡ Got q j) {b : ℕ} (y : b ≡ byte_at s q) where
    -- A comma is behind them.
    pub braces_comma : {a c : ℕ} → b ≡ code "," → a ≡ q → c ≡ q + 1 → Leaf nothing (No 16 a c 0 0) s shut_braces at 1
    unfolding shut_braces close_container parse
    braces_comma k ea ec =
        rw (ea, ec)
        (Lex.leaf_stop nothing s shut_braces at 1 refl
        (chosen l h y (is ",") (refuse comma_in_braces this_byte) (expect "}") (eq-eqb b (code ",") k)))

    -- None is: `}` is there or is not.
    pub braces_end : {r₂ : Ans} → (b ≡ code "," → ⊥) → Leaf nothing r₂ s (expect_byte (code "}")) q 1
        → Leaf nothing r₂ s shut_braces at 1
    unfolding shut_braces close_container expect
    braces_end k l₂ =
        let far = l.far _ _ h in
        Lex.leaf_behind nothing shut_braces at 1 _ (λ a o. refl) l₂
        (chosen l h y (is ",") (refuse comma_in_braces this_byte) (expect "}") (ne_eqb b (code ",") k))
        (omega arith)

pub ruleset braces_steps = (results, braces_stops, braces_comma, braces_end)

-- ---- what the calls ask

-- A byte that was read and is below 256 is within the input,
pub byte_inside : (s : List ℕ) (q : ℕ) {b c : ℕ} (u : List ℕ) {z : ℕ}
    → b ≡ byte_at s q
    → b ≡ c
    → c < 256
    → z ≡ q
    → u ≡ s
    → z < length u
byte_inside s q {b} {c} u y h i e f = rw (e, f) (Lex.before_end s q c (sym y ∙ h) i)

-- and so are three bytes that stand there.
pub three_inside : (s : List ℕ) (at a b c : ℕ) (u : List ℕ) {f : Bool} {z : ℕ}
    → f ≡ opens s (a ∷ b ∷ c ∷ []) at
    → f ≡ true
    → c < 256
    → z ≡ at + 3
    → u ≡ s
    → z ≤ length u
three_inside s at a b c u o h i e g = let j = three_end s at a b c i (sym o ∙ h) in rw (e, g) (omega arith)

pub ruleset between_asked = (results, leaf_inside, leaf_next, byte_inside)

pub ruleset dots_asked = (results, three_inside)
