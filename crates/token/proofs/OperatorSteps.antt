-- An operator, alone and with the blanks around it: what each need of their leaves follows from.
use mathlib.Core.Path.{◌≡◌, refl, sym, ap, ◌∙◌}
use mathlib.Core.Bool.{Bool, true, false, not}
use mathlib.Core.List.{List, [], ◌∷◌}
use mathlib.Core.Logic.{inl, inr}
use Prim.Native.Char.{code}
use Prim.Native.Nat.{ℕ, suc, ◌+◌, ◌*◌, ◌≤◌, ◌<◌, ◌^◌}
use native.Mathlib.Omega.{arith}
use lib.ListN.{length}
use Rattle.lex.proofs.Results.{results}
use borrow.Author.Tests.{eq-eqb, ne_eqb, not-true, not-false}
use mir.Syntax.{w64}
use mir.Val.{Fits}
use types.Run.{OneOf}
use Rattle.rules.specs.Forest.{Forest, nil, byte, ◌⋈◌}
use Rattle.rules.specs.Rule.{Rule, stop, step, refuse, here, ◌⨾◌}
use Rattle.rules.specs.Parse.{Answer, got, trouble, pick, behind, byte_at, opens, parse, read_at}
use Rattle.rules.proofs.Run.{Goes, goes, never, on}
use Rattle.rules.proofs.Flat.{Next}
use Rattle.rules.proofs.Again.{after_no, two_got}
use Rattle.jsx.specs.Byte.{is, ◌or◌}
use Rattle.jsx.specs.Blank.{blanks}
use Rattle.jsx.specs.Expression.{times, plus_minus, and_and, or_or}
use Rattle.jsx.proofs.Again.{choice_behind}
use Rattle.lex.specs.Contract.{out_of, nothing, Leaf}
use Rattle.lex.specs.Answer.{Ans, Got, No}
use Rattle.lex.proofs.Laws as Lex
use Rattle.lex.proofs.Bare.{goes_blanks}
use Rattle.blank.proofs.Laws.{two_inside}
use Rattle.table.proofs.Asked.{leaf_inside}
use Rattle.tag.specs.Token.{goes_on}
use Rattle.token.specs.Token.{once, twice, operator_here, operator}
use Rattle.token.proofs.Rules.{goes_times, goes_plus_minus, goes_and, goes_or}
use Rattle.token.proofs.Told.{leaf_as, starts_yes, starts_no, stops_at, told_stop, told_goes}

-- ---- a byte that stands once

module _ (s : List ℕ) (at : ℕ) {b : ℕ} (y : byte_at s at ≡ b) (i : b < 256) where
  -- It is within the input,
  pub once_inside : {u : List ℕ} {z : ℕ} → z ≡ at → u ≡ s → z ≤ length u
  once_inside e f = let h = Lex.before_end s at b y i in rw (e, f) (omega arith)

  -- and so is the place behind it.
  pub once_fits : {z : ℕ} → length s * 1 < 2 ^ 63 → z ≡ at → Fits w64 (z + 1)
  once_fits f e = let h = Lex.before_end s at b y i in omega arith

  module _ {f : Bool} (o : f ≡ opens s (b ∷ b ∷ []) at) where
    -- It stands there twice.
    pub once_twice : f ≡ true → Leaf goes_on (No 3 at at 0 0) s (once b) at 1
    unfolding once parse
    once_twice h =
        Lex.leaf_stop goes_on s (once b) at 1 refl
        (starts_yes s (b ∷ b ∷ []) (suc (length s)) 0 at (refuse 3 here) step (sym o ∙ h))

    -- It does not.
    pub once_is : f ≡ false → Leaf goes_on (Got (at + 1) 1) s (once b) at 1
    unfolding once
    once_is h =
        let F = suc (length s) in
        let k = Lex.before_end s at b y i in
        Lex.leaf_done goes_on s (once b) at 1 (at + 1) 1
        (starts_no s (b ∷ b ∷ []) F 0 at (refuse 3 here) step (sym o ∙ h) ∙ Lex.step_is s F 0 at k)
        refl (omega arith)

pub ruleset once_steps = (results, once_twice, once_is)

pub ruleset once_asked = (results, once_inside, once_fits)

-- ---- a byte that stands twice

module _ {s : List ℕ} {at b : ℕ} (i : b < 256) {f : Bool} (o : f ≡ opens s (b ∷ b ∷ []) at) where
  -- It does not.
  pub twice_not : not f ≡ true → Leaf goes_on (No 3 at at 0 0) s (twice b) at 2
  unfolding twice parse
  twice_not h =
      Lex.leaf_stop goes_on s (twice b) at 2 refl
      (starts_no s (b ∷ b ∷ []) (suc (length s)) 0 at (step ⨾ step) (refuse 3 here) (sym o ∙ not-true f h))

  -- It does.
  pub twice_is : not f ≡ false → Leaf goes_on (Got (at + 2) 1) s (twice b) at 2
  unfolding twice
  twice_is h =
      let F = suc (length s) in
      let two = sym o ∙ not-false f h in
      let k = two_inside s at b b i two in
      let e : at + 1 + 1 ≡ at + 2 = omega arith in
      Lex.leaf_done goes_on s (twice b) at 2 (at + 2) 1
      (starts_yes s (b ∷ b ∷ []) F 0 at (step ⨾ step) (refuse 3 here) two
      ∙ two_got s F step step 0 at (Lex.step_is s F 0 at (omega arith)) (Lex.step_is s F 0 (at + 1) (omega arith))
      ∙ ap (got true (byte (byte_at s at) nil ⋈ byte (byte_at s (at + 1)) nil)) e)
      refl (omega arith)

pub ruleset twice_steps = (results, twice_not, twice_is)

-- ---- the operator here

-- `+` and `-`; `&` and `|`.
abbrev sums : List ℕ
sums = code "+" ∷ code "-" ∷ []

abbrev doubles : List ℕ
doubles = code "&" ∷ code "|" ∷ []

module _ (s : List ℕ) (at : ℕ) where
  -- What is read, by the byte here.
  at_star : byte_at s at ≡ code "*" → read_at s (once (code "*")) at ≡ read_at s operator_here at
  unfolding once operator_here times parse
  at_star h = rw (eq-eqb (byte_at s at) (code "*") h)

  at_plus : byte_at s at ≡ code "+" → read_at s (once (code "+")) at ≡ read_at s operator_here at
  unfolding once operator_here plus_minus parse
  at_plus h =
      let e : byte_at s at ≡ code "-" → ⊥ = λ x. omega arith in
      rw (
        ne_eqb (byte_at s at) (code "*") (λ x. omega arith),
        eq-eqb (byte_at s at) (code "+") h,
        Lex.opens_no s (code "-" ∷ []) at (code "-") (ne_eqb (byte_at s at) (code "-") e),
      )

  at_minus : byte_at s at ≡ code "-" → read_at s (once (code "-")) at ≡ read_at s operator_here at
  unfolding once operator_here plus_minus parse
  at_minus h =
      let e : byte_at s at ≡ code "+" → ⊥ = λ x. omega arith in
      rw (
        ne_eqb (byte_at s at) (code "*") (λ x. omega arith),
        ne_eqb (byte_at s at) (code "+") e,
        eq-eqb (byte_at s at) (code "-") h,
        Lex.opens_no s (code "+" ∷ []) at (code "+") (ne_eqb (byte_at s at) (code "+") e),
      )

  at_and : byte_at s at ≡ code "&" → read_at s (twice (code "&")) at ≡ read_at s operator_here at
  unfolding twice operator_here and_and parse
  at_and h =
      rw (
        ne_eqb (byte_at s at) (code "*") (λ x. omega arith),
        ne_eqb (byte_at s at) (code "+") (λ x. omega arith),
        ne_eqb (byte_at s at) (code "-") (λ x. omega arith),
        eq-eqb (byte_at s at) (code "&") h,
      )

  at_or : byte_at s at ≡ code "|" → read_at s (twice (code "|")) at ≡ read_at s operator_here at
  unfolding twice operator_here or_or parse
  at_or h =
      rw (
        ne_eqb (byte_at s at) (code "*") (λ x. omega arith),
        ne_eqb (byte_at s at) (code "+") (λ x. omega arith),
        ne_eqb (byte_at s at) (code "-") (λ x. omega arith),
        ne_eqb (byte_at s at) (code "&") (λ x. omega arith),
        eq-eqb (byte_at s at) (code "|") h,
      )

module _ {s : List ℕ} {at b : ℕ} (i : at ≤ length s) (y : b ≡ byte_at s at) where
  -- `*`.
  pub here_star : {r : Ans} {c : ℕ} → b ≡ code "*" → Leaf goes_on r s (once c) at 1 → c ≡ b
      → Leaf goes_on r s operator_here at 0
  here_star h l e = leaf_as 0 (rw (e ∙ h) at l) (at_star s at (sym y ∙ h)) (omega arith)

  -- `+` or `-`.
  pub here_sum : {r : Ans} {c : ℕ} → OneOf sums b → Leaf goes_on r s (once c) at 1 → c ≡ b
      → Leaf goes_on r s operator_here at 0
  here_sum (inl h) l e = leaf_as 0 (rw (e ∙ h) at l) (at_plus s at (sym y ∙ h)) (omega arith)
  here_sum (inr h) l e = leaf_as 0 (rw (e ∙ h) at l) (at_minus s at (sym y ∙ h)) (omega arith)

  -- `&` or `|`.
  pub here_double : {r : Ans} {c : ℕ} → OneOf doubles b → Leaf goes_on r s (twice c) at 2 → c ≡ b
      → Leaf goes_on r s operator_here at 0
  here_double (inl h) l e = leaf_as 0 (rw (e ∙ h) at l) (at_and s at (sym y ∙ h)) (omega arith)
  here_double (inr h) l e = leaf_as 0 (rw (e ∙ h) at l) (at_or s at (sym y ∙ h)) (omega arith)

  -- None.
  pub here_none : (b ≡ code "*" → ⊥) → (OneOf sums b → ⊥) → (OneOf doubles b → ⊥)
      → Leaf goes_on (Got at 0) s operator_here at 0
  unfolding operator_here parse
  here_none h k l =
      let none : read_at s operator_here at ≡ got false nil at =
      rw (
        Lex.byte_not y h,
        Lex.byte_not y (λ x. k (inl x)),
        Lex.byte_not y (λ x. k (inr x)),
        Lex.byte_not y (λ x. l (inl x)),
        Lex.byte_not y (λ x. l (inr x)),
      ) in
      Lex.leaf_done goes_on s operator_here at 0 at 0 none refl (omega arith)

-- `+` and `-` are below 256,
pub sum_small : {b c : ℕ} → OneOf sums b → c ≡ b → c < 256
sum_small (inl h) e = omega arith
sum_small (inr h) e = omega arith

-- and so are `&` and `|`.
pub double_small : {b c : ℕ} → OneOf doubles b → c ≡ b → c < 256
double_small (inl h) e = omega arith
double_small (inr h) e = omega arith

pub ruleset here_steps = (results, here_star, here_sum, here_double, here_none)

pub ruleset here_asked = (results, sum_small, double_small)

-- ---- an operator with the blanks around it

-- What an operator read at a place behind the blanks o, which begin at `at`, says of the whole.
abbrev around : List ℕ → Forest → ℕ → Answer → Answer
around s o at (got true u p) = behind o (behind u (read_at s blanks p))
around s o at (got false u p) = got false nil at
around s o at (trouble n a b c d) = trouble n a b c d

module _ (s : List ℕ) (o : Forest) (at : ℕ) where
  -- An operator that goes on, and the blanks behind it.
  around_is : (g : Rule) (q : ℕ) → goes g ≡ true
      → behind o (read_at s (g ⨾ blanks) q) ≡ around s o at (read_at s g q)
  unfolding parse
  around_is g q h = go (read_at s g q) (on s (suc (length s)) g h 0 q)
    where
      go : (x : Answer) → Goes x
          → behind o (Next x (read_at s blanks)) ≡ around s o at x
      go (got true u p) k = refl
      go (got false u p) k = never k
      go (trouble n a b c d) k = refl

-- The rule without blanks, by the byte here.
here_picks : (s : List ℕ) (q : ℕ) → read_at s operator_here q
    ≡ pick (is "*" (byte_at s q)) (read_at s times q)
    (pick ((is "+" or is "-") (byte_at s q)) (read_at s plus_minus q)
    (pick (is "&" (byte_at s q)) (read_at s and_and q)
    (pick (is "|" (byte_at s q)) (read_at s or_or q) (got false nil q))))
unfolding operator_here parse
here_picks s q = refl

module _ (s : List ℕ) (at : ℕ) {o : Forest} {q : ℕ} (h : read_at s blanks at ≡ got true o q) where
  -- The rule with blanks, by the byte behind those that were looked over.
  operator_picks : read_at s operator at
      ≡ pick (is "*" (byte_at s q)) (behind o (read_at s (times ⨾ blanks) q))
      (pick ((is "+" or is "-") (byte_at s q)) (behind o (read_at s (plus_minus ⨾ blanks) q))
      (pick (is "&" (byte_at s q)) (behind o (read_at s (and_and ⨾ blanks) q))
      (pick (is "|" (byte_at s q)) (behind o (read_at s (or_or ⨾ blanks) q)) (got false nil at))))
  unfolding operator
  operator_picks =
      let F = suc (length s) in
      choice_behind s F 0 at h (is "*") (times ⨾ blanks) _
      (choice_behind s F 0 at h (is "+" or is "-") (plus_minus ⨾ blanks) _
      (choice_behind s F 0 at h (is "&") (and_and ⨾ blanks) _
      (choice_behind s F 0 at h (is "|") (or_or ⨾ blanks) stop (stops_at s at))))

  -- So the one is the other with blanks around it.
  whole : read_at s operator at ≡ around s o at (read_at s operator_here q)
  whole =
      operator_picks
      ∙ go (is "*" (byte_at s q)) ((is "+" or is "-") (byte_at s q)) (is "&" (byte_at s q)) (is "|" (byte_at s q))
      ∙ ap (around s o at) (sym (here_picks s q))
    where
      go : (x y z w : Bool)
          → pick x (behind o (read_at s (times ⨾ blanks) q))
          (pick y (behind o (read_at s (plus_minus ⨾ blanks) q))
          (pick z (behind o (read_at s (and_and ⨾ blanks) q))
          (pick w (behind o (read_at s (or_or ⨾ blanks) q)) (got false nil at))))
          ≡ around s o at (pick x (read_at s times q) (pick y (read_at s plus_minus q)
          (pick z (read_at s and_and q) (pick w (read_at s or_or q) (got false nil q)))))
      go true y z w = around_is s o at times q goes_times
      go false true z w = around_is s o at plus_minus q goes_plus_minus
      go false false true w = around_is s o at and_and q goes_and
      go false false false true = around_is s o at or_or q goes_or
      go false false false false = refl

module _ {s : List ℕ} {at : ℕ} {r : Ans} (l : Leaf nothing r s blanks at 0) where
  -- The blanks refuse.
  pub operator_stops : {n a b c d : ℕ} → r ≡ No n a b c d → Leaf goes_on r s operator at 0
  unfolding operator
  operator_stops h =
      Lex.leaf_stop goes_on s operator at 0 h
      (after_no s (suc (length s)) blanks 0 at (Lex.leaf_no l h) (is "*") _ _)

  module _ {q j : ℕ} (h : r ≡ Got q j) {r₂ : Ans} (l₂ : Leaf goes_on r₂ s operator_here q 0) where
    behind_blanks : read_at s operator at ≡ around s (out_of (read_at s blanks at)) at (read_at s operator_here q)
    behind_blanks = whole s at (Lex.leaf_got goes_blanks l h)

    -- The operator refuses.
    pub operator_refused : {n a b c d : ℕ} → r₂ ≡ No n a b c d → Leaf goes_on r₂ s operator at 0
    operator_refused h₂ =
        Lex.leaf_stop goes_on s operator at 0 h₂
        (behind_blanks ∙ ap (around s (out_of (read_at s blanks at)) at) (Lex.leaf_no l₂ h₂))

    module _ {p m : ℕ} (h₂ : r₂ ≡ Got p m) where
      -- None is there: nothing is passed.
      pub operator_none : m ≡ 0 → Leaf goes_on (Got at 0) s operator at 0
      operator_none e =
          let far = l.far _ _ h in
          Lex.leaf_done goes_on s operator at 0 at 0
          (behind_blanks ∙ ap (around s (out_of (read_at s blanks at)) at) (told_stop l₂ h₂ e))
          refl (omega arith)

      -- One is.
      module _ (e : m ≡ 0 → ⊥) {r₃ : Ans} (l₃ : Leaf nothing r₃ s blanks p 0) where
        behind_operator : read_at s operator at
            ≡ behind (out_of (read_at s blanks at)) (behind (out_of (read_at s operator_here q)) (read_at s blanks p))
        behind_operator =
            behind_blanks ∙ ap (around s (out_of (read_at s blanks at)) at) (told_goes l₂ h₂ e)

        -- The blanks behind it refuse.
        pub operator_then_stops : {n a b c d : ℕ} → r₃ ≡ No n a b c d → Leaf goes_on r₃ s operator at 0
        operator_then_stops h₃ =
            Lex.leaf_stop goes_on s operator at 0 h₃
            (behind_operator
            ∙ ap (λ (x : Answer). behind (out_of (read_at s blanks at)) (behind (out_of (read_at s operator_here q)) x))
            (Lex.leaf_no l₃ h₃))

        -- They are passed.
        pub operator_is : {z k y : ℕ} → r₃ ≡ Got z k → y ≡ z → Leaf goes_on (Got y 1) s operator at 0
        operator_is {z} h₃ ez =
            let far = l.far _ _ h in
            let far₂ = l₂.far _ _ h₂ in
            let far₃ = l₃.far _ _ h₃ in
            rw ez
            (Lex.leaf_done goes_on s operator at 0 z 1
            (behind_operator
            ∙ ap (λ (x : Answer). behind (out_of (read_at s blanks at)) (behind (out_of (read_at s operator_here q)) x))
            (Lex.leaf_got goes_blanks l₃ h₃))
            refl (omega arith))

pub ruleset operator_steps =
    (results, operator_stops, operator_refused, operator_none, operator_then_stops, operator_is)

pub ruleset operator_asked = (results, leaf_inside)
