-- What may be entered with d levels left, by the pieces that the code reads.
use mathlib.Core.Path.{◌≡◌, refl, sym, ◌∙◌}
use mathlib.Core.Bool.{false}
use mathlib.Core.List.{List}
use Prim.Native.Char.{code}
use Prim.Native.Nat.{ℕ, zero, suc, ◌-◌}
use native.Mathlib.Omega.{arith}
use lib.ListN.{length}
use Rattle.rules.specs.Rule.{Rule, step, when, after, ◌⨾◌, ◌⇒◌∣◌}
use Rattle.rules.specs.Parse.{Answer, got, trouble, behind, parse, read_at, pick}
use Rattle.rules.proofs.Flat.{seq_assoc}
use Rattle.jsx.specs.Refusal.{too_deep}
use Rattle.jsx.specs.Kind as Kind
use Rattle.jsx.specs.Byte.{is, expect}
use Rattle.jsx.specs.Blank.{blanks, pass}
use Rattle.jsx.specs.Expression.{Inner, conditional, unary, paren_in, bracket_in, call_in, prefix_in, choice_in}
use Rattle.jsx.specs.Braces.{container, spread, empty_braces, empty_value_braces, value_braces_in, child_braces_in}
use Rattle.jsx.specs.Element.{fragment_in, named_in, element_in}
use Rattle.jsx.specs.Depth.{element_too_deep, no_level, level, within}
use Rattle.tag.specs.Token.{close_by}
use Rattle.token.specs.Token.{parted}
use Rattle.reader.specs.Cut.{group_by, arguments, arms_of}

-- Behind a rule, another that reads the same.
pub seq_under : (s : List ℕ) (t u v : Rule) (at : ℕ)
    → ((p : ℕ) → read_at s u p ≡ read_at s v p)
    → read_at s (t ⨾ u) at ≡ read_at s (t ⨾ v) at
unfolding parse
seq_under s t u v at e =
    λ i. Rattle.rules.specs.Parse.and_then (read_at s t at) (λ a o p. pick a (behind o (e p i)) (got false o p))

-- The arms of a choice, with what stands between them as one piece.
arms_cut : (s : List ℕ) (n : Inner) (p : ℕ)
    → read_at s (conditional n ⨾ blanks ⨾ expect ":" ⨾ blanks ⨾ conditional n) p ≡ read_at s (arms_of n) p
unfolding arms_of parted
arms_cut s n p =
    let F = suc (length s) in
    let c = conditional n in
    seq_under s c (blanks ⨾ expect ":" ⨾ blanks ⨾ c) ((blanks ⨾ expect ":" ⨾ blanks) ⨾ c) p (λ q.
    sym (seq_assoc s F blanks (expect ":" ⨾ blanks) c 0 q
    ∙ seq_under s blanks ((expect ":" ⨾ blanks) ⨾ c) (expect ":" ⨾ blanks ⨾ c) q (λ z.
    seq_assoc s F (expect ":") blanks c 0 z)))

-- ---- no level is left

module _ (s : List ℕ) (at d : ℕ) (h : d ≡ 0) where
  abbrev deep : Answer
  deep = trouble too_deep at at 0 0

  -- No parenthesis or bracket is entered,
  pub group_deep : (c : ℕ) → read_at s (group_by c d) at ≡ deep
  unfolding group_by parse
  group_deep c = rw h

  -- no call,
  pub call_deep : read_at s (within d).call at ≡ deep
  unfolding within no_level parse
  call_deep = rw h

  -- no prefix operator,
  pub prefix_deep : read_at s (within d).prefix at ≡ deep
  unfolding within no_level parse
  prefix_deep = rw h

  -- no choice,
  pub choice_deep : read_at s (within d).choice at ≡ deep
  unfolding within no_level parse
  choice_deep = rw h

  -- no braces as a value,
  pub value_braces_deep : read_at s (within d).value_braces at ≡ deep
  unfolding within no_level parse
  value_braces_deep = rw h

  -- no spread among attributes,
  pub spread_braces_deep : read_at s (within d).spread_braces at ≡ deep
  unfolding within no_level parse
  spread_braces_deep = rw h

  -- no braces as a child,
  pub child_braces_deep : read_at s (within d).child_braces at ≡ deep
  unfolding within no_level parse
  child_braces_deep = rw h

  -- and no element: that is said once a name or `>` is seen.
  pub element_deep : read_at s (within d).element at ≡ read_at s element_too_deep at
  unfolding within no_level
  element_deep = rw h

-- ---- a level is left

-- The levels inside.
pub deeper : (d : ℕ) → (d ≡ 0 → ⊥) → (P : ℕ → ℕ → Type 0) → ((x : ℕ) → P (suc x) x) → P d (d - 1)
deeper zero h P f = absurd (h refl)
deeper (suc x) h P f = let e : suc x - 1 ≡ x = omega arith in rw e (f x)

module _ (s : List ℕ) (at d : ℕ) (h : d ≡ 0 → ⊥) where
  -- `(conditional)` and `[conditional]`.
  pub group_is : (c : ℕ) → read_at s (group_by c d) at ≡ read_at s (pass ⨾ conditional (within (d - 1)) ⨾ close_by c) at
  unfolding group_by
  group_is c =
      deeper d h
      (λ x y. read_at s (group_by c x) at ≡ read_at s (pass ⨾ conditional (within y) ⨾ close_by c) at)
      (λ x. refl)

  -- `!` or `-`, and a unary.
  pub prefix_is : read_at s (within d).prefix at ≡ read_at s (pass ⨾ unary (within (d - 1))) at
  unfolding within level prefix_in
  prefix_is =
      deeper d h
      (λ x y. read_at s (within x).prefix at ≡ read_at s (pass ⨾ unary (within y)) at)
      (λ x. refl)

  -- A call: nothing, or arguments.
  pub call_is : read_at s (within d).call at
      ≡ read_at s (pass ⨾ (when (is ")") ⇒ step ∣ arguments (within (d - 1)))) at
  unfolding within level call_in arguments
  call_is =
      deeper d h
      (λ x y. read_at s (within x).call at ≡ read_at s (pass ⨾ (when (is ")") ⇒ step ∣ arguments (within y))) at)
      (λ x. refl)

  -- A choice: its `?`, and its arms.
  pub choice_is : read_at s (within d).choice at ≡ read_at s (pass ⨾ arms_of (within (d - 1))) at
  unfolding within level choice_in
  choice_is =
      deeper d h (λ x y. read_at s (within x).choice at ≡ read_at s (pass ⨾ arms_of (within y)) at)
      (λ x. seq_under s pass (conditional (within x) ⨾ blanks ⨾ expect ":" ⨾ blanks ⨾ conditional (within x))
      (arms_of (within x)) at (arms_cut s (within x)))

  -- Braces as a value: empty, or an expression.
  pub value_braces_is : read_at s (within d).value_braces at
      ≡ read_at s (after pass (is "}") ⇒ empty_value_braces ∣ container (within (d - 1))) at
  unfolding within level value_braces_in
  value_braces_is =
      deeper d h
      (λ x y. read_at s (within x).value_braces at
      ≡ read_at s (after pass (is "}") ⇒ empty_value_braces ∣ container (within y)) at)
      (λ x. refl)

  -- A spread among attributes.
  pub spread_braces_is : read_at s (within d).spread_braces at
      ≡ read_at s (spread Kind.spread_attribute (within (d - 1))) at
  unfolding within level
  spread_braces_is =
      deeper d h
      (λ x y. read_at s (within x).spread_braces at ≡ read_at s (spread Kind.spread_attribute (within y)) at)
      (λ x. refl)

  -- Braces as a child: empty, a spread, or an expression.
  pub child_braces_is : read_at s (within d).child_braces at
      ≡ read_at s (after pass (is "}") ⇒ empty_braces ∣ after pass (is ".") ⇒ spread Kind.spread_child (within (d - 1))
      ∣ container (within (d - 1))) at
  unfolding within level child_braces_in
  child_braces_is =
      deeper d h
      (λ x y. read_at s (within x).child_braces at
      ≡ read_at s (after pass (is "}") ⇒ empty_braces ∣ after pass (is ".") ⇒ spread Kind.spread_child (within y)
      ∣ container (within y)) at)
      (λ x. refl)

  -- A fragment, or an element with a name.
  pub element_is : read_at s (within d).element at
      ≡ read_at s (after pass (is ">") ⇒ fragment_in (d - 1) (within (d - 1)) ∣ named_in (d - 1) (within (d - 1))) at
  unfolding within level element_in
  element_is =
      deeper d h
      (λ x y. read_at s (within x).element at
      ≡ read_at s (after pass (is ">") ⇒ fragment_in y (within y) ∣ named_in y (within y)) at)
      (λ x. refl)

-- Parentheses and brackets, at any depth.
pub paren_group : (s : List ℕ) (at d : ℕ) → read_at s (within d).paren at ≡ read_at s (group_by (code ")") d) at
unfolding within level no_level paren_in group_by close_by expect
paren_group s at zero = refl
paren_group s at (suc d) = refl

-- So are brackets.
pub bracket_group : (s : List ℕ) (at d : ℕ) → read_at s (within d).bracket at ≡ read_at s (group_by (code "]") d) at
unfolding within level no_level bracket_in group_by close_by expect
bracket_group s at zero = refl
bracket_group s at (suc d) = refl
