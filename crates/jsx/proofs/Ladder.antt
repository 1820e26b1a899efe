-- Document 01's levels of binary operators read the same as one flat loop over unaries.
use mathlib.Core.Path.{◌≡◌, refl, sym, ap, subst, ◌∙◌}
use mathlib.Core.Bool.{Bool, true, false}
use mathlib.Core.List.{List, [], ◌∷◌}
use Prim.Native.Nat.{ℕ, ◌≤◌, ◌<◌}
use Prim.Native.Char.{Char, code}
use lib.ListN.{length}
use borrow.Author.Tests.{eqb-true}
use Rattle.rules.specs.Rule.{Test, Rule, done, stop, after, many, ◌⨾◌, ◌⇒◌∣◌}
use Rattle.rules.specs.Parse.{Answer, parse}
use Rattle.rules.proofs.Run.{goes, never}
use Rattle.rules.proofs.Moves.{moves}
use Rattle.rules.proofs.Flat.{Next, Operator, sound, sound_steady, ladder_flat, Shuffle, keep, swap, also}
use Rattle.rules.proofs.Flat.{flat_shuffled}
use Rattle.jsx.specs.Byte.{is, ◌or◌}
use Rattle.jsx.specs.Blank.{blanks}
use Rattle.jsx.specs.Expression.{Inner, unary, joined_turn, joined, times, plus_minus, and_and, or_or, product, sum}
use Rattle.jsx.specs.Expression.{both, either, question, conditional}
use Rattle.jsx.specs.Depth.{within}
use Rattle.jsx.proofs.Goes.{within_goes, unary_goes}
use Rattle.jsx.proofs.Shape.{blanks_goes}

-- ---- the flat loop

-- An operator and one more unary.
abbrev pub next_unary : Rule → Inner → Rule
next_unary operator n = blanks ⨾ operator ⨾ blanks ⨾ unary n

-- One turn: any of the operators, the tightest tried first, and one more unary.
unfoldable pub flat_turn : Inner → Rule
flat_turn n =
    after blanks (is "*") ⇒ next_unary times n
    ∣ after blanks (is "+" or is "-") ⇒ next_unary plus_minus n
    ∣ after blanks (is "&") ⇒ next_unary and_and n
    ∣ after blanks (is "|") ⇒ next_unary or_or n
    ∣ stop

-- Unaries with any of the operators between them.
unfoldable pub flat_either : Inner → Rule
flat_either n = unary n ⨾ many (flat_turn n)

-- One turn, with the loosest operator tried first.
unfoldable pub loose_turn : Inner → Rule
loose_turn n =
    after blanks (is "|") ⇒ next_unary or_or n
    ∣ after blanks (is "&") ⇒ next_unary and_and n
    ∣ after blanks (is "+" or is "-") ⇒ next_unary plus_minus n
    ∣ after blanks (is "*") ⇒ next_unary times n
    ∣ stop

-- Unaries with any of the operators between them, the loosest tried first.
unfoldable pub loose_either : Inner → Rule
loose_either n = unary n ⨾ many (loose_turn n)

-- ---- the levels, flat

abbrev times_op : Operator
times_op = record { begins = is "*"; token = times }

abbrev plus_minus_op : Operator
plus_minus_op = record { begins = is "+" or is "-"; token = plus_minus }

abbrev and_and_op : Operator
and_and_op = record { begins = is "&"; token = and_and }

abbrev or_or_op : Operator
or_or_op = record { begins = is "|"; token = or_or }

-- From the tightest on.
abbrev operators : List Operator
operators = times_op ∷ plus_minus_op ∷ and_and_op ∷ or_or_op ∷ []

operators_sound : sound operators ≡ true
unfolding goes moves times plus_minus and_and or_or
operators_sound = refl

-- A byte that begins an operator begins no other.
is_apart : (c : Char) (f : Test) → f (code c) ≡ false → (b : ℕ) → is c b ≡ true → f b ≡ false
is_apart c f h b e = subst (λ (m : ℕ). f m ≡ false) (sym (eqb-true b (code c) e)) h

apart_back : (f g : Test) → ((b : ℕ) → f b ≡ true → g b ≡ false) → (b : ℕ) → g b ≡ true → f b ≡ false
apart_back f g h b e = go (f b) (h b)
  where
    go : (c : Bool) → (c ≡ true → g b ≡ false) → c ≡ false
    go true k = never (sym (k refl) ∙ e)
    go false k = refl

-- The four operators the other way round.
reversed : (s : List ℕ) (F e : ℕ) → Shuffle blanks s F e operators
    (or_or_op ∷ and_and_op ∷ plus_minus_op ∷ times_op ∷ [])
reversed s F e =
    also (keep (keep (swap (is_apart "&" (is "|") refl))))
    (also (keep (swap (apart_back (is "|") (is "+" or is "-") (is_apart "|" (is "+" or is "-") refl))))
    (also (swap (is_apart "*" (is "|") refl))
    (also (keep (keep (swap (apart_back (is "&") (is "+" or is "-") (is_apart "&" (is "+" or is "-") refl)))))
    (also (keep (swap (is_apart "*" (is "&") refl)))
    (keep (keep (swap (is_apart "*" (is "+" or is "-") refl))))))))

-- The loop may try the loosest operator first.
pub flat_loose : (n : Inner) (s : List ℕ) (F e at : ℕ)
    → parse s F (flat_either n) e at ≡ parse s F (loose_either n) e at
unfolding flat_either flat_turn loose_either loose_turn
flat_loose n s F e at = flat_shuffled blanks s F e (reversed s F e) (unary n) at

module _ (d : ℕ) (s : List ℕ) (F e : ℕ) (enough : length s < F) (at : ℕ) (inside : at ≤ length s) where
  -- Products, sums, boths and eithers read the same as one loop, whatever the answer;
  pub either_flat : parse s F (either (within d)) e at ≡ parse s F (flat_either (within d)) e at
  unfolding either both sum product joined joined_turn flat_either flat_turn
  either_flat =
      ladder_flat blanks s F e enough (unary (within d)) operators (sound_steady blanks (unary (within d)) blanks_goes
      (unary_goes (within d) (within_goes d)) operators operators_sound) at inside

  -- also as the loop that tries the loosest operator first.
  pub either_loose : parse s F (either (within d)) e at ≡ parse s F (loose_either (within d)) e at
  either_loose = either_flat ∙ flat_loose (within d) s F e at

  -- So does a conditional: the loop, then a `?` or nothing.
  pub conditional_flat : parse s F (conditional (within d)) e at
      ≡ parse s F (flat_either (within d) ⨾ (after blanks (is "?") ⇒ blanks ⨾ question (within d) ∣ done)) e at
  unfolding conditional parse
  conditional_flat =
      ap (λ (x : Answer). Next x (parse s F (after blanks (is "?") (blanks ⨾ question (within d)) done) e)) either_flat
