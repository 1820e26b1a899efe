-- The definition's rules, by the pieces that the code reads: loops by turns of a leaf and a reader, and rules by two
-- readers one behind the other.
use mathlib.Core.Path.{◌≡◌, refl, sym, ap, ◌∙◌}
use mathlib.Core.Bool.{Bool, true, false}
use mathlib.Core.List.{List}
use Prim.Native.Nat.{ℕ, suc, ◌≤◌}
use native.Mathlib.Omega.{arith}
use lib.ListN.{length}
use Rattle.rules.specs.Forest.{Forest}
use Rattle.rules.specs.Rule.{Test, Rule, done, stop, when, after, many, ◌⨾◌}
use Rattle.rules.specs.Parse.{Answer, got, trouble, pick, and_then, behind, byte_at, parse, repeat, read_at}
use Rattle.rules.proofs.Run.{goes, behind_none, repeat_same}
use Rattle.rules.proofs.Got.{going}
use Rattle.rules.proofs.Flat.{seq_assoc, Next}
use Rattle.jsx.specs.Byte.{is, ◌or◌}
use Rattle.jsx.specs.Blank.{blanks, pass}
use Rattle.jsx.specs.Expression.{Inner, primary, postfix_turn, postfix, unary, either, times, plus_minus, and_and}
use Rattle.jsx.specs.Expression.{or_or}
use Rattle.jsx.specs.Expression.{conditional, argument_turn}
use Rattle.jsx.specs.Tag.{attribute, attribute_turn, attributes}
use Rattle.jsx.specs.Depth.{within}
use Rattle.jsx.proofs.Ladder.{flat_turn, flat_either, either_flat}
use Rattle.lex.proofs.Bare.{goes_blanks}
use Rattle.token.specs.Token.{operator, suffixed, comma, attribute_at, dot_word}
use Rattle.reader.specs.Cut.{tail_of, operand_turn}
use Rattle.token.proofs.Rules as K
use Rattle.reader.proofs.Rules as R
use Rattle.reader.proofs.Levels.{seq_under}
use Rattle.reader.proofs.Steps.{Loops, Turns, Splits, Begins, begins}

-- ---- a rule behind a choice

-- A rule behind two others stands behind the one that is picked.
picked : (s : List ℕ) (p : ℕ) (A B C D R : Rule)
    → read_at s C p ≡ read_at s (A ⨾ R) p
    → read_at s D p ≡ read_at s (B ⨾ R) p
    → (c : Bool) → pick c (read_at s C p) (read_at s D p) ≡ Next (pick c (read_at s A p) (read_at s B p)) (read_at s R)
unfolding parse
picked s p A B C D R x y true = x
picked s p A B C D R x y false = y

-- A rule behind a choice by the byte here stands behind each side.
pub when_seq : (s : List ℕ) (p : ℕ) (f : Test) (A B C D R : Rule)
    → read_at s C p ≡ read_at s (A ⨾ R) p
    → read_at s D p ≡ read_at s (B ⨾ R) p
    → read_at s (when f C D) p ≡ read_at s (when f A B ⨾ R) p
unfolding parse
when_seq s p f A B C D R x y = picked s p A B C D R x y (f (byte_at s p))

-- So does a rule behind a choice by the byte behind what is looked over.
pub after_seq : (s : List ℕ) (p : ℕ) (l : Rule) (f : Test) (A B C D R : Rule)
    → read_at s C p ≡ read_at s (A ⨾ R) p
    → read_at s D p ≡ read_at s (B ⨾ R) p
    → read_at s (after l f C D) p ≡ read_at s (after l f A B ⨾ R) p
unfolding parse
after_seq s p l f A B C D R x y = by (read_at s l p)
  where
    by : (z : Answer)
        → and_then z (λ a o q. pick (f (byte_at s q)) (read_at s C p) (read_at s D p))
        ≡ Next (and_then z (λ a o q. pick (f (byte_at s q)) (read_at s A p) (read_at s B p))) (read_at s R)
    by (got a o q) = picked s p A B C D R x y (f (byte_at s q))
    by (trouble n a b c d) = refl

-- Nothing is read behind a `stop`.
pub stop_seq : (s : List ℕ) (p : ℕ) (R : Rule) → read_at s stop p ≡ read_at s (stop ⨾ R) p
unfolding parse
stop_seq s p R = refl

-- All is read behind `done`.
pub done_seq : (s : List ℕ) (p : ℕ) (R : Rule) → read_at s R p ≡ read_at s (done ⨾ R) p
unfolding parse
done_seq s p R = sym (behind_none (read_at s R p))

-- Three pieces in front of a rule, as one.
three_seq : (s : List ℕ) (p : ℕ) (a b c R : Rule) → read_at s (a ⨾ b ⨾ c ⨾ R) p ≡ read_at s ((a ⨾ b ⨾ c) ⨾ R) p
three_seq s p a b c R =
    let F = suc (length s) in
    sym (seq_assoc s F a (b ⨾ c) R 0 p ∙ seq_under s a ((b ⨾ c) ⨾ R) (b ⨾ c ⨾ R) p (λ q. seq_assoc s F b c R 0 q))

-- ---- loops

module _ (s : List ℕ) (d : ℕ) where
  abbrev n : Inner
  n = within d

  -- Conditionals behind commas.
  pub more_loops : Loops s (many (argument_turn (within d))) comma (conditional (within d))
  unfolding argument_turn comma
  more_loops = record {
    turn = argument_turn n;
    is = refl;
    same = λ p h. seq_under s blanks (when (is ",") (pass ⨾ conditional n) stop)
        (when (is ",") pass stop ⨾ conditional n) p
        (λ q. when_seq s q (is ",") pass stop (pass ⨾ conditional n) stop (conditional n) refl
        (stop_seq s q (conditional n)))
        ∙ sym (seq_assoc s (suc (length s)) blanks (when (is ",") pass stop) (conditional n) 0 p);
    bytes = K.bare_comma;
    on = R.goes_cond d;
  }

  -- Attributes.
  pub attrs_loops : Loops s (attributes (within d)) attribute_at (attribute (within d))
  unfolding attributes attribute_turn attribute_at
  attrs_loops = record {
    turn = attribute_turn n;
    is = refl;
    same = λ p h. seq_under s blanks (when (is "/" or is ">") stop (attribute n))
        (when (is "/" or is ">") stop done ⨾ attribute n) p
        (λ q. when_seq s q (is "/" or is ">") stop done stop (attribute n) (attribute n) (stop_seq s q (attribute n))
        (done_seq s q (attribute n)))
        ∙ sym (seq_assoc s (suc (length s)) blanks (when (is "/" or is ">") stop done) (attribute n) 0 p);
    bytes = K.bare_attribute_at;
    on = R.goes_attribute d;
  }

  -- Unaries behind operators.
  pub joins_loops : Loops s (many (operand_turn (within d))) operator (unary (within d))
  unfolding operand_turn
  joins_loops = record {
    turn = operand_turn n;
    is = refl;
    same = λ p h. refl;
    bytes = K.bare_operator;
    on = R.goes_unary d;
  }

  -- A turn of the flat loop is an operator, and a unary.
  flat_operand : (p : ℕ) → read_at s (flat_turn (within d)) p ≡ read_at s (operand_turn (within d)) p
  unfolding flat_turn operand_turn operator
  flat_operand p =
      let u = unary n in
      after_seq s p blanks (is "*") _ _ _ _ u (three_seq s p blanks times blanks u)
      (after_seq s p blanks (is "+" or is "-") _ _ _ _ u (three_seq s p blanks plus_minus blanks u)
      (after_seq s p blanks (is "&") _ _ _ _ u (three_seq s p blanks and_and blanks u)
      (after_seq s p blanks (is "|") _ _ _ _ u (three_seq s p blanks or_or blanks u) (stop_seq s p u))))

  -- Every level from `*` to `||`.
  pub either_splits : {at : ℕ} → at ≤ length s
      → Splits s (either (within d)) at (unary (within d)) (many (operand_turn (within d)))
  unfolding flat_either goes parse repeat
  either_splits {at} h = record {
    same = either_flat d s (suc (length s)) 0 (omega arith) at h
        ∙ seq_under s (unary n) (many (flat_turn n)) (many (operand_turn n)) at many_same;
    first = R.goes_unary d;
    second = refl;
  }
    where
      many_same : (p : ℕ) → read_at s (many (flat_turn n)) p ≡ read_at s (many (operand_turn n)) p
      many_same p = repeat_same (parse s (suc (length s)) (flat_turn n) 0) (parse s (suc (length s)) (operand_turn n) 0)
          flat_operand (suc (length s)) p

  -- A primary, and what stands behind it.
  pub postfix_splits : {at : ℕ} → Splits s (postfix (within d)) at (primary (within d)) (many (postfix_turn (within d)))
  unfolding postfix goes
  postfix_splits = record { same = refl; first = R.goes_primary d; second = refl }

-- A turn behind a primary is the blanks before it, and then it.
tail_cut : (s : List ℕ) (n : Inner) (p : ℕ) → read_at s (postfix_turn n) p ≡ read_at s (suffixed ⨾ tail_of n) p
unfolding postfix_turn suffixed tail_of dot_word parse
tail_cut s i p = by (read_at s blanks p) refl
  where
    Same : Type 0
    Same = read_at s (postfix_turn i) p ≡ read_at s (suffixed ⨾ tail_of i) p

    three : (o : Forest) (q : ℕ) → read_at s blanks p ≡ got true o q
        → (x : Bool) → is "." (byte_at s q) ≡ x
        → (y : Bool) → is "[" (byte_at s q) ≡ y
        → (z : Bool) → is "(" (byte_at s q) ≡ z
        → Same
    three o q e true e₁ y e₂ z e₃ =
        let dot : read_at s (tail_of i) q ≡ read_at s dot_word q = rw e₁ in
        rw (e, e₁) (ap (behind o) (sym dot))
    three o q e false e₁ true e₂ z e₃ =
        let bracket : read_at s (tail_of i) q ≡ read_at s i.bracket q = rw (e₁, e₂) in
        rw (e, e₁, e₂) (ap (behind o) (sym bracket))
    three o q e false e₁ false e₂ true e₃ =
        let call : read_at s (tail_of i) q ≡ read_at s i.call q = rw (e₁, e₂, e₃) in
        rw (e, e₁, e₂, e₃) (ap (behind o) (sym call))
    three o q e false e₁ false e₂ false e₃ = rw (e, e₁, e₂, e₃)

    by : (x : Answer) → read_at s blanks p ≡ x → Same
    by (got a o q) e =
        three o q (going s (suc (length s)) blanks 0 p goes_blanks e) (is "." (byte_at s q)) refl
        (is "[" (byte_at s q)) refl
        (is "(" (byte_at s q)) refl
    by (trouble a b c d f) e = rw e

-- What stands behind a primary.
pub tails_loops : (s : List ℕ) (d : ℕ) → Loops s (many (postfix_turn (within d))) suffixed (tail_of (within d))
tails_loops s d = record {
  turn = postfix_turn (within d);
  is = refl;
  same = λ p h. tail_cut s (within d) p;
  bytes = K.bare_suffixed;
  on = R.goes_tail d;
}

-- ---- what each of these reads first

module _ (s : List ℕ) (d : ℕ) where
  -- A comma is first in each turn of these,
  pub more_turns : Turns s (many (argument_turn (within d))) comma
  more_turns = record { rest = conditional (within d); loops = more_loops s d }

  -- the blanks before an attribute in these,
  pub attrs_turns : Turns s (attributes (within d)) attribute_at
  attrs_turns = record { rest = attribute (within d); loops = attrs_loops s d }

  -- an operator in these,
  pub joins_turns : Turns s (many (operand_turn (within d))) operator
  joins_turns = record { rest = unary (within d); loops = joins_loops s d }

  -- and the blanks before a suffix in these.
  pub tails_turns : Turns s (many (postfix_turn (within d))) suffixed
  tails_turns = record { rest = tail_of (within d); loops = tails_loops s d }

  -- A unary is first here,
  pub either_begins : {at : ℕ} → at ≤ length s → Begins s (either (within d)) at (unary (within d))
  either_begins h = begins (either_splits s d h)

  -- and a primary here.
  pub postfix_begins : (at : ℕ) → Begins s (postfix (within d)) at (primary (within d))
  postfix_begins at = begins (postfix_splits s d {at = at})
