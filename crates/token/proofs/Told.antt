-- Answers of leaves: the same by another rule, and what a number that tells of a stop says.
use mathlib.Core.Path.{◌≡◌, refl, ap, ◌∙◌}
use mathlib.Core.Bool.{Bool, true, false}
use mathlib.Core.List.{List}
use Prim.Native.Nat.{ℕ, ◌≤◌}
use native.Mathlib.Omega.{arith}
use Rattle.rules.specs.Forest.{Forest, nil}
use Rattle.rules.specs.Rule.{Rule, stop, starts}
use Rattle.rules.specs.Parse.{got, pick, opens, parse, read_at}
use Rattle.lex.specs.Contract.{view, out_of, Leaf}
use Rattle.lex.specs.Answer.{Ans}
use Rattle.lex.specs.Answer.{Got}
use Rattle.lex.proofs.Laws as Lex
use Rattle.tag.specs.Token.{goes_on}

-- A leaf's answer is handed up, for a rule that answers the same.
pub leaf_as : {w : Bool → Forest → ℕ} {r : Ans} {s : List ℕ} {t u : Rule} {at j : ℕ} (k : ℕ)
    → Leaf w r s t at j
    → read_at s t at ≡ read_at s u at
    → k ≤ j
    → Leaf w r s u at k
leaf_as {w} k l e i = record {
  is = l.is ∙ ap (view w) e;
  far = λ p m h. let far = l.far p m h in omega arith;
}

-- Where these bytes stand, the first rule is read.
pub starts_yes : (s w : List ℕ) (F e at : ℕ) (t u : Rule) → opens s w at ≡ true
    → parse s F (starts w t u) e at ≡ parse s F t e at
unfolding parse
starts_yes s w F e at t u h = rw h

-- Where they do not, the second is.
pub starts_no : (s w : List ℕ) (F e at : ℕ) (t u : Rule) → opens s w at ≡ false
    → parse s F (starts w t u) e at ≡ parse s F u e at
unfolding parse
starts_no s w F e at t u h = rw h

-- A stop reads nothing.
pub stops_at : (s : List ℕ) (at : ℕ) → read_at s stop at ≡ got false nil at
unfolding parse
stops_at s at = refl

-- What the number of a leaf that may stop says.
module _ {r : Ans} {s : List ℕ} {g : Rule} {at k : ℕ} (l : Leaf goes_on r s g at k) {p m : ℕ} (h : r ≡ Got p m) where
  told : (a : Bool) × (read_at s g at ≡ got a (out_of (read_at s g at)) p) × (m ≡ pick a 1 0)
  told = Lex.view_got goes_on (read_at s g at) l.is h

  -- It is 0: the rule stopped.
  pub told_stop : m ≡ 0 → read_at s g at ≡ got false (out_of (read_at s g at)) p
  told_stop n = go told
    where
      go : (a : Bool) × (read_at s g at ≡ got a (out_of (read_at s g at)) p) × (m ≡ pick a 1 0)
          → read_at s g at ≡ got false (out_of (read_at s g at)) p
      go (true, e, x) = absurd (omega arith)
      go (false, e, x) = e

  -- It is not: the rule goes on.
  pub told_goes : (m ≡ 0 → ⊥) → read_at s g at ≡ got true (out_of (read_at s g at)) p
  told_goes n = go told
    where
      go : (a : Bool) × (read_at s g at ≡ got a (out_of (read_at s g at)) p) × (m ≡ pick a 1 0)
          → read_at s g at ≡ got true (out_of (read_at s g at)) p
      go (true, e, x) = e
      go (false, e, x) = absurd (n x)
