-- What was looked over is read again, the same. For every grammar.
use mathlib.Core.Path.{◌≡◌, refl, sym, ap, ◌∙◌}
use mathlib.Core.Bool.{Bool, true}
use mathlib.Core.List.{List}
use Prim.Native.Nat.{ℕ, ◌+◌, ◌<◌}
use lib.ListN.{length}
use borrow.Author.Tests.{lt-ltb}
use Rattle.rules.specs.Forest.{Label, Forest, nil, byte, group, ◌⋈◌}
use Rattle.rules.specs.Rule.{Test, Rule, step, after, seq, wrap, marked}
use Rattle.rules.specs.Parse.{Answer, got, trouble, pick, and_then, behind, byte_at, parse}
use Rattle.rules.proofs.Mark.{any_mark}
use Rattle.rules.proofs.Flat.{seq_assoc}

-- An answer with a group around what was read.
abbrev pub grouped : (Forest → Label) → Answer → Answer
grouped l x = and_then x (λ a u p. got a (group (l u) u nil) p)

module _ (s : List ℕ) (F : ℕ) where
  -- A byte that is there is read.
  pub step_got : (e at : ℕ) → at < length s → parse s F step e at ≡ got true (byte (byte_at s at) nil) (at + 1)
  unfolding parse
  step_got e at h = rw (lt-ltb at (length s) h)

  -- A group is around what the rule in it reads.
  pub wrap_answer : (l : Forest → Label) (t : Rule) (e at : ℕ)
      → parse s F (wrap l t) e at ≡ grouped l (parse s F t e at)
  unfolding parse
  wrap_answer l t e at = refl

  module _ (r : Rule) (e at : ℕ) where
    -- ---- what a rule got

    module _ {a : Bool} {o : Forest} {q : ℕ} (h : parse s F r e at ≡ got a o q) where
      -- it gets in a group,
      pub wrap_got : (l : Forest → Label) → parse s F (wrap l r) e at ≡ got a (group (l o) o nil) q
      unfolding parse
      wrap_got l = ap (grouped l) h

      -- and under another mark;
      pub marked_got : (e' : ℕ) → parse s F (marked r) e' at ≡ got a o q
      unfolding parse
      marked_got e' = any_mark s F r e at at h

      -- and a look at it is one question about the byte behind it.
      pub after_got : (f : Test) (t u : Rule)
          → parse s F (after r f t u) e at ≡ pick (f (byte_at s q)) (parse s F t e at) (parse s F u e at)
      unfolding parse
      after_got f t u = rw h

      -- The same, from what the two choices answer.
      pub choice_got : (f : Test) (t u : Rule) {x y : Answer}
          → parse s F t e at ≡ x
          → parse s F u e at ≡ y
          → parse s F (after r f t u) e at ≡ pick (f (byte_at s q)) x y
      choice_got f t u k l = after_got f t u ∙ (λ i. pick (f (byte_at s q)) (k i) (l i))

    -- ---- what a rule got and went on from

    module _ {o : Forest} {q : ℕ} (h : parse s F r e at ≡ got true o q) where
      -- it gets in front of any rule,
      pub again : (t : Rule) → parse s F (seq r t) e at ≡ behind o (parse s F t e q)
      unfolding parse
      again t = rw h

      -- in a group,
      pub again_wrap : (l : Forest → Label) (t : Rule)
          → parse s F (wrap l (seq r t)) e at ≡ grouped l (behind o (parse s F t e q))
      again_wrap l t = wrap_answer l (seq r t) e at ∙ ap (grouped l) (again t)

      -- in a group of its own,
      pub again_own : (l : Forest → Label) (t : Rule)
          → parse s F (seq (wrap l r) t) e at ≡ behind (group (l o) o nil) (parse s F t e q)
      unfolding parse
      again_own l t = rw h

      -- and under a mark of its own.
      pub again_marked : (t : Rule) → parse s F (marked (seq r t)) e at ≡ behind o (parse s F t at q)
      unfolding parse
      again_marked t = rw (any_mark s F r e at at h)

    -- ---- what a rule refuses is refused by a look at it, and in front of any rule

    module _ {n a b c d : ℕ} (h : parse s F r e at ≡ trouble n a b c d) where
      -- A look that is refused is the answer.
      pub after_no : (f : Test) (t u : Rule) → parse s F (after r f t u) e at ≡ trouble n a b c d
      unfolding parse
      after_no f t u = rw h

      -- So is a first rule that is refused,
      pub seq_no : (t : Rule) → parse s F (seq r t) e at ≡ trouble n a b c d
      unfolding parse
      seq_no t = rw h

      -- and what is refused in a group.
      pub wrap_no : (l : Forest → Label) → parse s F (wrap l r) e at ≡ trouble n a b c d
      unfolding parse
      wrap_no l = rw h

  -- Two rules, one after the other, from what each of them got.
  pub two_got : (r t : Rule) (e at : ℕ) {o u : Forest} {p q : ℕ} {a : Bool}
      → parse s F r e at ≡ got true o p
      → parse s F t e p ≡ got a u q
      → parse s F (seq r t) e at ≡ got a (o ⋈ u) q
  two_got r t e at {o} h k = again r e at h t ∙ ap (behind o) k

  -- Two rules that were looked over, in front of any rule.
  pub again_two : (r r₂ t : Rule) (e at : ℕ) {o : Forest} {q : ℕ}
      → parse s F (seq r r₂) e at ≡ got true o q
      → parse s F (seq r (seq r₂ t)) e at ≡ behind o (parse s F t e q)
  again_two r r₂ t e at h = sym (seq_assoc s F r r₂ t e at) ∙ again (seq r r₂) e at h t
