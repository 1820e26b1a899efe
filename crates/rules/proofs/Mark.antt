-- Marks never matter to what is got: they only say where a refusal points. For every grammar.
use mathlib.Core.Path.{◌≡◌, refl, sym, ap, subst}
use mathlib.Core.Bool.{Bool, true, false}
use mathlib.Core.List.{List}
use Prim.Native.Nat.{ℕ, zero, suc, ◌+◌}
use lib.ListN.{length}
use lib.Dec.{ltb}
use Rattle.rules.specs.Forest.{content, Forest, nil, byte, group, ◌⋈◌}
use Rattle.rules.specs.Rule.{Rule, done, stop, step, refuse, when, look, after, seq, many, wrap, said, marked}
use Rattle.rules.specs.Rule.{paired}
use Rattle.rules.specs.Parse.{Answer, got, trouble, pick, and_then, behind, byte_at, stands, judged, repeat, parse}
use Rattle.rules.proofs.Run.{Then, then_refusal}

-- What the first answer got, the second got.
abbrev pub Like : Answer → Answer → Type 0
Like x y = Then x (λ a o p. y ≡ got a o p)

-- An answer and itself.
pub like_same : (x : Answer) → Like x x
like_same (got a o p) = refl
like_same (trouble n a b c d) = tt

-- One of two, by the same bit.
pub like_if : (b : Bool) (x y x' y' : Answer) → Like x x' → Like y y' → Like (pick b x y) (pick b x' y')
like_if true x y x' y' h k = h
like_if false x y x' y' h k = k

-- Two answers, one after the other.
pub like_then : (x x' : Answer) (f f' : Bool → Forest → ℕ → Answer)
    → Like x x'
    → ((a : Bool) (o : Forest) (p : ℕ) → Like (f a o p) (f' a o p))
    → Like (and_then x f) (and_then x' f')
like_then (got a o p) x' f f' h k = subst (λ (z : Answer). Like (f a o p) (and_then z f')) (sym h) (k a o p)
like_then (trouble n a b c d) x' f f' h k = tt

-- With a forest in front.
pub like_behind : (u : Forest) (x x' : Answer) → Like x x' → Like (behind u x) (behind u x')
like_behind u (got a o p) x' h = ap (behind u) h
like_behind u (trouble n a b c d) x' h = tt

-- Loops whose turns are alike.
pub like_repeat : (body body' : ℕ → Answer)
    → ((at : ℕ) → Like (body at) (body' at))
    → (f at : ℕ) → Like (repeat body f at) (repeat body' f at)
unfolding repeat
like_repeat body body' h zero at = tt
like_repeat body body' h (suc f) at = like_then (body at) (body' at) _ _ (h at)
    (λ a o p. like_if a _ _ _ _ (like_if (ltb at p) _ _ _ _
    (like_behind o (repeat body f p) (repeat body' f p) (like_repeat body body' h f p)) tt) refl)

module _ (s : List ℕ) (F : ℕ) where
  -- Under two marks a rule gets the same.
  pub like_marks : (t : Rule) (e e' at : ℕ) → Like (parse s F t e at) (parse s F t e' at)
  unfolding parse
  like_marks done e e' at = refl
  like_marks stop e e' at = refl
  like_marks step e e' at =
      like_same (pick (ltb at (length s)) (got true (byte (byte_at s at) nil) (at + 1)) (trouble 4 at at 0 0))
  like_marks (refuse n w) e e' at = then_refusal _ n w e at
  like_marks (when f t u) e e' at = like_if (f (byte_at s at)) _ _ _ _ (like_marks t e e' at) (like_marks u e e' at)
  like_marks (look w t u) e e' at = like_if (stands s w at) _ _ _ _ (like_marks t e e' at) (like_marks u e e' at)
  like_marks (after r f t u) e e' at = like_then (parse s F r e at) (parse s F r e' at) _ _ (like_marks r e e' at)
      (λ a o p. like_if (f (byte_at s p)) _ _ _ _ (like_marks t e e' at) (like_marks u e e' at))
  like_marks (seq t u) e e' at = like_then (parse s F t e at) (parse s F t e' at) _ _ (like_marks t e e' at)
      (λ a o p. like_if a _ _ _ _ (like_behind o (parse s F u e p) (parse s F u e' p) (like_marks u e e' p)) refl)
  like_marks (many t) e e' at = like_repeat (parse s F t e) (parse s F t e') (λ p. like_marks t e e' p) F at
  like_marks (wrap f t) e e' at =
      like_then (parse s F t e at) (parse s F t e' at) _ _ (like_marks t e e' at) (λ a o p. refl)
  like_marks (said f r t u) e e' at = like_then (parse s F r e at) (parse s F r e' at) _ _ (like_marks r e e' at)
      (λ a o p. like_if a _ _ _ _
      (like_behind o (pick (f o) (parse s F t e p) (parse s F u e p)) (pick (f o) (parse s F t e' p) (parse s F u e' p))
      (like_if (f o) (parse s F t e p) (parse s F u e p) (parse s F t e' p) (parse s F u e' p) (like_marks t e e' p)
      (like_marks u e e' p))) refl)
  like_marks (marked t) e e' at = like_same (parse s F t at at)
  like_marks (paired t d c u v) e e' at =
      like_then (parse s F t e at) (parse s F t e' at) _ _ (like_marks t e e' at) (λ a o p. like_if a _ _ _ _
      (like_then (parse s F c e p) (parse s F c e' p) _ _ (like_marks c e e' p) (λ b h q.
      like_then (parse s F u e q) (parse s F u e' q) _ _ (like_marks u e e' q)
      (λ b' r z. like_same (judged at q (v o r) (got true (o ⋈ group (content d) h r) z)))))
      refl)

  -- A rule gets the same under every mark.
  pub any_mark : (t : Rule) (e e' at : ℕ) {a : Bool} {o : Forest} {p : ℕ}
      → parse s F t e at ≡ got a o p
      → parse s F t e' at ≡ got a o p
  any_mark t e e' at h = subst (λ (x : Answer). Like x (parse s F t e' at)) h (like_marks t e e' at)
