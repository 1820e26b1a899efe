-- Rules that pass a byte wherever they read something.
use mathlib.Core.Path.{◌≡◌, refl, subst}
use mathlib.Core.Bool.{Bool, true, false}
use mathlib.Core.List.{List}
use Prim.Native.Nat.{ℕ, ◌≤◌, ◌<◌}
use native.Mathlib.Omega.{arith}
use lib.ListN.{length}
use lib.Dec.{ltb}
use Rattle.rules.specs.Forest.{Forest}
use Rattle.rules.specs.Rule.{Rule, done, stop, step, refuse, when, look, after, seq, many, wrap, said, marked}
use Rattle.rules.specs.Rule.{paired}
use Rattle.rules.specs.Parse.{Answer, got, trouble, pick, and_then, behind, byte_at, stands, parse}
use Rattle.rules.proofs.Run.{Then, then_if, then_then, then_any, then_behind, then_refusal, then_judged, both}
use Rattle.rules.proofs.Run.{never, goes, on, Goes}
use Rattle.rules.proofs.Local.{From, Up, up}

-- The rule passes a byte wherever it gets something.
unfoldable pub moves : Rule → Bool
moves done = false
moves stop = false
moves step = true
moves (refuse n w) = true
moves (when f t u) = pick (moves t) (moves u) false
moves (look w t u) = pick (moves t) (moves u) false
moves (after r f t u) = pick (moves t) (moves u) false
moves (seq t u) = pick (moves t) true (pick (goes t) (moves u) false)
moves (many t) = false
moves (wrap f t) = moves t
moves (said f r t u) = pick (moves r) true (pick (goes r) (pick (moves t) (moves u) false) false)
moves (marked t) = moves t
moves (paired t d c u v) = moves t

-- What was got ends behind `at`.
abbrev pub Beyond : ℕ → Bool → Forest → ℕ → Type 0
Beyond at a o p = at < p

-- So does an answer, if it got something.
abbrev pub Past : ℕ → Answer → Type 0
Past at x = Then x (Beyond at)

-- One of two bits is set.
pub one_of : {X : Type 0} (m n : Bool) → pick m true n ≡ true → (m ≡ true → X) → (n ≡ true → X) → X
one_of true n h f g = f refl
one_of false n h f g = g h

past_behind : (at p : ℕ) (u : Forest) (x : Answer) → at < p → Up p x → Past at (behind u x)
past_behind at p u x h k = then_behind (From p) (Beyond at) u x k (λ a o q l. omega arith)

past_keep : (at p : ℕ) (u : Forest) (x : Answer) → at ≤ p → Past p x → Past at (behind u x)
past_keep at p u x h k = then_behind (Beyond p) (Beyond at) u x k (λ a o q l. omega arith)

-- the first of two passes a byte
past_first : (at : ℕ) (x : Answer) (y : Forest → ℕ → Answer)
    → Past at x
    → ((o : Forest) (p : ℕ) → Up p (y o p))
    → Past at (and_then x (λ a o p. pick a (behind o (y o p)) (got false o p)))
past_first at x y h k =
    then_then (Beyond at) (Beyond at) x _ h
    (λ a o p l. then_if (Beyond at) a _ _ (past_behind at p o (y o p) l (k o p)) l)

-- the second of two passes a byte, and the first goes on
past_second : (at : ℕ) (x : Answer) (y : Forest → ℕ → Answer)
    → Goes x
    → Up at x
    → ((o : Forest) (p : ℕ) → Past p (y o p))
    → Past at (and_then x (λ a o p. pick a (behind o (y o p)) (got false o p)))
past_second at (got true o p) y g l h = past_keep at p o (y o p) l (h o p)
past_second at (got false o p) y g l h = never g
past_second at (trouble n a b c d) y g l h = tt

-- A rule that moves ends beyond where it began.
pub passes : (s : List ℕ) (F : ℕ) (t : Rule) → moves t ≡ true → (e at : ℕ) → Past at (parse s F t e at)
unfolding parse moves
passes s F done h e at = never h
passes s F stop h e at = never h
passes s F step h e at = then_if (Beyond at) (ltb at (length s)) _ _ (omega arith) tt
passes s F (refuse n w) h e at = then_refusal (Beyond at) n w e at
passes s F (when f t u) h e at =
    let g = both (moves t) (moves u) h in
    then_if (Beyond at) (f (byte_at s at)) _ _ (passes s F t g.0 e at) (passes s F u g.1 e at)
passes s F (look w t u) h e at =
    let g = both (moves t) (moves u) h in
    then_if (Beyond at) (stands s w at) _ _ (passes s F t g.0 e at) (passes s F u g.1 e at)
passes s F (after r f t u) h e at = let g = both (moves t) (moves u) h in
    then_any (Beyond at) (parse s F r e at) (λ a o p. pick (f (byte_at s p)) (parse s F t e at) (parse s F u e at))
    (λ a o p. then_if (Beyond at) (f (byte_at s p)) _ _ (passes s F t g.0 e at) (passes s F u g.1 e at))
passes s F (seq t u) h e at = one_of (moves t) (pick (goes t) (moves u) false) h
    (λ m. past_first at (parse s F t e at) (λ o p. parse s F u e p) (passes s F t m e at) (λ o p. up s F u e p))
    (λ m. let g = both (goes t) (moves u) m in past_second at (parse s F t e at) (λ o p. parse s F u e p)
    (on s F t g.0 e at) (up s F t e at) (λ o p. passes s F u g.1 e p))
passes s F (many t) h e at = never h
passes s F (wrap f t) h e at =
    then_then (Beyond at) (Beyond at) (parse s F t e at) _ (passes s F t h e at) (λ a o p l. l)
passes s F (said f r t u) h e at = one_of (moves r) (pick (goes r) (pick (moves t) (moves u) false) false) h
    (λ m. past_first at (parse s F r e at) (λ o p. pick (f o) (parse s F t e p) (parse s F u e p)) (passes s F r m e at)
    (λ o p. then_if (From p) (f o) (parse s F t e p) (parse s F u e p) (up s F t e p) (up s F u e p)))
    (λ m. let g = both (goes r) (pick (moves t) (moves u) false) m in
    let k = both (moves t) (moves u) g.1 in
    past_second at (parse s F r e at) (λ o p. pick (f o) (parse s F t e p) (parse s F u e p)) (on s F r g.0 e at)
    (up s F r e at)
    (λ o p. then_if (Beyond p) (f o) (parse s F t e p) (parse s F u e p) (passes s F t k.0 e p)
    (passes s F u k.1 e p)))
passes s F (marked t) h e at = passes s F t h at at
passes s F (paired t d c u v) h e at =
    then_then (Beyond at) (Beyond at) (parse s F t e at) _ (passes s F t h e at) (λ a o p l. then_if (Beyond at) a _ _
    (then_then (From p) (Beyond at) (parse s F c e p) _ (up s F c e p) (λ b x q m. then_then (From q) (Beyond at)
    (parse s F u e q) _ (up s F u e q) (λ b' r z n. then_judged (Beyond at) at q (v o r) _ (omega arith)))) l)

-- What such a rule reads is not empty.
pub past_got : (s : List ℕ) (F : ℕ) (t : Rule) (e at : ℕ) {a : Bool} {o : Forest} {p : ℕ}
    → moves t ≡ true
    → parse s F t e at ≡ got a o p
    → at < p
past_got s F t e at m h = subst (Past at) h (passes s F t m e at)
