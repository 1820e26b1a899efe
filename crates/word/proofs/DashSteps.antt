-- A dash among the bytes of a part of a slice.
use mathlib.Core.Path.{◌≡◌, refl, ap, ◌∙◌}
use mathlib.Core.Bool.{Bool, true, false, ◌||◌}
use mathlib.Core.List.{List}
use Prim.Native.Nat.{ℕ, zero, suc, ◌+◌, ◌-◌, ◌≤◌}
use native.Mathlib.Omega.{arith}
use lib.Dec.{eqb}
use lib.ListN.{length, take, drop, get_or}
use Rattle.std.specs.List.{list_any, slice_range}
use Rattle.std.proofs.lemmas.List.{drop_more}
use Rattle.rules.specs.Parse.{pick}
use Rattle.jsx.specs.Name.{has, dashed}
use Rattle.lex.specs.Answer.{flag}
use Rattle.lex.specs.Contract.{bytes_from}

either : (a b : Bool) → (a || b) ≡ pick a true b
either true b = refl
either false b = refl

-- One is among the first n bytes from a on.
among_first : (s : List ℕ) (a n : ℕ) → a + n ≤ length s
    → list_any (λ b. eqb b 45) (take n (drop a s)) ≡ has "-" (bytes_from s a n)
unfolding has bytes_from
among_first s a zero h = refl
among_first s a (suc n) h =
    rw (drop_more s a 256 (omega arith))
    (either (eqb (get_or s a 256) 45) (list_any (λ b. eqb b 45) (take n (drop (a + 1) s)))
    ∙ ap (pick (eqb (get_or s a 256) 45) true) (among_first s (a + 1) n (omega arith)))

-- The flag for one is the number for it.
pub dash_among : (s : List ℕ) (a b : ℕ) → a ≤ b → b ≤ length s → {r : Bool}
    → r ≡ list_any (λ c. eqb c 45) (slice_range s a b)
    → flag r ≡ dashed (bytes_from s a (b - a))
unfolding dashed
dash_among s a b h k {r} e = ap flag (e ∙ among_first s a (b - a) (omega arith)) ∙ go (has "-" (bytes_from s a (b - a)))
  where
    go : (x : Bool) → flag x ≡ pick x 1 0
    go true = refl
    go false = refl
