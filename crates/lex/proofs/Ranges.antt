-- A byte and a range of bytes.
use mathlib.Core.Path.{◌≡◌, refl, subst}
use mathlib.Core.Bool.{Bool, true, false}
use mathlib.Core.List.{List}
use Prim.Native.Nat.{ℕ, zero, suc, ◌+◌, ◌≤◌, ◌<◌}
use native.Mathlib.Omega.{arith}
use native.Mathlib.Decide.{dec_lt}
use lib.ListN.{length}
use lib.Dec.{leb}
use borrow.Author.Tests.{le-leb, lt-leb}
use Rattle.rules.specs.Parse.{pick, byte_at}
use Rattle.rules.proofs.Run.{both}
use Rattle.jsx.specs.Byte.{◌‥◌}
use Rattle.lex.proofs.Laws.{test_inside}

module _ (lo hi b : ℕ) where
  -- In it.
  pub in_range : lo ≤ b → b ≤ hi → (lo ‥ hi) b ≡ true
  in_range l u = rw (le-leb lo b l, le-leb b hi u)

  -- Under it.
  pub under : b < lo → (lo ‥ hi) b ≡ false
  under h = rw (lt-leb lo b h)

  -- Over it.
  pub over : hi < b → (lo ‥ hi) b ≡ false
  over h = go (leb lo b)
    where
      go : (x : Bool) → pick x (leb b hi) false ≡ false
      go true = lt-leb b hi h
      go false = refl

-- What stands in a range of bytes stands within the input.
pub range_inside : (s : List ℕ) (i lo hi : ℕ) → hi < 256 → (lo ‥ hi) (byte_at s i) ≡ true → i < length s
range_inside s i lo hi h = test_inside (lo ‥ hi) (over lo hi 256 h) s i

-- ---- a test of each number of a range, computed

-- Whether the n numbers from lo on pass a test.
unfoldable pub each : (f : ℕ → Bool) (lo n : ℕ) → Bool
each f lo zero = true
each f lo (suc n) = pick (f lo) (each f (lo + 1) n) false

-- So does any of them.
pub each_passes : (f : ℕ → Bool) (lo n : ℕ) → each f lo n ≡ true → (b : ℕ) → lo ≤ b → b < lo + n → f b ≡ true
unfolding each
each_passes f lo zero h b i j = absurd (omega arith)
each_passes f lo (suc n) h b i j =
    let k = both (f lo) (each f (lo + 1) n) h in
    go (dec_lt lo b) k.0 (λ l. each_passes f (lo + 1) n k.1 b l (omega arith))
  where
    go : Dec (lo < b) → f lo ≡ true → (lo + 1 ≤ b → f b ≡ true) → f b ≡ true
    go (yes l) x y = y (omega arith)
    go (no l) x y = let e : lo ≡ b = omega arith in subst (λ (m : ℕ). f m ≡ true) e x
