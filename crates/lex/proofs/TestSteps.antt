-- Tests of a byte: what each answer of the code follows from.
use mathlib.Core.Path.{◌≡◌, sym, ◌∙◌}
use mathlib.Core.Bool.{Bool, true, false}
use Prim.Native.Nat.{ℕ, ◌≤◌, ◌<◌}
use lib.Dec.{leb}
use borrow.Author.Tests.{le-leb, lt-leb}
use Rattle.rules.specs.Parse.{pick}
use Rattle.jsx.specs.Byte.{◌‥◌}
use Rattle.lex.proofs.Laws.{is_first, is_second}

-- ---- a range

module _ (lo hi : ℕ) {b : ℕ} where
  -- Not under it.
  pub range_from : lo ≤ b → leb b hi ≡ (lo ‥ hi) b
  range_from h = rw (le-leb lo b h)

  -- Under it.
  pub range_under : b < lo → leb lo b ≡ (lo ‥ hi) b
  range_under h = rw (lt-leb lo b h)

-- ---- one test or another

module _ {x t : Bool} (i : t ≡ x) where
  -- The first holds.
  pub or_first : (y : Bool) → t ≡ true → t ≡ pick x true y
  or_first y h = h ∙ sym (rw (sym i ∙ h))

  -- It does not: the second decides.
  pub or_second : {y u : Bool} → t ≡ false → u ≡ y → u ≡ pick x true y
  or_second h j = j ∙ sym (rw (sym i ∙ h))

pub ruleset test_steps = (range_from, range_under, or_first, or_second, is_first, is_second)
