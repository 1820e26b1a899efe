-- What a scan has passed, and where it ends.
use Rattle.std.specs.Prelude.{ℕ, ◌≤◌, ◌<◌, ◌≡◌, true, false, List, length}
use Rattle.rules.specs.Rule.{Test}
use Rattle.rules.specs.Parse.{byte_at}

-- From p up to q, within the input, no byte passes a test.
pub record Clear (f : Test) (s : List ℕ) (p q : ℕ) : Type 0 where
  pub past : p ≤ q
  pub inside : q ≤ length s
  pub none : (i : ℕ) → p ≤ i → i < q → f (byte_at s i) ≡ false

-- The first byte from p on that passes a test stands at q; where q is the end, none does.
pub record First (f : Test) (s : List ℕ) (p q : ℕ) : Type 0 where
  pub clear : Clear f s p q
  pub met : q < length s → f (byte_at s q) ≡ true
