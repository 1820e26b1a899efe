-- The same bytes, one by one.
use mathlib.Core.Path.{◌≡◌}
use mathlib.Core.Bool.{true}
use mathlib.Core.List.{List}
use Prim.Native.Nat.{ℕ, zero, suc, ◌+◌, ◌<◌}
use native.Mathlib.Omega.{arith}
use lib.Dec.{eqb}
use borrow.Author.Tests.{eqb-true}
use Rattle.rules.specs.Parse.{byte_at}
use Rattle.rules.proofs.Run.{both}
use Rattle.jsx.specs.Name.{same}
use Rattle.lex.specs.Contract.{bytes_from}

-- The byte i of the ones is that of the others.
pub same_byte : (s : List ℕ) (n a c i : ℕ) → same (bytes_from s a n) (bytes_from s c n) ≡ true → i < n
    → byte_at s (a + i) ≡ byte_at s (c + i)
unfolding same bytes_from
same_byte s zero a c i h l = absurd (omega arith)
same_byte s (suc n) a c zero h l =
    let g = both (eqb (byte_at s a) (byte_at s c)) _ h in
    let e : a + 0 ≡ a = omega arith in
    let f : c + 0 ≡ c = omega arith in
    rw (e, f) (eqb-true (byte_at s a) (byte_at s c) g.0)
same_byte s (suc n) a c (suc i) h l =
    let g = both (eqb (byte_at s a) (byte_at s c)) _ h in
    let e : a + suc i ≡ a + 1 + i = omega arith in
    let f : c + suc i ≡ c + 1 + i = omega arith in
    rw (e, f) (same_byte s n (a + 1) (c + 1) i g.1 (omega arith))
