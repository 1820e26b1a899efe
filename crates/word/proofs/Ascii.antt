-- The bytes of names are of ASCII, behind the space.
use mathlib.Core.Path.{◌≡◌, refl}
use mathlib.Core.Bool.{Bool, true, false}
use Prim.Native.Nat.{ℕ, ◌<◌}
use native.Mathlib.Omega.{arith}
use native.Mathlib.Decide.{dec_lt}
use lib.Dec.{leb, eqb}
use borrow.Author.Tests.{ne_eqb, leb-true}
use Rattle.rules.proofs.Run.{never, both}
use Rattle.jsx.specs.Byte.{◌‥◌, letter, digit}
use Rattle.jsx.specs.Name.{opens_name, in_word}
use Rattle.lex.proofs.Ranges.{in_range, under, over}
use Rattle.word.specs.Here.{name_byte}

-- A byte that opens a name.
pub opens_token : (b : ℕ) → opens_name b ≡ true → (0x21 ‥ 0x7F) b ≡ true
unfolding opens_name letter
opens_token b h = go (dec_lt b 0x21) (dec_lt b 0x80)
  where
    none : ((k : ℕ) → 0x21 < k → k < 0x80 → eqb b k ≡ false) → (97 ‥ 122) b ≡ false → (65 ‥ 90) b ≡ false
        → (0x21 ‥ 0x7F) b ≡ true
    none n l u = never (rw (l, u, n 95 (omega arith) (omega arith), n 36 (omega arith) (omega arith)) at h)

    go : Dec (b < 0x21) → Dec (b < 0x80) → (0x21 ‥ 0x7F) b ≡ true
    go (yes i) j =
        none (λ k l m. ne_eqb b k (λ e. omega arith)) (under 97 122 b (omega arith)) (under 65 90 b (omega arith))
    go (no i) (yes j) = in_range 0x21 0x7F b (omega arith) (omega arith)
    go (no i) (no j) =
        none (λ k l m. ne_eqb b k (λ e. omega arith)) (over 97 122 b (omega arith)) (over 65 90 b (omega arith))

-- So it is below 80.
pub opens_low : (b : ℕ) → opens_name b ≡ true → b < 0x80
opens_low b h =
    let k = leb-true b 0x7F (both (leb 0x21 b) (leb b 0x7F) (opens_token b h)).1 in
    omega arith

-- So is any byte of a name.
pub name_low : (b : ℕ) → name_byte b ≡ true → b < 0x80
unfolding name_byte in_word digit
name_low b h = go (dec_lt b 0x80) (opens_name b) refl
  where
    go : Dec (b < 0x80) → (o : Bool) → opens_name b ≡ o → b < 0x80
    go (yes k) o e = k
    go (no k) true e = opens_low b e
    go (no k) false e = never (rw (e, over 48 57 b (omega arith), ne_eqb b 45 (λ x. omega arith)) at h)
