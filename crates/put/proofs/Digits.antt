-- The digits that the library gives of a number are the definition's.
use mathlib.Core.Path.{◌≡◌, ap}
use mathlib.Core.List.{List, [], ◌∷◌, ◌++◌}
use Prim.Native.Nat.{ℕ, zero, suc, ◌+◌, ◌-◌, ◌/◌, ◌%◌, ◌^◌, ◌≤◌, ◌<◌}
use native.Mathlib.Nat.{pow-zero, pow-suc, one-le-pow}
use native.Mathlib.Omega.{arith}
use borrow.Author.Tests.{lt-ltb, le-ltb}
use Rattle.io.specs.Digits.{last_digits, hex_digit_ascii, IsDigitCount}
use Rattle.jsx.specs.Program.{decimal_up_to, decimal}

-- A digit's byte.
digit_is : (n : ℕ) → hex_digit_ascii (n % 10) ≡ 48 + n % 10
digit_is n = rw (lt-ltb (n % 10) 10 (omega arith))

-- By the number of digits, within the most.
digits_are : (k f n : ℕ) → k < f → n < 10 ^ suc k → (0 < k → 10 ^ k ≤ n)
    → last_digits 10 (suc k) n ≡ decimal_up_to f n
unfolding decimal_up_to
digits_are k zero n l h m = absurd (omega arith)
digits_are zero (suc f) n l h m =
    let p = pow-suc 10 0 in
    let q = pow-zero 10 in
    let t = lt-ltb n 10 (omega arith) in
    rw (t, digit_is n)
digits_are (suc k) (suc f) n l h m =
    let p = pow-suc 10 (suc k) in
    let q = pow-suc 10 k in
    let w : 10 ^ suc k ≤ n = m (omega arith) in
    let o : 1 ≤ 10 ^ k = one-le-pow k 10 (omega arith) in
    let t = le-ltb n 10 (omega arith) in
    rw (t, digit_is n)
    (ap (λ (d : List ℕ). d ++ ((48 + n % 10) ∷ []))
    (digits_are k f (n / 10) (omega arith) (omega arith) (λ _. omega arith)))

-- As the library counts them.
pub decimal_is : (n k : ℕ) → k ≤ 20 → IsDigitCount 10 1 n k → last_digits 10 k n ≡ decimal n
unfolding decimal
decimal_is n zero l h = absurd (omega arith)
decimal_is n (suc k) l h =
    let e : suc k - 1 ≡ k = omega arith in
    digits_are k 20 n (omega arith) h.1 (λ g. rw e at (h.2 (omega arith)))
