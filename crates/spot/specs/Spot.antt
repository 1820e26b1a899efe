-- Lines and columns, as a person counts them: lines end with LF, CR or both; a column is a character.
use Rattle.std.specs.Prelude.{ℕ, zero, suc, ◌+◌, ◌≤◌, ◌<◌, ◌≡◌, Bool, true, false, List, length, eqb, ltb, ◌==◌, ◌||◌}
use Prim.Native.Char.{code}
use Rattle.rules.specs.Parse.{pick, byte_at}
use Rattle.spot.specs.declared.Place.{Place}

-- A line ends with LF, or with CR that no LF stands behind.
unfoldable pub ends_line : List ℕ → ℕ → Bool
ends_line s i =
    pick (eqb (byte_at s i) (code "\n")) true
    (pick (eqb (byte_at s i) (code "\r")) (pick (eqb (byte_at s (i + 1)) (code "\n")) false true) false)

-- A byte of 128 to 191 goes on with a character of UTF-8.
unfoldable pub continues : ℕ → Bool
continues b = pick (ltb b 128) false (ltb b 192)

-- The spot behind the byte at i, from the one in front of it.
unfoldable pub spot_behind : List ℕ → ℕ → Place → Place
spot_behind s i x =
    pick (ends_line s i) (record { line = x.line + 1; column = 1; start = i + 1 })
    (pick (continues (byte_at s i)) x (record { line = x.line; column = x.column + 1; start = x.start }))

-- The spot of a place.
unfoldable pub spot_at : List ℕ → ℕ → Place
spot_at s zero = record { line = 1; column = 1; start = 0 }
spot_at s (suc i) = spot_behind s i (spot_at s i)

-- A byte of a line's end.
abbrev pub is_end : ℕ → Bool
is_end b = (b == code "\n") || (b == code "\r")

-- The line of p ends at r: no byte of a line's end stands from p to there, and one stands there, or the input ends.
pub record LineEnd (r : ℕ) (s : List ℕ) (p : ℕ) : Type 0 where
  pub behind : p ≤ r
  pub inside : r ≤ length s
  pub clear : (i : ℕ) → p ≤ i → i < r → (byte_at s i ≡ code "\n" → ⊥) × (byte_at s i ≡ code "\r" → ⊥)
  pub stops : (r ≡ length s → ⊥) → (byte_at s r ≡ code "\n" → ⊥) → byte_at s r ≡ code "\r"
