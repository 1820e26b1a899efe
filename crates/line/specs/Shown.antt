-- How bytes of the source are shown.
use Rattle.std.specs.Prelude.{ℕ, ◌==◌, ◌&&◌, ◌||◌, nat_lt, nat_le, if◌then◌else◌}

-- A byte of a character: `?` (63) where it cannot be seen.
abbrev pub visible : (byte : ℕ) → ℕ
visible b = if (b == 9) || (nat_le 32 b && nat_le b 126) || nat_le 128 b then b else 63

-- A byte that may be of no character: only one of ASCII is seen.
abbrev pub visible_ascii : (byte : ℕ) → ℕ
visible_ascii b = if nat_lt b 128 then visible b else 63
