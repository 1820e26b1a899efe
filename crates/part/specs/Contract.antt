-- What a part of an input is answered by.
use Rattle.std.specs.Prelude.{ℕ, ◌+◌, ◌≡◌, ◌≤◌, Bool, true, List, length, ⊤, Option, Some, None}
use Rattle.std.specs.Borrow.{Bor}
use Rattle.jsx.specs.Table.{Part, no_part, bytes_in}

-- A part p of the input s is answered by r: p's bytes, lent from the place in s where p starts; and by whether p was
-- found.
pub record Answered (s : Bor (List ℕ)) (p : Part) (r : Bor (List ℕ)) (found : Bool) : Type 0 where
  pub tells : found ≡ p.found
  pub bytes : r.now ≡ bytes_in s.now p
  pub place : r.ref_ptr ≡ (s.ref_ptr.0, s.ref_ptr.1 + p.start)

-- The part that a start and an end say, and that is not found where there is none.
abbrev pub part_of : Option (ℕ × ℕ) → Part
part_of (Some (a, z)) = record { found = true; start = a; end = z }
part_of None = no_part

-- They are in order, and in the input.
abbrev pub Within : List ℕ → Option (ℕ × ℕ) → Type 0
Within s (Some (a, z)) = (a ≤ z) × (z ≤ length s)
Within s None = ⊤

-- They say where the part p of the input s is.
pub record Placed (s : List ℕ) (p : Part) (r : Option (ℕ × ℕ)) : Type 0 where
  pub is : p ≡ part_of r
  pub within : Within s r
