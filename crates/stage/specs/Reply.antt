-- What a call answers.
use Rattle.std.specs.Prelude.{ℕ}

-- Accepted, with so many records; or a refusal's number and two places, start and end.
pub data Reply : Type 0 where
  Accepted : ℕ → Reply
  Refused : (n a b c d : ℕ) → Reply
