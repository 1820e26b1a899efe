-- A good list has the refused words of its length, and no other.
pub mod Words
-- The search of a list, and a name as a primary.
pub mod RefusedSteps
-- What calls, sums and loops ask: one set.
pub mod Asked
