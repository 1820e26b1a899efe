-- A slot's two words, and the seat that they say.
pub mod Seats
-- Stores into a table.
pub mod Laws
-- A reader that writes: to close a return of one, and what its answer says.
pub mod Made
-- A rule on its way: a law for each step of a reader's code.
pub mod Upto
-- What the calls of a reader ask.
pub mod Asked
