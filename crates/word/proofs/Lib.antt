-- `..Steps` files have a law for each need of a function, over plain variables.

-- Names in braces.
pub mod RunSteps
-- A byte that opens a name is one of ASCII.
pub mod Ascii
-- Characters of a part, of ASCII and beyond it.
pub mod PartTests
-- Parts of names, character by character.
pub mod PartSteps
-- A part, and the same bytes elsewhere.
pub mod Again
-- Whether a dash is among some bytes.
pub mod DashSteps
-- What calls, sums and loops ask: one set.
pub mod Asked
