-- Rules that go on, and rules that read bytes alone.
pub mod Rules
-- Answers of leaves: the same by another rule, and what a number that tells of a stop says.
pub mod Told
-- An element with no level left.
pub mod DeepSteps
-- An operator, alone and with the blanks around it.
pub mod OperatorSteps
-- What stands between two readers: a comma, `=`, `:` and the like, each with its blanks.
pub mod BetweenSteps
