-- Answers, bytes and tests: what every leaf's proof uses.
pub mod Laws
-- A byte and a range of bytes.
pub mod Ranges
-- Tests of a byte: ranges, and one test or another.
pub mod TestSteps
-- A loop of code that reads `many t`, turn by turn.
pub mod Turns
-- Runs of bytes that pass a test, and the loop that reads one.
pub mod Runs
-- Rules that make no group: what they read are the input's bytes.
pub mod Bare
-- Lists of bytes compared, and the loop that does it.
pub mod SameBytes
-- What the needs of this crate's functions follow from.
pub mod Steps
-- Results, as the answers that they say.
pub mod Results
