-- Rules that go on, and rules that read bytes alone.
pub mod Rules
-- What may be entered, by the pieces that the code reads.
pub mod Levels
-- Steps that many readers share.
pub mod Steps
-- The definition's rules, by the pieces that the code reads.
pub mod Cuts
-- Expressions.
pub mod ExpressionSteps
-- Braces and attributes.
pub mod BracesSteps
-- Elements and children.
pub mod ElementSteps
-- Children.
pub mod ChildSteps
-- An element or a fragment with a content.
pub mod Paired
-- Tags, and what stands between two of them.
pub mod TagSteps
-- The two forms of an answer.
pub mod PlainSteps
-- What the calls ask.
pub mod Asked
-- The laws that answer the needs of each reader.
pub mod Sets
