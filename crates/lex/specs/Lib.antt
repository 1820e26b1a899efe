-- The kinds' numbers.
pub mod Kind
-- Answers, and how the code says them.
pub mod Answer
-- What a contract of a leaf says.
pub mod Contract
-- Refusals and kinds in words.
pub mod Words
