-- The text of an answer.
pub mod Answer
