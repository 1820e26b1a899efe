-- The text of an answer.
pub mod Steps
-- The program's whole output.
pub mod WholeSteps
