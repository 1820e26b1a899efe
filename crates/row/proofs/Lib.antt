-- The row of an opening tag.
pub mod RowSteps
-- A text, and empty braces, with their rows.
pub mod BracesSteps
-- The end of an element or a fragment, with its row.
pub mod ShutSteps
