-- The same bytes, one by one.
pub mod SamePart
-- A closing tag that repeats a name: what its rule reads.
pub mod Repeated
-- A closing tag, read part by part, and the verdict on it.
pub mod Verdict
-- The opening tag's name, and the bytes that close it.
pub mod OpenedSteps
-- A closing tag that repeats a name.
pub mod RepeatedSteps
-- A closing tag that is read part by part.
pub mod CloseSteps
