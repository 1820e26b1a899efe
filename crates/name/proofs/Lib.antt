-- Whether bytes are `this`.
pub mod This
-- The kinds of names, by their bytes.
pub mod Labels
-- The rows of names.
pub mod WriterSteps
-- What the rules of parts answer.
pub mod Parts
-- A part with its row, and a part behind a dot.
pub mod PartSteps
-- The loop over a member's parts.
pub mod DottedSteps
-- A member's name.
pub mod MemberSteps
-- A name with a colon.
pub mod NamespacedSteps
-- The names of elements and attributes.
pub mod NameSteps
