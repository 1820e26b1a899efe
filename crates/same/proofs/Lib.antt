-- The nodes of a forest.
pub mod Nodes
-- What was read of a name: separators, blanks, parts, and the loop over a member's parts.
pub mod Names
-- The forms of an element's name.
pub mod Forms
-- Two element names compared, by their forms.
pub mod Equal
-- Two members' names compared, from behind a dot on.
pub mod Member
-- Spans with the same bytes.
pub mod Twins
-- The end of what was read before.
pub mod EndSteps
-- The bytes of two spans.
pub mod SpanSteps
-- The second parts of two namespaced names.
pub mod NamespacedSteps
-- Element names of the same bytes.
pub mod SameSpans
-- The parts of two members' names.
pub mod MemberSteps
-- Two element names.
pub mod NameSteps
