-- Rules that go on, and rules that read bytes alone.
pub mod Rules
-- A byte with blanks, a tag's end, and what may not stand behind an element.
pub mod TokenSteps
-- A quoted value.
pub mod QuotedSteps
