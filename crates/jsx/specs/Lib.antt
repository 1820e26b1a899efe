-- Document 01 as a definition, a chapter a file, in reading order. `D:` in a comment quotes document 01.
pub mod Refusal
pub mod Kind
pub mod Byte
pub mod Utf8
pub mod Blank
pub mod Ranges
pub mod Unicode
pub mod Name
pub mod Text
pub mod Word
pub mod Expression
pub mod Braces
pub mod Tag
pub mod Closing
pub mod Element
pub mod Depth
pub mod Reading
pub mod Table
pub mod Program
-- Settings stores: document 02, request 14.
pub mod Settings
-- Demand 3.
pub mod Compose
pub mod Demand3
-- Request 14.
pub mod Lasting
