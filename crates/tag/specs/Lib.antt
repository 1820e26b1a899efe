-- A byte with blanks, and a tag's end.
pub mod Token
