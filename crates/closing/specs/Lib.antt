-- A closing tag, with the verdict on it.
pub mod Close
