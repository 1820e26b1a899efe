-- What an answer's text asks.
pub mod Steps
