-- A law for each step of the calls.
pub mod Steps
