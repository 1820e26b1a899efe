-- A law for each step.
pub mod Steps
