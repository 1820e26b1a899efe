-- The digits of a number.
pub mod Digits
-- Texts put one behind the other: a law for each writer.
pub mod Steps
