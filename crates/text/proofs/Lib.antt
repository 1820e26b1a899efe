-- Tests of a byte.
pub mod TestSteps
-- Texts.
pub mod TextSteps
-- Quoted attribute strings, and strings inside braces.
pub mod QuoteSteps
-- What calls, sums and loops ask: one set.
pub mod Asked
