-- Digits.
pub mod DigitSteps
-- Numbers.
pub mod NumberSteps
-- What calls, sums and loops ask: one set.
pub mod Asked
