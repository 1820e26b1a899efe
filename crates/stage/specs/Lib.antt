-- What a call answers.
pub mod Reply
-- What the calls answer, and what they promise.
pub mod Call
-- Demand 1: any bytes get an answer.
pub mod Demand1
-- Demand 2: acceptance and the table are the definition's; the wrong readers that this shuts out.
pub mod Demand2
-- How tight the promises are: each allows one answer.
pub mod Tight
