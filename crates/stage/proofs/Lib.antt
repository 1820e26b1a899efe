-- The first two tests, and a reply made of an answer.
pub mod SoundSteps
-- The two readings, from the readers' answers.
pub mod IntoSteps
-- From a reading to what its calls answer.
pub mod CallSteps
-- Each promise allows one answer.
pub mod Tight
-- Each statement of the page of demand 1.
pub mod Demand1
-- Each statement of the page of demand 2.
pub mod Demand2
-- What a call's result says, by what it is.
pub mod Replies
