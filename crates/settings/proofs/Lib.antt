-- What each need of `settings` follows from.
pub mod Steps
-- One answer for every store.
pub mod Tight
