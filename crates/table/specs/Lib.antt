-- Where a reader stands in the table.
pub mod Slot
-- What writers promise.
pub mod Contract
-- What a reader that writes asks and promises.
pub mod Reader
