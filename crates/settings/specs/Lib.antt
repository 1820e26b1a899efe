-- Why a store is refused.
pub mod Refusal
-- The kinds of a store's records.
pub mod Kind
-- What the calls of this crate promise.
pub mod Contract
