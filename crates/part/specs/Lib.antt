-- What the calls for bytes promise.
pub mod Contract
