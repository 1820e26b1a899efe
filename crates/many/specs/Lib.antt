-- What an item of a batch says.
pub mod Item
