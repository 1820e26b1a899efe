-- What the contracts of this crate name besides the rules.
pub mod Width
