-- A part of a name at a place.
pub mod Here
