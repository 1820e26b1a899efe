-- The end of an element or a fragment, with its record.
pub mod Shut
