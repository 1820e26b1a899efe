-- A reply as C has it: a number, and four values.
pub mod Said
