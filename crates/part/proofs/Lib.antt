-- Which part of an input a span or a record is, and what answers it.
pub mod Parts
