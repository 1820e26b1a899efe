-- `..Steps` files have a law for each need of a function, over plain variables.

-- A table of ranges, searched by halves.
pub mod RangeSteps
-- Letters of common scripts, and the two tables.
pub mod ScriptSteps
