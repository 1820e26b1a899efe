-- What fits into a line.
pub mod Fit
-- How bytes of the source are shown.
pub mod Shown
