-- Each operation of a word works lane by lane.
pub mod Spread
-- Eight bytes as a word.
pub mod WordSteps
-- The masks: which lanes they mark.
pub mod MaskSteps
-- The first lane that is marked.
pub mod Marks
-- Scans, eight bytes at once.
pub mod ScanSteps
-- Turns over a stretch that is clear, for the crates above.
pub mod Over
