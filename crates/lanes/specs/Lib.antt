-- Words of eight bytes.
pub mod Lanes
-- Scans.
pub mod First
