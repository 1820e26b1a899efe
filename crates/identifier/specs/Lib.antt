-- Letters for which no table is searched.
pub mod Script
-- Tables of ranges.
pub mod Table
