-- Grammars as data, in reading order.
pub mod Forest
pub mod Rule
pub mod Parse
pub mod Record
-- What joining and replacing are, of forests and of tables.
pub mod Moved
pub mod Joined
pub mod Replaced
