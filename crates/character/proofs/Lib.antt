-- From rules to steps: `..Steps` files have a law for each need of a function, over plain variables.

-- The code of a character, byte by byte.
pub mod CodeSteps
-- The bytes behind the first, in a loop.
pub mod BitSteps
-- How many bytes it has.
pub mod WidthSteps
-- What the rule `character` reads.
pub mod Read
-- The same bytes elsewhere are the same character.
pub mod Again
