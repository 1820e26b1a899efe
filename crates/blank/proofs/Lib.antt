-- From rules to steps: `..Steps` files have a law for each need of a function, over plain variables.

-- Tests of a byte and of a character.
pub mod TestSteps
-- What the rules of blanks and comments read, case by case.
pub mod Laws
-- `/* .. */` and `// ..`.
pub mod CommentSteps
-- Blanks and comments.
pub mod BlankSteps
-- What sums and loops ask: one set.
pub mod Asked
