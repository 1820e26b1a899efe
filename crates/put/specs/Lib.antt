-- What a writer of text promises, and the pieces of a line.
pub mod Text
-- What a method of a text promises.
pub mod Puts
