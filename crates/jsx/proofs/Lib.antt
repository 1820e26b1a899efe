-- What is proved of the definition, in reading order.

-- ---- The definition computed on inputs

-- How a case is held against the definition.
pub mod Case
-- The starred inputs of document 01.
pub mod Marked
-- Its other examples, chapter by chapter.
pub mod Examples
-- Rows of every kind, and every extra word.
pub mod EveryKind
-- An input for each reading of docs/DECISIONS.md.
pub mod Readings
-- What the depth of a record counts.
pub mod Depths
-- What was opened and never closed, and what is broken.
pub mod Unclosed
-- Blanks beyond ASCII, and the ends of `//` comments.
pub mod Blanks
-- Names in the author's script.
pub mod Scripts
-- Limits, the table's room, the bytes of a record, and what the program prints.
pub mod Calls
-- ---- Settings stores

-- Stores, and readings with their limits, computed.
pub mod Stores
-- How one record is judged, and what stands behind it.
pub mod Settings
-- Each statement of the page of request 14.
pub mod Lasting
-- ---- How the rules read

-- Labels and the verdict see nothing of what stands in a content.
pub mod Steady
-- A node that is called paired has a content and a closing tag.
pub mod Paired
-- The tables of name characters: in order, with no range into another; a first character may be a later one; no blank
-- is in them.
pub mod Unicode
-- How far each rule looks.
pub mod Shape
-- What may be entered one level deeper always goes on.
pub mod Goes
-- At most one record a byte, and what each rule spends of its own.
pub mod Fits
-- The ladder of binary operators is one flat loop.
pub mod Ladder
-- One look decides, and what it looked over is read again, the same.
pub mod Again
-- A child, taken apart.
pub mod Child
-- ---- UTF-8

-- Good pieces joined are good, and so is what is left behind a good piece.
pub mod Pieces
-- Where a good text may be cut.
pub mod Cut
-- ---- What composes

-- A run in front of something is read the same.
pub mod Front
-- A run behind a run is a run: of readings.
pub mod JoinRead
-- A content may be any run that is accepted with the depth left there: of readings.
pub mod ReplaceRead
-- A content, taken out of an input, is a run by itself.
pub mod Back
-- What an accepted input is, and what the calls answer on it.
pub mod Accepted
-- Where a text meets a text, said of rows.
pub mod Meets
-- A refusal's number is one of 1 to 18.
pub mod Numbers
-- What is accepted stays accepted with more depth, with the same table.
pub mod Deep
-- Demand 3, first sentence: two runs joined.
pub mod Join
-- Demand 3, second sentence: a content replaced.
pub mod Replace
-- Each statement of the page of demand 3.
pub mod Demand3
-- One worked instance of each, computed.
pub mod Worked
