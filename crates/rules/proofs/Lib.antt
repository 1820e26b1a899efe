-- Laws for every grammar, in reading order.

-- ---- Forests and answers

-- What a row's depth counts, computed; forests behind forests: widths, counts and record tables add up.
pub mod Forests
-- What holds of an answer; rules that go on; what was read is as wide as the way and stands there; loops turn by turn.
pub mod Run
-- An answer that got something, taken apart, rule by rule.
pub mod Got
-- ---- Where a reading goes and where it ends

-- A reading depends only on what stands where it has looked, and may be moved along.
pub mod Local
-- A reading stays in the input and needs no more turns than places.
pub mod Ends
-- A loop turn by turn: no fuel is left in what is said.
pub mod Turns
-- Where two inputs show the same: what locality asks for.
pub mod Agree
-- Marks only say where a refusal points.
pub mod Mark
-- Rules that pass a byte wherever they read something.
pub mod Moves
-- What was looked over is read again, the same.
pub mod Again
-- A ladder of binary operators reads the same as one flat loop.
pub mod Flat
-- A rule whose refusals all have one number.
pub mod Single
-- ---- How many nodes

-- A byte brings a credit and a node costs one: as many nodes as bytes, or as many more as a rule spends.
pub mod Fits
-- ---- How far a reading looks

-- A place in a forest where a content stands, and another content put there.
pub mod Spots
-- The flow of a rule: from what was looked at before it to what was looked at after it.
pub mod Flow
-- A rule that advances passes a byte wherever it goes on.
pub mod Advance
-- A rule looks no further than its flow says.
pub mod Reach
-- Every content stands behind a byte that closes, and nothing before it has looked into it.
pub mod Found
-- Another content in the place of a content is read there, and all else the same.
pub mod Hole
-- No rule with a flow gets stuck.
pub mod Stuck
-- The numbers that a rule's refusals may have.
pub mod Numbers
-- What holds of every node that a rule with a flow makes.
pub mod Formed
-- A reading with less depth left is the same with more.
pub mod Deeper
-- ---- Record tables

-- Tables row by row.
pub mod Rows
-- What stands elsewhere, with other numbers, has the same table, moved.
pub mod Moved
-- Two forests joined, where a text that meets a text becomes one.
pub mod Joined
-- What replacing a content does to the table.
pub mod Edited
-- The content in the node with a given record number.
pub mod Held
-- A node by its record number: its label, its place, its row and its children.
pub mod Numbered
