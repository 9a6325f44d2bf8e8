-- Turns, RowsTurns: one turn of each loop. `Laws` says that what is told of a file without faults is its document's
-- tables, and its first fault of 9 and 10; Fronts, what an entry says with those behind it. The others are their parts.
pub mod Turns
pub mod RowsTurns
pub mod Readings
pub mod Wanted
pub mod Nested
pub mod Entries
pub mod Counts
pub mod Tells
pub mod Faults
pub mod Fronts
pub mod Laws
