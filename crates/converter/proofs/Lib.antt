-- Writes: what a buffer holds once words are written to its front. Rows, Turns: what each function writes. Counts: elements counted in one pass.
-- Blocks, Lines, Sheet: the words written are those of the document's plan. Laws, Once: what `convert` answers.
pub mod Writes
pub mod Rows
pub mod Turns
pub mod Counts
pub mod Blocks
pub mod Lines
pub mod Sheet
pub mod Laws
pub mod Once
