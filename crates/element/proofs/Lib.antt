-- Judged: one attribute. Texts: an element's text. Turns: the loops over a start tag, for
-- every file. `Laws` says what the answers are on a file of good shape: `fault_law`, `over_law`, `barred_law`, `value_law`,
-- `channel_law`. Its parts: Gathers: the fold over the attributes. Required: which lack. Tags: the loops over a start tag. Wordings:
-- stray text. Whole: every number of an element without faults is that of a whole value, or of its whole text.
pub mod Judged
pub mod Texts
pub mod Turns
pub mod Gathers
pub mod Required
pub mod Tags
pub mod Laws
pub mod Wordings
pub mod Whole
