-- Laws that the kinds of bytes with more than one test need.
pub mod Blocks
pub mod Chains
-- Laws that every reader of text may cite.
pub mod Spans
pub mod Equal
