-- For all: facts of single bytes (Bytes), parts of a text (Slices). For the readers: what the machine does at each byte (Run, Steps,
-- Tags, Elements, Files), and that its answer is the grammar's (Viability; Going, Complete and Sound serve it). OneDoc: a text spells at
-- most one document. OneAnswer: the contract of `read_shape` settles its answer.
pub mod Bytes
pub mod Slices
pub mod Run
pub mod Steps
pub mod Tags
pub mod Elements
pub mod Files
mod Going
mod Complete
mod Sound
pub mod Viability
pub mod OneDoc
pub mod OneAnswer
