-- All of this is what a reader must believe: a file's own configuration, the three demands, the checks by hand.
pub mod Own
pub mod Promises
pub mod Checks
