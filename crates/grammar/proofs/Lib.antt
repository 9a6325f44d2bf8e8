-- The theorems: Machine (what code leaves on a stack, and how much of it), Complete (at most one tree), Ruled (what `compile` answers is
-- what the rules give), Spelled (what `tokenise` answers is what Lex.antt says), Checks (the checks by hand). Sound and Fuel serve their
-- proofs; Laws, Whole, Names and Tokens those of the functions of `expression`.
pub mod Machine
mod Sound
mod Fuel
pub mod Complete
pub mod Maps
pub mod Ruled
pub mod Loads
pub mod Checks
pub mod Laws
pub mod Whole
pub mod Spelled
pub mod Names
pub mod Tokens
