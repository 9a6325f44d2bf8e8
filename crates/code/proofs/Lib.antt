-- Words, Levels, Stacks: laws that the proofs of the functions share. `Sound` says that the rule on code is exact: code that it takes
-- runs on any states from an empty stack to one value, and no other does; Heights is its part.
pub mod Words
mod Levels
mod Stacks
pub mod Heights
pub mod Sound
