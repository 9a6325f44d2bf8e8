-- Numbers: laws that the proofs share. Exact: which texts are numbers, and which ones. Words: laws of texts of one kind and of ranges, for
-- `sorts`. Checks: the paper's checks of numbers.
mod Numbers
pub mod Exact
pub mod Words
pub mod Checks
