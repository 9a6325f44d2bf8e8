-- The theorems on events and histories, what they share (Outcomes), and the checks by hand.
pub mod Outcomes
pub mod Faults
pub mod Checks
pub mod HistoryLaws
pub mod Filters
pub mod Numbers
pub mod Named
