-- Masks: a filter's channels as a sum of powers.
pub mod Masks
