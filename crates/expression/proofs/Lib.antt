pub mod Gets
pub mod Pairs
