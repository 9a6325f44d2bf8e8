pub mod Checks
pub mod Once
pub mod Puts
pub mod Room
