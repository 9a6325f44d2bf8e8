pub mod Refusals
pub mod Accepts
pub mod Runs
pub mod Demands
pub mod Table
