-- `Omissions` is what a reader must believe; the others serve the contracts of inner functions.
pub mod Omissions
pub mod GoodCode
pub mod ToldCode
pub mod SkipsCode
pub mod TriggersCode
