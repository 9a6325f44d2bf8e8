-- `Kinds` and `Texts` are what a reader must believe; SpansCode serves contracts.
pub mod Kinds
pub mod Texts
pub mod SpansCode
