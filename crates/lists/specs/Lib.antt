-- `Lists` is what a reader must believe; the others serve contracts and invariants.
pub mod Lists
pub mod FlagsCode
pub mod FillsCode
pub mod BitsCode
