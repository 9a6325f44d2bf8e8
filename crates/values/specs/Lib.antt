-- `Numbers` and `Values` are what a reader must believe; NumbersCode reads numbers as the code does.
pub mod Numbers
pub mod NumbersCode
pub mod Values
