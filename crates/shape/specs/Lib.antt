-- `Shape` and `Text` are what a reader must believe; MachineCode and ReadsCode serve the readers of the first pass and the proofs.
pub mod Shape
pub mod MachineCode
pub mod ReadsCode
pub mod Text
