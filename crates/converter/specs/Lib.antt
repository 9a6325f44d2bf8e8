-- `Converter` is what a reader must believe; the other serves the contracts of inner functions.
pub mod Converter
pub mod PlanCode
