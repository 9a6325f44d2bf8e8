-- `Printing` is what a reader must believe; PrintingCode serves the contracts of inner functions.
pub mod Printing
pub mod PrintingCode
