-- `Code` is what a reader must believe; HeightsCode and RunCode serve the contracts of inner functions.
pub mod Code
pub mod HeightsCode
pub mod RunCode
