-- `Replay` and `Wire` are what a reader must believe; ReplayCode serves the contracts of inner functions.
pub mod Replay
pub mod ReplayCode
pub mod Wire
