-- `Rules`, `Calls` and `History` are what a reader must believe; `Types` brings declared types under one roof.
pub mod Types
pub mod Rules
pub mod Calls
pub mod History
