-- What a reader must believe; RefusalCode serves the contracts of the crates above.
pub mod Element
pub mod Reading
pub mod Document
pub mod Tables
pub mod RefusalCode
