-- `Schema` is what a reader must believe; SchemaCode is what the contracts cite.
pub mod Schema
pub mod SchemaCode
