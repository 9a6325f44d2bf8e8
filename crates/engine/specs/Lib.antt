-- What the contracts cite: code-shaped, tied to crates/event_rules/specs/Rules.antt by the laws of the same names.
pub mod RowsCode
pub mod TriggersCode
pub mod StatementsCode
pub mod EventCode
