-- What the contracts cite: code-shaped, tied to crates/file_rules/specs/Tables.antt by proofs/Laws.antt.
pub mod TablesCode
pub mod RowsCode
