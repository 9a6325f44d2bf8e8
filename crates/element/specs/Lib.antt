-- What the contracts cite: code-shaped, tied to crates/file_rules/specs/Element.antt by laws.
pub mod ElementCode
