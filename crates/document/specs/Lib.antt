-- What the contracts cite: code-shaped, tied to crates/file_rules/specs/Document.antt by proofs/Laws.antt.
pub mod EntriesCode
pub mod DocumentCode
