-- What the contracts cite: code-shaped, tied to the tree of a file by proofs/WalkLaws.antt.
pub mod WalkCode
pub mod StandsCode
pub mod PiecesCode
