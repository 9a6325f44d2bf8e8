-- Places, WalkAnswers, Bounds, Turns: for every file. `WalkLaws` says what the answers are on a file of good shape: `root_law`,
-- `element_law`, `part_law`, `item_law`, `content_law`, `skip_law`, `text_law`; Runs, WalkItems, WalkTags, Walks and Files are its parts.
-- Buffers, Strays and WalkTrims are laws of texts; the Pieces files speak of texts in one piece.
pub mod Places
pub mod WalkAnswers
pub mod Bounds
pub mod Turns
pub mod Buffers
pub mod Strays
pub mod WalkTrims
pub mod Runs
pub mod WalkItems
pub mod WalkTags
pub mod Walks
pub mod Files
pub mod WalkLaws
pub mod PiecesAnswers
pub mod PiecesLaws
