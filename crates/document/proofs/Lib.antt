-- Entries: the entries as words. Turns, Insides, Visits: the walk. Seens: what a parent holds. Absorbs: the first fault stays. Few: how
-- many known elements there can be. Stood: where they stand. `Laws` says that the index is that of the document, or its first fault.
pub mod Entries
pub mod Turns
pub mod Insides
pub mod Seens
pub mod Absorbs
pub mod Visits
pub mod Few
pub mod Laws
pub mod Stood
