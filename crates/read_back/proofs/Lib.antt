-- Ranges: every field of a written plan lies in its range. Takes, Places: the theorems.
pub mod Ranges
pub mod Takes
pub mod Places
