-- Tables: a table's rule at each of its entries, names found by a key. Laws: what callers may cite. Checks: the tables by examples.
pub mod Tables
pub mod Laws
pub mod Checks
