-- Cases: a test and what it tells. Parts: two flags, fuel, parts that are lent. Flags: flags in a row. Fills: a list that a loop fills from
-- the front. BitLaws: sets as the bits of a number, tables over numbers. Gathers: lists gathered one behind the other.
pub mod Cases
pub mod Parts
pub mod Fills
pub mod Flags
pub mod BitLaws
pub mod Gathers
