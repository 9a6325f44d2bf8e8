-- Good: files that meet the rules, what is read of them, and when nothing can be recorded. Buffers: places at the front of what is lent.
-- SkipsLaws: the elements that are skipped. TriggersTurns: the loops over entries. TriggersLaws: the triggers that are listed are those
-- that no expression of the document names. Once: the contracts settle the answers. Checks: small documents, computed.
pub mod Good
pub mod Buffers
pub mod SkipsLaws
pub mod TriggersTurns
pub mod TriggersLaws
pub mod Once
pub mod Checks
