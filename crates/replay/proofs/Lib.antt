-- The replay: its loop over events, a worked example.
pub mod Replays
pub mod ReplayChecks
-- The bytes of a replay: laws of reading and writing them, refusal numbers, worked examples.
pub mod Bytes
pub mod Numbers
pub mod EventsChecks
