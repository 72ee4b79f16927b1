-- Promises kept by a refusal and by an accepted quotation.
pub mod Kept
-- The record.
pub mod Recorded
