-- A plan's transitions, so that a full plan computes.
pub mod Quick
-- Words and plans.
pub mod Vectors
