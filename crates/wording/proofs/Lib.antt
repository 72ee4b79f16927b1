-- The lines of known figures.
pub mod Basic
-- How long lines are.
pub mod Lengths
