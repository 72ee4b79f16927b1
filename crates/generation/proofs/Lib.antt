-- The transitions, drawn into arrays.
pub mod Drawn
-- The plan.
pub mod Made
