-- Facts on small plans, straight from the definitions.
pub mod Basic
-- Every generated plan is within the limits.
pub mod Limits
