-- Keys that are lowered.
pub mod Lowered
