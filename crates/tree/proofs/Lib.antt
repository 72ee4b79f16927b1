-- The way up the tree.
pub mod Climbing
