pub mod Slices
pub mod Rows
