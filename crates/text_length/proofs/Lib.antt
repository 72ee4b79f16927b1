pub mod Widths
pub mod Sums
