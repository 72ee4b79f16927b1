pub mod Procedure
pub mod Sets
pub mod Bounds
pub mod Counts
pub mod Agreement
