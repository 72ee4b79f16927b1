pub mod Arrays
pub mod Chain
pub mod Sizes
pub mod Route
pub mod Quoted
pub mod Weights
