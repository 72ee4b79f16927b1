pub mod Arrays
pub mod Scaled
