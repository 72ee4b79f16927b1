pub mod Graph
pub mod Class
pub mod Walk
pub mod Route
pub mod Which
pub mod Figure
pub mod Compute
pub mod Known
