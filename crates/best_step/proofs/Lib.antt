-- The best step, along a chain and over the states.
pub mod Choosing
