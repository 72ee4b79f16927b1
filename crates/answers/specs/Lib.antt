pub mod Answered
pub mod Handed
