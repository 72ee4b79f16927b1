pub mod Filled
pub mod Scaled
pub mod Quoted
pub mod Basic
