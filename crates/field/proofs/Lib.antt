pub mod Basic
pub mod Number
pub mod Bits
pub mod Laws
pub mod Pack
pub mod Windows
