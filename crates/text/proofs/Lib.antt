pub mod Basic
pub mod Numerals
pub mod Listed
pub mod Puts
pub mod Fills
