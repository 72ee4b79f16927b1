pub mod Fills
pub mod Quotes
pub mod AllFour
