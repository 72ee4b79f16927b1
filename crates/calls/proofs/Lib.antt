pub mod Basic
pub mod Lists
pub mod Asks
