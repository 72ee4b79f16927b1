pub mod Lists
pub mod Copies
