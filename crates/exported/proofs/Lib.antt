pub mod Exporting
pub mod Short
