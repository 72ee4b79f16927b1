pub mod Written
pub mod Quoted
