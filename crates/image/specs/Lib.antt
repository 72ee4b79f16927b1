pub mod Values
pub mod Read
