pub mod Words
pub mod Ring
