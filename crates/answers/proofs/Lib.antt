pub mod Puts
pub mod Handing
