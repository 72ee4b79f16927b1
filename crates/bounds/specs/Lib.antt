pub mod Ring
pub mod Chain
