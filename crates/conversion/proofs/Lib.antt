pub mod Converting
pub mod Rooms
