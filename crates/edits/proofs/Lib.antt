pub mod Edits
pub mod Rooms
