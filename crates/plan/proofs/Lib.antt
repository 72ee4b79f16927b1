pub mod Edits
pub mod Promises
