-- Facts on short arguments.
pub mod Basic
-- What is read is what the definition reads.
pub mod Reading
