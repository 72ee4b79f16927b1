-- Facts about the first words, straight from the definition.
pub mod Basic
-- The sentences of the request, as laws of the words.
pub mod Words
-- The ring holds them.
pub mod Turning
