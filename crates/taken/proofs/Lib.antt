-- Facts on small images, straight from the definitions.
pub mod Basic
-- What a read costs.
pub mod Taken
