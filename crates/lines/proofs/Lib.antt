-- What is printed for an image.
pub mod Prints
