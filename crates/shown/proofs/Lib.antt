-- Four parts of one lent slice.
pub mod Parts
