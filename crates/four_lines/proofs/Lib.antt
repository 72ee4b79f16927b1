-- Four lines in a row.
pub mod InRow
