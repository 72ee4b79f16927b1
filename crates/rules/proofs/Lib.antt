-- Facts on small calls, straight from the definitions.
pub mod Basic
-- Results, tables of rows and lists by number.
pub mod Results
pub mod Tables
pub mod Tabulated
-- The image, both ways.
pub mod Fields
pub mod ReadWrite
pub mod Vectors
-- A plan's text, both ways.
pub mod ImportExport
-- The grounds of a transition, and the numbers that calls given transitions can answer.
pub mod Grounds
-- What every call keeps, the figures of a plan within the limits, how large they, their k and their j can be, and the record.
pub mod Kept
pub mod Figures
pub mod Sizes
pub mod Small
pub mod Record
