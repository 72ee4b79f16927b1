-- The ring, transition by transition, and its least delay.
pub mod Attained
-- P10, and both its delays.
pub mod Chained
