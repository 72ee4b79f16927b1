-- The theorems, in the order to read them.
-- Facts on small plans, straight from the definitions.
pub mod Basic
pub mod Classes
-- Walks: what tests say; a list of numbers below n has a repeat; what every walk has; walks built step by step;
-- simple walks; endless walks; what walks cost.
pub mod Tests
pub mod Repeat
pub mod Walks
pub mod Build
pub mod Simple
pub mod Endless
pub mod Cost
-- Figures: the computed lists hold just the walks; smallest and largest by one argument; the least and the greatest
-- figure; their bounds. Between them walks that take an open transition.
pub mod Listed
pub mod Open
pub mod Extreme
pub mod Least
pub mod Greatest
pub mod Figures
pub mod Bound
-- For a search: what it must leave behind, and that for P1.
pub mod Certificate
pub mod Worked
-- Document 01's plans and sentences.
pub mod Known
pub mod Sentences
pub mod Heed
