-- The theorems, in the order to read them.
-- Runs on small plans, straight from the definitions.
pub mod Basic
-- Loops, sets and pairs: what a run gives; what the operations say of states.
pub mod Loop
pub mod Sets
pub mod Pairs
-- The walks of the plan, where no state is both start and final.
pub mod Apart
-- lower and upper return, and what they return.
pub mod Chain
pub mod Lower
pub mod Upper
-- mincount and maxcount return, and what they return.
pub mod Current
pub mod Counts
-- All four are the figures, and a test for their premises.
pub mod Figures
pub mod Premises
