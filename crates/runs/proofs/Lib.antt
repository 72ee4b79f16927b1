pub mod Basic
-- From the promise of a call to that of the list.
pub mod Runs
pub mod Turns
