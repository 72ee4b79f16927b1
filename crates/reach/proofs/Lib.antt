-- The search from all starts.
pub mod Exploring
-- From the search to the hunt for a dead end.
pub mod Hunting
