-- Places of arrays after a store; sums over states.
pub mod Places
-- Transitions by state.
pub mod Chained
-- Routes read off values.
pub mod Tracing
-- From arrays to the graph.
pub mod Held
