-- A plan's arrays and the graph that stands in them.
pub mod Held
-- The weights of a figure, and from what a search found to what is said of the figure.
pub mod Weighed
