-- The best values, and from them the figure.
pub mod Filling
pub mod BestFigure
