-- From keys to the graph's least figure.
pub mod LeastFigure
