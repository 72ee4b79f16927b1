-- From what the search left behind to the graph's greatest figure.
pub mod GreatestFigure
