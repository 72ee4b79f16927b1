-- A cost as the arrays of a search. Assumes nothing.
use Rattle.std.specs.Prelude.{List, ℕ, ◌≤◌}
use Rattle.graph.specs.Route.{Cost}
use Rattle.arrays.specs.Tables.{cost_of}
use Rattle.search.specs.Arrays.{at}
use Rattle.search.specs.Sizes.{heaviest}

-- what each transition weighs, and what each state adds where it is the last
pub record Weights : Type 0 where
  pub weight : List ℕ
  pub close : List ℕ

-- the weights of two arrays
abbrev pub weights_of : List ℕ → List ℕ → Weights
weights_of weight close = record { weight = weight; close = close }

-- the cost that the arrays hold
abbrev pub cost_in : Weights → Cost
cost_in w = cost_of w.weight w.close

-- small enough to be added up along a route
pub record Light (w : Weights) : Type 0 where
  pub weights : (t : ℕ) → at w.weight t ≤ heaviest
  pub closes : (s : ℕ) → at w.close s ≤ heaviest
