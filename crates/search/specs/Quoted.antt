-- What a search promises of the figure that it answers and of the walk that it shows. Assumes nothing.
use Rattle.std.specs.Prelude.{List, ◌≡◌, ℕ, ◌≤◌, take, drop}
use Rattle.graph.specs.Graph.{Graph, states}
use Rattle.graph.specs.Route.{Cost}
use Rattle.graph.specs.Figure.{Figure, Shown}

-- the figure f is the one that `Is` says, and the walk of k places at the front of the lent places is what 01 asks for it, with j; "later places stay"
pub record Quoted (Is : Figure → Type 0) (g : Graph) (c : Cost) (f : Figure) (k j : ℕ) (before after : List ℕ) : Type 0 where
  pub right : Is f
  pub shown : Shown g c f (take k after) j
  pub fits : k ≤ states g
  pub later : drop k after ≡ drop k before
