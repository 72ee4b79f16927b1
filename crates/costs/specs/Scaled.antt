-- One cost as a scaled version of another, and the figure that is read back from it. Assumes nothing.
use Rattle.std.specs.Prelude.{◌≡◌, ℕ, ◌+◌, ◌*◌, ◌/◌, ◌<◌}
use Rattle.graph.specs.Graph.{Graph, states, count}
use Rattle.graph.specs.Route.{Cost}
use Rattle.graph.specs.Figure.{Figure, number, NONE, STRANDED, ENDLESS}

-- c' is c times `times`, and `extra` more for each transition, on the states and transitions of the plan
pub record Scaled (times extra : ℕ) (g : Graph) (c c' : Cost) : Type 0 where
  pub step : (t : ℕ) → t < count g → c'.step t ≡ times * c.step t + extra
  pub close : (s : ℕ) → s < states g → c'.close s ≡ times * c.close s

-- what the costs of a least figure are multiplied by: more than a route that is shown has transitions, 512 at most
abbrev pub scale : ℕ
scale = 1024

-- the figure with its number divided by the scale
abbrev pub divided : Figure → Figure
divided (number k) = number (k / scale)
divided NONE = NONE
divided STRANDED = STRANDED
divided ENDLESS = ENDLESS
