-- What drawing promises. Assumes nothing.
use Rattle.std.specs.Prelude.{List, ◌≡◌, ℕ, ◌<◌, get_or, replicate}
use Rattle.graph.specs.Graph.{Transition}
use Rattle.arrays.specs.Tables.{transition, Later}
use Rattle.generated.specs.Generated.{marks_drawn}
use Rattle.drawing.specs.declared.Fields.{Fields}

-- the transition that the struct stands for
abbrev pub meant : Fields → Transition
meant f = transition f.from f.to f.low f.high

-- the marks value of each of n states, and zeros behind them
pub record Marked (n : ℕ) (marks : List ℕ) : Type 0 where
  pub each : (i : ℕ) → i < n → get_or marks i 0 ≡ marks_drawn n i
  pub later : Later n (replicate 512 0) marks
