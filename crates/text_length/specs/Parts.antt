-- The first line of a plan's text, and what the whole text holds, by their parts. Assumes nothing.
use Rattle.std.specs.Prelude.{ℕ, List, [], ◌∷◌}
use Rattle.graph.specs.Graph.{Transition}
use Rattle.aldebaran.specs.Form.{written}
use Rattle.aldebaran.specs.Text.{Holding, first_form}

-- the line of the initial state, the transition count and the state count
abbrev pub first_text : ℕ → ℕ → ℕ → List ℕ
first_text initial m n = written first_form (initial ∷ m ∷ n ∷ [])

abbrev pub holding : ℕ → ℕ → List Transition → Holding
holding initial n ts = record { initial = initial; states = n; transitions = ts }
