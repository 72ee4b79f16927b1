-- The transition that a value of the code stands for. Assumes nothing.
use Rattle.graph.specs.Graph.{Transition}
use Rattle.arrays.specs.Tables.{transition}
use Rattle.image.specs.declared.Transition.{Transition as Value}

-- "a from state, a to state, a low and a high duration"
abbrev pub meant : Value → Transition
meant t = transition t.from t.to t.low t.high
