-- The lists that arrays hold: a plan's states by their marks values and teams, and its transitions by their four fields. Assumes nothing.
use Rattle.std.specs.Prelude.{false, List, ◌++◌, ℕ, ◌≤◌, ◌≡◌, length, get_or, drop}
use Rattle.graph.specs.Graph.{Graph, State, Transition, state_with}
use Rattle.graph.specs.Route.{Cost}
use Rattle.rules.specs.Image.{tabulate}
use Rattle.arrays.specs.declared.Plan.{Plan}

-- the state at place i of two arrays, of marks values and of teams
abbrev pub state_of : List ℕ → List ℕ → ℕ → State
state_of marks teams i = state_with (get_or marks i 0) (get_or teams i 0)

-- the first n states of two arrays
abbrev pub states_of : ℕ → List ℕ → List ℕ → List State
states_of n marks teams = tabulate n (state_of marks teams)

-- the transition at place i of four arrays
abbrev pub transition_of : List ℕ → List ℕ → List ℕ → List ℕ → ℕ → Transition
transition_of from to low high i = record { from = get_or from i 0; to = get_or to i 0; low = get_or low i 0; high = get_or high i 0 }

-- the first m transitions of four arrays
abbrev pub transitions_of : ℕ → List ℕ → List ℕ → List ℕ → List ℕ → List Transition
transitions_of m from to low high = tabulate m (transition_of from to low high)

-- the graph that the arrays of a plan hold: the first n states and the first m transitions
abbrev pub graph_of : ℕ → ℕ → List ℕ → List ℕ → List ℕ → List ℕ → List ℕ → List ℕ → Graph
graph_of n m marks teams from to low high = record { state_list = states_of n marks teams; transitions = transitions_of m from to low high }

-- the same of a plan value, whatever the value is
abbrev pub graph_in_arrays : Plan → Graph
graph_in_arrays p = graph_of p.states p.transitions p.marks p.teams p.from p.to p.low p.high

-- a transition by its four numbers
abbrev pub transition : ℕ → ℕ → ℕ → ℕ → Transition
transition from to low high = record { from = from; to = to; low = low; high = high }

-- "later places stay": an array has k places, and every place past them is as it was
pub record Later (k : ℕ) (before after : List ℕ) : Type 0 where
  pub room : k ≤ length after
  pub same : drop k after ≡ drop k before

-- the four fields of transitions, in arrays
pub record Fields : Type 0 where
  pub from : List ℕ
  pub to : List ℕ
  pub low : List ℕ
  pub high : List ℕ

abbrev pub fields : List ℕ → List ℕ → List ℕ → List ℕ → Fields
fields from to low high = record { from = from; to = to; low = low; high = high }

-- "later places stay", in each of them
pub record LaterFields (m : ℕ) (before after : Fields) : Type 0 where
  pub from : Later m before.from after.from
  pub to : Later m before.to after.to
  pub low : Later m before.low after.low
  pub high : Later m before.high after.high

-- a list at the front of an array, and every later place as it was
abbrev pub over : List ℕ → List ℕ → List ℕ
over xs before = xs ++ drop (length xs) before

-- a cost as two arrays, without open transitions: a weight for each transition, a close for each state
abbrev pub cost_of : List ℕ → List ℕ → Cost
cost_of weight close = record { step = λ t. get_or weight t 0; unlimited = λ t. false; close = λ s. get_or close s 0 }
