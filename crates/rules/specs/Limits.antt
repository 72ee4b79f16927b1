-- The limits of a plan. Document 01, "The plan and its edits". Assumes nothing.
use Rattle.std.specs.Prelude.{Bool, true, ◌&&◌, List, [], ◌∷◌, ℕ, leb, ltb}
use Rattle.graph.specs.Class.{team_ok}
use Rattle.graph.specs.Graph.{Graph, State, Transition, states, count}

-- a test holds of every element
unfoldable pub all : {A : Type 0} → (A → Bool) → List A → Bool
all test [] = true
all test (x ∷ xs) = test x && all test xs

-- "a number of states n (1 to 512)"
abbrev pub state_count_ok : ℕ → Bool
state_count_ok n = leb 1 n && leb n 512

-- "a list of 0 to 2,048 transitions"
abbrev pub transition_count_ok : ℕ → Bool
transition_count_ok m = leb m 2048

-- "A marks value is 0 to 7"
abbrev pub marks_ok : ℕ → Bool
marks_ok v = leb v 7

-- the limits of a state: its marks value, and "a team number, 0 to 31" (document 02, E4)
abbrev pub state_ok : State → Bool
state_ok s = marks_ok s.marks && team_ok s.team

-- "a from state, a to state": both are states of a plan with n of them
abbrev pub ends_ok : ℕ → Transition → Bool
ends_ok n t = ltb t.from n && ltb t.to n

-- "a low and a high duration in seconds, 0 to 2,047 each, low at most high"
abbrev pub durations_ok : Transition → Bool
durations_ok t = leb t.low t.high && leb t.high 2047

-- the limits of a transition of a plan with n states
abbrev pub transition_ok : ℕ → Transition → Bool
transition_ok n t = ends_ok n t && durations_ok t

-- "a limit of a plan": the plan breaks none
unfoldable pub within : Graph → Bool
within g =
    state_count_ok (states g) && transition_count_ok (count g) && all state_ok g.state_list && all (transition_ok (states g)) g.transitions
