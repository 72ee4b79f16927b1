-- What a plan value means: the lists that its arrays and counts stand for. What stands in the arrays past the counts is no part of the plan.
-- Document 01, "The plan and its edits" and "Choosing the form by place". Assumes nothing.
use Rattle.std.specs.Prelude.{List, map, ℕ, replicate}
use Rattle.graph.specs.Graph.{Graph, State, Transition, states, count}
use Rattle.arrays.specs.Tables.{graph_in_arrays, over}
use Rattle.arrays.specs.declared.Plan.{Plan}

-- a plan value by its parts
abbrev pub plan_of : ℕ → ℕ → List ℕ → List ℕ → List ℕ → List ℕ → List ℕ → List ℕ → Plan
plan_of n m marks teams from to low high =
    record { states = n; transitions = m; marks = marks; teams = teams; from = from; to = to; low = low; high = high }

-- the plan that a plan value stands for, whatever the value is
unfoldable pub view : Plan → Graph
view p = graph_in_arrays p

-- the plan value for g with the arrays of p: the marks, teams and fields of g from the front on, and every later place as in p
unfoldable pub laid : Plan → Graph → Plan
laid p g =
    record {
      states = states g;
      transitions = count g;
      marks = over (map (λ (s : State). s.marks) g.state_list) p.marks;
      teams = over (map (λ (s : State). s.team) g.state_list) p.teams;
      from = over (map (λ (t : Transition). t.from) g.transitions) p.from;
      to = over (map (λ (t : Transition). t.to) g.transitions) p.to;
      low = over (map (λ (t : Transition). t.low) g.transitions) p.low;
      high = over (map (λ (t : Transition). t.high) g.transitions) p.high;
    }

-- the plan value with n states and all else zero
abbrev pub blank_plan : ℕ → Plan
blank_plan n =
    record {
      states = n;
      transitions = 0;
      marks = replicate 512 0;
      teams = replicate 512 0;
      from = replicate 2048 0;
      to = replicate 2048 0;
      low = replicate 2048 0;
      high = replicate 2048 0;
    }

-- "any plan value beside the number has 0 states, all else zero"
abbrev pub no_plan : Plan
no_plan = blank_plan 0
