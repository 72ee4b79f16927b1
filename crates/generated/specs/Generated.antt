-- Test plans, made from a seed: the plan over the generator's draws, and generate's rows of the table. Document 02, E7. Assumes nothing.
use Rattle.std.specs.Prelude.{cond, not, List, [], ◌∷◌, ◌++◌, ℕ, ◌+◌, ◌-◌, ◌*◌, ◌%◌, eqb}
use Rattle.generator.specs.Words.{draw}
use Rattle.graph.specs.Graph.{Graph, Transition, marked, marks_from}
use Rattle.rules.specs.declared.Refusal.TheVariants.{TransitionCount}
use Rattle.rules.specs.Image.{tabulate}
use Rattle.rules.specs.Limits.{transition_count_ok}
use Rattle.rules.specs.Refusal.{Result}
use Rattle.rules.specs.Rules.{fresh_rows}
use Rattle.rules.specs.Table.{Row, by_table}

-- "from and to are a draw modulo n, low a draw modulo 2,048, and high is low plus a draw modulo (2,048 − low)": the transition that four draws make. One
-- whose high comes out as 2,047 is open, as any is (E2)
abbrev pub transition_from : ℕ → ℕ → ℕ → ℕ → ℕ → Transition
transition_from n from to low high =
    record { from = from % n; to = to % n; low = low % 2048; high = low % 2048 + high % (2048 - low % 2048) }

-- "A transition takes four draws": transition i of a plan with n states
unfoldable pub transition_drawn : ℕ → ℕ → ℕ → Transition
transition_drawn s n i = transition_from n (draw s (4 * i)) (draw s (4 * i + 1)) (draw s (4 * i + 2)) (draw s (4 * i + 3))

-- "State 0 is start and state n − 1 final, no other mark set": the marks value of state i
abbrev pub marks_drawn : ℕ → ℕ → ℕ
marks_drawn n i = marks_from (cond (eqb i 0) 1 0) (cond (eqb (i + 1) n) 1 0) 0

-- the plan of n states, "all teams zero", and m transitions that seed s makes
unfoldable pub generated_graph : ℕ → ℕ → ℕ → Graph
generated_graph s n m = record { state_list = tabulate n (λ i. marked (marks_drawn n i)); transitions = tabulate m (transition_drawn s n) }

-- "A bad n returns 4, then a transition count above 2,048 returns 5." It is given no plan
abbrev pub generate_rows : ℕ → ℕ → List Row
generate_rows n m = fresh_rows n ++ ((TransitionCount, not (transition_count_ok m)) ∷ [])

unfoldable pub generate_rule : ℕ → ℕ → ℕ → Result Graph
generate_rule s n m = by_table (generate_rows n m) (generated_graph s n m)
