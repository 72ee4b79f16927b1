-- The plan whose least delay is the greatest figure that there is, 1,048,064: a ring of 512 states. Document 02, E5 ("A shown route may end where it began") and E8. Assumes nothing.
use Rattle.std.specs.Prelude.{ℕ, zero, suc, ◌%◌}
use Rattle.graph.specs.Graph.{Graph, Transition, marked}
use Rattle.graph.specs.Known.{join}
use Rattle.rules.specs.Image.{tabulate}

-- state 0 is start, final and counted, and every other state counted
abbrev pub ring_marks : ℕ → ℕ
ring_marks zero = 7
ring_marks (suc s) = 1

-- from each state to the next one, and from the last to state 0, with "at most 2,047 seconds each"
abbrev pub ring_transition : ℕ → Transition
ring_transition t = join t (suc t % 512) 2047 2047

unfoldable pub ring : Graph
ring = record { state_list = tabulate 512 (λ s. marked (ring_marks s)); transitions = tabulate 512 ring_transition }
