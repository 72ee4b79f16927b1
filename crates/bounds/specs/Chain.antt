-- P10: "512 states in a chain, each step 2047..2047, the last final", and by document 02, E2 "P10's steps become 2046..2046". Assumes nothing.
use Rattle.std.specs.Prelude.{cond, ℕ, zero, suc, eqb}
use Rattle.graph.specs.Graph.{Graph, Transition, marked}
use Rattle.graph.specs.Known.{join}
use Rattle.rules.specs.Image.{tabulate}

-- "state 0 is start", and state 511, the last, final
abbrev pub chain_marks : ℕ → ℕ
chain_marks zero = 4
chain_marks (suc s) = cond (eqb s 510) 2 0

-- from each state but the last to the next one
abbrev pub chain_transition : ℕ → Transition
chain_transition t = join t (suc t) 2046 2046

unfoldable pub chain : Graph
chain = record { state_list = tabulate 512 (λ s. marked (chain_marks s)); transitions = tabulate 511 chain_transition }
