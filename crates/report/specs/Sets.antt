-- Sets of states, and the successors and predecessors of a set: what figures 3 and 4 are written in.
--
-- A set of states is its yes-or-no on states. The states are the numbers below n, and no other number is ever looked
-- at: `any` of graph's specs/Compute.antt is the only way to ask whether some state is in a set. Assumes nothing.
use Rattle.std.specs.Prelude.{ℕ, Bool, true, not, ◌&&◌, ◌||◌, eqb}
use Rattle.std.specs.Bool.{beq}
use Rattle.graph.specs.Graph.{Graph, states, count, final, from, to}
use Rattle.graph.specs.Compute.{any}

abbrev pub States : Type 0
States = ℕ → Bool

infixl 35 ◌∩◌
infixl 30 ◌∪◌
infixl 30 ◌Δ◌
abbrev pub ◌∩◌ : States → States → States
A ∩ B = λ s. A s && B s

abbrev pub ◌∪◌ : States → States → States
A ∪ B = λ s. A s || B s

-- the states that are in one of the two alone
abbrev pub ◌Δ◌ : States → States → States
A Δ B = λ s. not (beq (A s) (B s))

-- TRUE, every state
abbrev pub TRUE : States
TRUE = λ s. true

-- not_final, "the set of all states that are not in final" (section 4, above figure 4)
abbrev pub not_final_lem : Graph → States
not_final_lem g = λ s. not (final g s)

-- A = ∅
unfoldable pub empty : Graph → States → Bool
empty g A = not (any A (states g))

-- A = B
unfoldable pub same : Graph → States → States → Bool
unfolding empty
same g A B = empty g (A Δ B)

-- N(s, s') "evaluates to true when there is a transition in the model from the state .. to the state .." (section 3,
-- first paragraph)
unfoldable pub N : Graph → ℕ → ℕ → Bool
N g s s' = any (λ t. eqb (from g t) s && eqb (to g t) s') (count g)

-- "T(S) = {s' | N(s, s') holds for some s ∈ S}" (section 4, first paragraph)
unfoldable pub T : Graph → States → States
T g A = λ s'. any (λ s. A s && N g s s') (states g)

-- "T⁻¹(S') = {s | N(s, s') holds for some s' ∈ S'}" (section 4, above figure 4)
unfoldable pub T⁻¹ : Graph → States → States
T⁻¹ g A = λ s. any (λ s'. A s' && N g s s') (states g)
