-- The plans with known figures, P1 to P9, and the plans that mislead: document 01, "Plans with known figures" and "What
-- misleads people here". proofs/Known.antt proves `RowRight` of every row. Assumes nothing.
use Rattle.std.specs.Prelude.{ℕ, List, [], ◌∷◌, map}
use Rattle.graph.specs.Graph.{Graph, Transition, marked}
use Rattle.graph.specs.declared.Which.{Which}
use Rattle.graph.specs.Which.{four}
use Rattle.graph.specs.Figure.{Figure, number, NONE, STRANDED, ENDLESS, IsFigure}

-- "a→b 1..9 is a transition with its durations"
abbrev pub join : ℕ → ℕ → ℕ → ℕ → Transition
join a b l h = record { from = a; to = b; low = l; high = h }

-- a plan by the marks values of its states, and its transitions
abbrev pub plan : List ℕ → List Transition → Graph
plan ms ts = record { state_list = map marked ms; transitions = ts }

-- a plan, and its "figures in record order"
pub record Row : Type 0 where
  pub plan : Graph
  pub figures : Which → Figure

abbrev pub row : List ℕ → List Transition → Figure → Figure → Figure → Figure → Row
row ms ts ld gd lc gc = record { plan = plan ms ts; figures = four ld gd lc gc }

-- the row's figures are the plan's, by the rules of Figure.antt
abbrev pub RowRight : Row → Type 0
RowRight r = (which : Which) → IsFigure which r.plan (r.figures which)

-- the 28 octets of "Plans with known figures": four states, the first a start, two counted ones, and the last final
abbrev pub P1-transitions : List Transition
P1-transitions = join 0 1 5 20 ∷ join 1 2 3 15 ∷ join 1 3 2 30 ∷ join 2 3 4 25 ∷ []

abbrev pub P1 : Row
P1 = row (4 ∷ 1 ∷ 1 ∷ 2 ∷ []) P1-transitions (number 7) (number 60) (number 1) (number 2)

-- "one state, marks 7", and "P2 gets P3's figures" (document 02, E5)
abbrev pub P2 : Row
P2 = row (7 ∷ []) [] NONE STRANDED NONE STRANDED

-- "two states, no transitions: NONE, STRANDED, NONE, STRANDED"
abbrev pub P3 : Row
P3 = row (4 ∷ 2 ∷ []) [] NONE STRANDED NONE STRANDED

-- "0→0 0..0, 0→1 1..1: 1, ENDLESS, 0, ENDLESS"
abbrev pub P4 : Row
P4 = row (4 ∷ 2 ∷ []) (join 0 0 0 0 ∷ join 0 1 1 1 ∷ []) (number 1) ENDLESS (number 0) ENDLESS

-- "P1 with no start: NONE four times"
abbrev pub P5 : Row
P5 = row (0 ∷ 1 ∷ 1 ∷ 2 ∷ []) P1-transitions NONE NONE NONE NONE

-- "0→1 1..9, 0→1 3..4: 1, 9, 0, 0"
abbrev pub P6 : Row
P6 = row (4 ∷ 2 ∷ []) (join 0 1 1 9 ∷ join 0 1 3 4 ∷ []) (number 1) (number 9) (number 0) (number 0)

-- "0→1 2..3, 2→2 1..1: 2, 3, 0, 0"
abbrev pub P7 : Row
P7 = row (4 ∷ 2 ∷ 0 ∷ []) (join 0 1 2 3 ∷ join 2 2 1 1 ∷ []) (number 2) (number 3) (number 0) (number 0)

-- "0→1 1..2, 1→1 5..5: 1, 2, 0, 0"
abbrev pub P8 : Row
P8 = row (4 ∷ 2 ∷ []) (join 0 1 1 2 ∷ join 1 1 5 5 ∷ []) (number 1) (number 2) (number 0) (number 0)

-- "state 1 unmarked, 0→0 1..1, 0→1 1..1: NONE, ENDLESS, NONE, ENDLESS"
abbrev pub P9 : Row
P9 = row (4 ∷ 0 ∷ []) (join 0 0 1 1 ∷ join 0 1 1 1 ∷ []) NONE ENDLESS NONE ENDLESS

abbrev pub known : List Row
known = P1 ∷ P2 ∷ P3 ∷ P4 ∷ P5 ∷ P6 ∷ P7 ∷ P8 ∷ P9 ∷ []

-- ---- "What misleads people here": P8, P7 and P4 above, and three rows of our own

-- "Letting a loop or dead end that no start reaches turn the greatest figure": P7 without its loop, so that state 2 is
-- a dead end that nothing reaches
abbrev pub unreached_dead_end : Row
unreached_dead_end = row (4 ∷ 2 ∷ 0 ∷ []) (join 0 1 2 3 ∷ []) (number 2) (number 3) (number 0) (number 0)

-- "Reading upper's result at a dead end as a delay: its walk has no answer": 9 seconds lead to the dead end 2, and the
-- answer comes after 1
abbrev pub reached_dead_end : Row
reached_dead_end = row (4 ∷ 2 ∷ 0 ∷ []) (join 0 1 1 1 ∷ join 0 2 9 9 ∷ []) (number 1) STRANDED (number 0) STRANDED

-- "Counting neither the first nor the last state": both are counted here, and they are all
abbrev pub counted_ends : Row
counted_ends = row (5 ∷ 3 ∷ []) (join 0 1 1 1 ∷ []) (number 1) (number 1) (number 2) (number 2)

abbrev pub misleading : List Row
misleading = unreached_dead_end ∷ reached_dead_end ∷ counted_ends ∷ []

-- ---- "A high of 2,047 shall mean no limit" (document 02, E2): seven rows of our own

-- an open transition that is reached: the greatest delay is ENDLESS, the greatest count a number
abbrev pub open_reached : Row
open_reached = row (4 ∷ 1 ∷ 2 ∷ []) (join 0 1 1 1 ∷ join 1 2 1 2047 ∷ []) (number 2) ENDLESS (number 1) (number 1)

-- one that no start reaches
abbrev pub open_unreached : Row
open_unreached = row (4 ∷ 2 ∷ 0 ∷ []) (join 0 1 2 3 ∷ join 2 1 1 2047 ∷ []) (number 2) (number 3) (number 0) (number 0)

-- one out of a final state that the walk arrived at
abbrev pub open_answered : Row
open_answered = row (4 ∷ 2 ∷ 0 ∷ []) (join 0 1 1 2 ∷ join 1 2 5 2047 ∷ []) (number 1) (number 2) (number 0) (number 0)

-- one whose walk is k = 1 into a final state; its low of 2,047 is 2,047 seconds
abbrev pub open_at-once : Row
open_at-once = row (4 ∷ 2 ∷ []) (join 0 1 2047 2047 ∷ []) (number 2047) ENDLESS (number 0) (number 0)

-- an open high beside a dead end: ENDLESS and STRANDED for the two greatest figures
abbrev pub open_and_stranded : Row
open_and_stranded = row (4 ∷ 2 ∷ 0 ∷ []) (join 0 1 1 2047 ∷ join 0 2 1 1 ∷ []) (number 1) ENDLESS (number 0) STRANDED

-- an open high whose low is small
abbrev pub open_from_small : Row
open_from_small = row (4 ∷ 2 ∷ []) (join 0 1 3 2047 ∷ join 0 1 5 9 ∷ []) (number 3) ENDLESS (number 0) (number 0)

-- one second less is a number
abbrev pub all_but_open : Row
all_but_open = row (4 ∷ 2 ∷ []) (join 0 1 0 2046 ∷ []) (number 0) (number 2046) (number 0) (number 0)

abbrev pub opened : List Row
opened = open_reached ∷ open_unreached ∷ open_answered ∷ open_at-once ∷ open_and_stranded ∷ open_from_small ∷ all_but_open ∷ []

-- ---- "Its first state may be final" (document 02, E5): six rows of our own, where state 0 is start and final

-- a transition to itself: a route of one transition, which ends where it began, and its state counts twice
abbrev pub answered_returns : Row
answered_returns = row (7 ∷ []) (join 0 0 3 4 ∷ []) (number 3) (number 4) (number 2) (number 2)

-- an unfinished loop
abbrev pub answered_loop : Row
answered_loop = row (6 ∷ 0 ∷ []) (join 0 1 1 1 ∷ join 1 1 1 1 ∷ []) NONE ENDLESS NONE ENDLESS

-- a dead end
abbrev pub answered_stranded : Row
answered_stranded = row (6 ∷ 0 ∷ []) (join 0 1 1 1 ∷ []) NONE STRANDED NONE STRANDED

-- another final state
abbrev pub answered_again : Row
answered_again = row (7 ∷ 3 ∷ []) (join 0 1 2 3 ∷ []) (number 2) (number 3) (number 2) (number 2)

-- no transition, beside a good start: 1→2 is the one route, and the start alone is a dead end
abbrev pub answered_alone : Row
answered_alone = row (6 ∷ 4 ∷ 2 ∷ []) (join 1 2 1 2 ∷ []) (number 1) STRANDED (number 0) STRANDED

-- an open transition
abbrev pub answered_open : Row
answered_open = row (6 ∷ 2 ∷ []) (join 0 1 1 2047 ∷ []) (number 1) ENDLESS (number 0) (number 0)

abbrev pub answered : List Row
answered = answered_returns ∷ answered_loop ∷ answered_stranded ∷ answered_again ∷ answered_alone ∷ answered_open ∷ []
