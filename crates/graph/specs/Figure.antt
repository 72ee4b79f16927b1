-- The figures: their kinds, when a figure is the least or the greatest one for a cost, and what is shown with it.
-- Document 01, "Routes and figures", from "Least delay" on. Assumes nothing.
use Rattle.std.specs.Prelude.{ℕ, ◌≤◌, ◌<◌, ◌≡◌, Bool, true, List, ◌⊎◌, length, take}
use Rattle.graph.specs.declared.Which.{Which}
use Rattle.graph.specs.declared.Which.TheVariants.{LeastDelay, GreatestDelay, LeastCount, GreatestCount}
use Rattle.graph.specs.Graph.{Graph, start, counted, low, high}
use Rattle.graph.specs.Walk.{visits, arrival, UnfinishedWalk, Different, DifferentButEnds}
use Rattle.graph.specs.Route.{Route, StrandedWalk, OpenWalk, GoesOnForever, EndsUnanswered, Cost, total, lows, highs}
use Rattle.graph.specs.Route.{counts, delay, number-on}

-- "its number or kind"
pub data Figure : Type 0 where
  number : ℕ → Figure
  NONE STRANDED ENDLESS : Figure

-- the record's kind: "0 number, 1 NONE, 2 STRANDED, 3 ENDLESS"
abbrev pub kind : Figure → ℕ
kind (number k) = 0
kind NONE = 1
kind STRANDED = 2
kind ENDLESS = 3

-- the record's figure: "zero unless the kind is 0"
abbrev pub value : Figure → ℕ
value (number k) = k
value NONE = 0
value STRANDED = 0
value ENDLESS = 0

-- k is what some route costs
abbrev pub Attained : Graph → Cost → ℕ → Type 0
Attained g c k = (s : ℕ) × (ts : List ℕ) × Route g s ts × (total g c s ts ≡ k)

-- k is what some route costs, and every route's cost x is related to it
pub record Extreme (before : ℕ → ℕ → Type 0) (g : Graph) (c : Cost) (k : ℕ) : Type 0 where
  pub attained : Attained g c k
  pub bound : (s : ℕ) (ts : List ℕ) → Route g s ts → before k (total g c s ts)

-- "the smallest .. over all routes": no route costs less
abbrev pub Smallest : Graph → Cost → ℕ → Type 0
Smallest = Extreme (λ k x. k ≤ x)

-- "the largest .. over all routes": no route costs more
abbrev pub Largest : Graph → Cost → ℕ → Type 0
Largest = Extreme (λ k x. x ≤ k)

-- "the smallest sum of lows over all routes; NONE if there is no route", and so for the counts
abbrev pub IsLeast : Graph → Cost → Figure → Type 0
IsLeast g c (number k) = Smallest g c k
IsLeast g c NONE = (s : ℕ) (ts : List ℕ) → Route g s ts → ⊥
IsLeast g c STRANDED = ⊥
IsLeast g c ENDLESS = ⊥

-- "no state is marked start"
abbrev pub NoStart : Graph → Type 0
NoStart g = (s : ℕ) → start g s ≡ true → ⊥

-- "first that applies: NONE if no state is marked start; ENDLESS if an endless walk of unfinished states exists;
-- STRANDED if a walk of unfinished states ends in a dead end; else the largest .. over all routes". "Greatest delay is then ENDLESS also when an
-- unfinished walk from a start can take a transition with an open high." (E2)
abbrev pub IsGreatest : Graph → Cost → Figure → Type 0
IsGreatest g c NONE = NoStart g
IsGreatest g c ENDLESS = (NoStart g → ⊥) × GoesOnForever g c
IsGreatest g c STRANDED = (NoStart g → ⊥) × (GoesOnForever g c → ⊥) × EndsUnanswered g
IsGreatest g c (number k) = (NoStart g → ⊥) × (GoesOnForever g c → ⊥) × (EndsUnanswered g → ⊥) × Largest g c k

-- ---- the four figures: least delay, greatest delay, least count, greatest count

-- what each sums: "the sum of its lows for a least figure, and of its highs for a greatest one", and "the number of counted states", "over any yes-or-no on states"
-- (document 02, E4): p says which count
abbrev pub cost_over : Which → (ℕ → Bool) → Graph → Cost
cost_over LeastDelay p g = lows g
cost_over GreatestDelay p g = highs g
cost_over LeastCount p g = counts g p
cost_over GreatestCount p g = counts g p

-- what a route comes to, in 01's own words, to hold `total` of that cost against (`in_own-words` of proofs/Sentences.antt): "the sum of its lows for a least figure, and of its highs for a greatest one", or "the number of counted states on it, first and last
-- included, one for each visit"
abbrev pub comes_to : Which → (ℕ → Bool) → Graph → ℕ → List ℕ → ℕ
comes_to LeastDelay p g s ts = delay (low g) ts
comes_to GreatestDelay p g s ts = delay (high g) ts
comes_to LeastCount p g s ts = number-on g p s ts
comes_to GreatestCount p g s ts = number-on g p s ts

-- by the counted mark
abbrev pub cost_for : Which → Graph → Cost
cost_for which g = cost_over which (counted g) g

-- f is that figure of the plan
abbrev pub IsFigure : Which → Graph → Figure → Type 0
IsFigure LeastDelay g = IsLeast g (cost_for LeastDelay g)
IsFigure GreatestDelay g = IsGreatest g (cost_for GreatestDelay g)
IsFigure LeastCount g = IsLeast g (cost_for LeastCount g)
IsFigure GreatestCount g = IsGreatest g (cost_for GreatestCount g)

-- the most that its number can be, of a plan within the limits: 512 transitions of 2,047 seconds, of 2,046 for a greatest delay since a high of 2,047 is no
-- number, and 513 counted states, since one may count twice (proofs/Bound.antt)
abbrev pub most : Which → ℕ
most LeastDelay = 1048064
most GreatestDelay = 1047552
most LeastCount = 513
most GreatestCount = 513

-- ---- what is shown

-- "For ENDLESS: an unfinished walk and a place j below k, where the state after k transitions is the state after j, and
-- the first k states differ."
abbrev pub LoopShown : Graph → List ℕ → ℕ → Type 0
LoopShown g ts j =
    (s : ℕ) × UnfinishedWalk g s ts × (j < length ts) × (arrival g s ts ≡ arrival g s (take j ts)) × Different (take (length ts) (visits g s ts))

-- "A walk shown for that ends with the transition, j equals k, and its first k states still differ." (E2)
abbrev pub OpenShown : Graph → Cost → List ℕ → ℕ → Type 0
OpenShown g c ts j = (s : ℕ) × OpenWalk g c s ts × (j ≡ length ts) × Different (take (length ts) (visits g s ts))

-- the walk of transition numbers ts, k of them, with the place j, is as 01 asks for the figure. "Only ENDLESS has a j":
-- beside any other kind it is 0. "Which of several such walks is shown is left free."
abbrev pub Shown : Graph → Cost → Figure → List ℕ → ℕ → Type 0
-- "For a number: a route that attains the figure and visits no state twice", but "A shown route may end where it began, and such a state counts twice if
-- counted." (document 02, E5)
Shown g c (number k) ts j = (s : ℕ) × Route g s ts × (total g c s ts ≡ k) × DifferentButEnds (visits g s ts) × (j ≡ 0)
-- "For STRANDED: an unfinished walk to a dead end, no state twice."
Shown g c STRANDED ts j = (s : ℕ) × StrandedWalk g s ts × Different (visits g s ts) × (j ≡ 0)
-- for ENDLESS, a loop or an open transition
Shown g c ENDLESS ts j = LoopShown g ts j ⊎ OpenShown g c ts j
-- "For NONE: k is 0."
Shown g c NONE ts j = (length ts ≡ 0) × (j ≡ 0)
