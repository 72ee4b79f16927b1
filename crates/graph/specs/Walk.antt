-- Walks by transition numbers. Document 01, "Routes and figures", first paragraph.
--
-- A walk is a state, where it begins, and a list of transition numbers, or a sequence of them without end: the states on
-- it follow. What a walk must meet is said first of a walk from any state; how the walks of a plan begin is said by
-- `FromStart` and `FirstStep`, for finite and endless ones alike. Assumes nothing.
use Rattle.std.specs.Prelude.{ℕ, zero, suc, ◌<◌, ◌≡◌, true, List, [], ◌∷◌, length, get_or}
use Rattle.graph.specs.Graph.{Graph, start, to, Departs, Unfinished}

-- "transitions of the plan, each departing where the one before arrived": the list ts walked from s, any state.
-- `pass` holds of each state that the walk goes on from, and `stop` of the last one.
abbrev pub WalkTo : Graph → (ℕ → Type 0) → (ℕ → Type 0) → ℕ → List ℕ → Type 0
WalkTo g pass stop s [] = stop s
WalkTo g pass stop s (t ∷ ts) = pass s × Departs g s t × WalkTo g pass stop (to g t) ts

-- the states on the walk, first and last included, one for each visit
abbrev pub visits : Graph → ℕ → List ℕ → List ℕ
visits g s [] = s ∷ []
visits g s (t ∷ ts) = s ∷ visits g (to g t) ts

-- the last state of the walk
abbrev pub arrival : Graph → ℕ → List ℕ → ℕ
arrival g s [] = s
arrival g s (t ∷ ts) = arrival g (to g t) ts

-- a state that a walk of the plan begins at
abbrev pub Begins : Graph → ℕ → Type 0
Begins g s = start g s ≡ true

-- HOW A WALK BEGINS: "A walk is a start state followed by" its transitions, and K is asked of it ..
abbrev pub FromStart : {A : Type 0} → Graph → (ℕ → A → Type 0) → ℕ → A → Type 0
FromStart g K s ts = Begins g s × K s ts

-- .. "Its first state may be final" (document 02, E5): no more is asked of the first state than that a transition departs from it, and K is asked of the
-- rest, from where that leads
abbrev pub FirstStep : {A : Type 0} → Graph → (ℕ → A → Type 0) → ℕ → ℕ → A → Type 0
FirstStep g K s t rest = Departs g s t × K (to g t) rest

-- a finite walk of the plan; `alone` is asked of a start that is all of it
abbrev pub AfterStart : Graph → (ℕ → Type 0) → (ℕ → List ℕ → Type 0) → ℕ → List ℕ → Type 0
AfterStart g alone K s [] = alone s
AfterStart g alone K s (t ∷ ts) = FirstStep g K s t ts

abbrev pub Begun : Graph → (ℕ → Type 0) → (ℕ → List ℕ → Type 0) → ℕ → List ℕ → Type 0
Begun g alone K = FromStart g (AfterStart g alone K)

-- "A walk is a start state followed by transitions of the plan, each departing where the one before arrived": nothing
-- more is asked of its states. First from any state.
abbrev pub WalkFrom : Graph → ℕ → List ℕ → Type 0
WalkFrom g = WalkTo g (λ s. Unit {0}) (λ s. Unit {0})

abbrev pub Walk : Graph → ℕ → List ℕ → Type 0
Walk g = FromStart g (WalkFrom g)

-- "a walk of unfinished states"; first from any state. Of the plan, it "likewise may begin at a final start" (E5)
abbrev pub UnfinishedFrom : Graph → ℕ → List ℕ → Type 0
UnfinishedFrom g = WalkTo g (Unfinished g) (Unfinished g)

abbrev pub UnfinishedWalk : Graph → ℕ → List ℕ → Type 0
UnfinishedWalk g = Begun g (λ s. Unit {0}) (UnfinishedFrom g)

-- "visits no state twice": no two places of the list hold the same
abbrev pub Different : List ℕ → Type 0
Different xs = (i j : ℕ) → i < j → j < length xs → get_or xs i 0 ≡ get_or xs j 0 → ⊥

-- "may end where it began" (E5): no two places hold the same, unless they are the first and the last
abbrev pub DifferentButEnds : List ℕ → Type 0
DifferentButEnds xs = (i j : ℕ) → i < j → j < length xs → get_or xs i 0 ≡ get_or xs j 0 → (i ≡ 0) × (suc j ≡ length xs)

-- the state after the first i transitions of a sequence, walked from s
abbrev pub reached : Graph → ℕ → (ℕ → ℕ) → ℕ → ℕ
reached g s taken zero = s
reached g s taken (suc i) = to g (taken i)

-- "an endless walk of unfinished states": a transition for every number, so it never ends, "each departing where the one
-- before arrived"; first from any state
pub record EndlessFrom (g : Graph) (s : ℕ) (taken : ℕ → ℕ) : Type 0 where
  pub departs : (i : ℕ) → Departs g (reached g s taken i) (taken i)
  pub unfinished : (i : ℕ) → Unfinished g (reached g s taken i)

abbrev pub EndlessWalk : Graph → ℕ → (ℕ → ℕ) → Type 0
EndlessWalk g = FromStart g (λ s taken. FirstStep g (EndlessFrom g) s (taken 0) (λ i. taken (suc i)))
