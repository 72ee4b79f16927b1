-- Routes, and what a route costs. Document 01, "Routes and figures", first and second paragraph.
--
-- A cost is one number for each transition and one for the last state, and says which transitions are open. Delays and
-- counts are costs, so whatever is said and proved of a cost holds of both. Assumes nothing.
use Rattle.std.specs.Prelude.{ℕ, ◌+◌, ◌≡◌, Bool, true, false, cond, List, [], ◌∷◌, ◌++◌, map, ◌⊎◌, eqb}
use Rattle.graph.specs.declared.Duration.{Duration}
use Rattle.graph.specs.declared.Duration.TheVariants.{Seconds, Open}
use Rattle.graph.specs.Graph.{Graph, Transition, from, to, low, high, Departs, Final, Unfinished, NoneDeparts, DeadEnd}
use Rattle.graph.specs.Walk.{WalkTo, Begun, visits, arrival, UnfinishedWalk, EndlessWalk}

-- "A route is a finite walk whose last state is final and no earlier one is."; first from any state.
abbrev pub RouteFrom : Graph → ℕ → List ℕ → Type 0
RouteFrom g = WalkTo g (Unfinished g) (Final g)

-- "The trade's rule becomes that a route has at least one transition. Its first state may be final, and no state between its first and last may be."
-- (document 02, E5): a start alone is none
abbrev pub Route : Graph → ℕ → List ℕ → Type 0
Route g = Begun g (λ s. ⊥) (RouteFrom g)

-- "A start leads to an answer when a route begins at it."
abbrev pub LeadsToAnswer : Graph → ℕ → Type 0
LeadsToAnswer g s = (ts : List ℕ) × Route g s ts

-- "an endless walk of unfinished states exists"
abbrev pub HasEndlessWalk : Graph → Type 0
HasEndlessWalk g = (s : ℕ) × (taken : ℕ → ℕ) × EndlessWalk g s taken

-- a walk of unfinished states that ends in a dead end; first from any state.
-- The hunt for a dead end "considers only states that unfinished walks reach".
abbrev pub StrandedFrom : Graph → ℕ → List ℕ → Type 0
StrandedFrom g = WalkTo g (Unfinished g) (DeadEnd g)

-- ".. and a start without transitions is a dead end" (E5), final or not
abbrev pub StrandedWalk : Graph → ℕ → List ℕ → Type 0
StrandedWalk g = Begun g (NoneDeparts g) (StrandedFrom g)

-- ".. and one can end unanswered when a walk of unfinished states ends in a dead end."
abbrev pub EndsUnanswered : Graph → Type 0
EndsUnanswered g = (s : ℕ) × (ts : List ℕ) × StrandedWalk g s ts

-- ---- costs

-- what the transition numbered t costs, whether it is open, and what the last state adds
pub record Cost : Type 0 where
  pub step : ℕ → ℕ
  pub unlimited : ℕ → Bool
  pub close : ℕ → ℕ

-- the cost of the walk from s by ts
abbrev pub total : Graph → Cost → ℕ → List ℕ → ℕ
total g c s [] = c.close s
total g c s (t ∷ ts) = c.step t + total g c (to g t) ts

-- "A high of 2,047 shall mean no limit, so a duration taken from a plan is either a number or open." (document 02, E2)
abbrev pub limit : ℕ → Duration
limit high = cond (eqb high 2047) Open (Seconds high)

-- what a duration adds to a sum. An open one adds nothing: no sum is quoted where a walk can take one (`highs_of` of proofs/Open.antt)
abbrev pub seconds : Duration → ℕ
seconds (Seconds k) = k
seconds Open = 0

abbrev pub is_open : Duration → Bool
is_open (Seconds k) = false
is_open Open = true

-- the cost of a duration for each transition
abbrev pub delays : (ℕ → Duration) → Cost
delays duration = record { step = λ t. seconds (duration t); unlimited = λ t. is_open (duration t); close = λ s. 0 }

-- WHAT A TRANSITION COSTS: "A route's delay is the sum of its lows for a least figure,"
-- A low is a number, 2,047 as any other: "Both counts and the least delay pay no heed to it" (E2)
abbrev pub lows : Graph → Cost
lows g = delays (λ t. Seconds (low g t))

-- "and of its highs for a greatest one."
abbrev pub highs : Graph → Cost
highs g = delays (λ t. limit (high g t))

-- 1 for yes, 0 for no
abbrev pub one : Bool → ℕ
one true = 1
one false = 0

-- "Its count is the number of counted states on it, first and last included, one for each visit", over any yes-or-no on
-- states: each transition counts the state that it leaves, and the last state is added. No transition is open (E2, as above)
abbrev pub counts : Graph → (ℕ → Bool) → Cost
counts g p = record { step = λ t. one (p (from g t)); unlimited = λ t. false; close = λ s. one (p s) }

-- the same in 01's own words, to hold `total` against (`delay-is` and `count-is` of proofs/Cost.antt): the sum over the
-- transitions, and the number of states on the walk of which p says yes
abbrev pub sum : List ℕ → ℕ
sum [] = 0
sum (x ∷ xs) = x + sum xs

abbrev pub tally : (ℕ → Bool) → List ℕ → ℕ
tally p [] = 0
tally p (s ∷ ss) = one (p s) + tally p ss

abbrev pub delay : (ℕ → ℕ) → List ℕ → ℕ
delay duration ts = sum (map duration ts)

abbrev pub number-on : Graph → (ℕ → Bool) → ℕ → List ℕ → ℕ
number-on g p s ts = tally p (visits g s ts)

-- ---- a call that goes on forever

-- "an unfinished walk from a start can take a transition with an open high" (E2): a walk of unfinished states, which begins as any does, and one open
-- transition more, which may lead anywhere
pub record OpenWalk (g : Graph) (c : Cost) (s : ℕ) (ts : List ℕ) : Type 0 where
  pub before : List ℕ
  pub last : ℕ
  pub ends_with : ts ≡ before ++ (last ∷ [])
  pub unfinished : UnfinishedWalk g s before
  pub departs : Departs g (arrival g s before) last
  pub unlimited : c.unlimited last ≡ true

abbrev pub HasOpenWalk : Graph → Cost → Type 0
HasOpenWalk g c = (s : ℕ) × (ts : List ℕ) × OpenWalk g c s ts

-- "A telephone call can go on forever unanswered when an endless walk of unfinished states exists", and "For the greatest delay an open ring then
-- counts as going on forever unanswered." (E2): by the cost, which says what is open
abbrev pub GoesOnForever : Graph → Cost → Type 0
GoesOnForever g c = HasEndlessWalk g ⊎ HasOpenWalk g c

-- ---- plans that differ in highs alone, of which "Both counts and the least delay pay no heed to it" (E2) speaks

-- a transition with its high left out
abbrev pub without_high : Transition → Transition
without_high t = record { from = t.from; to = t.to; low = t.low; high = 0 }

-- the same states, and transitions that are the same but for their highs
pub record SameButHighs (g h : Graph) : Type 0 where
  pub same-states : g.state_list ≡ h.state_list
  pub same-transitions : map without_high g.transitions ≡ map without_high h.transitions
