-- P1 to P9, the plans that mislead, those with open highs and those that begin answered hold of the rules themselves: one computed test over the tables, and one lemma
-- that turns it into the rules.
--
-- The test computes the four figures of a row's plan and compares them with the row's, and looks that each transition
-- leads to a state. What is computed meets the rules for every such plan (`figure-is`), so a figure equal
-- to it does (`holds`). Assumes nothing.
use Prim.Native.Nat.{ℕ, zero, suc, ◌<◌}
use mathlib.Core.Path.{◌≡◌, refl, sym, ◌∙◌, ap₂, subst}
use mathlib.Core.Bool.{Bool, true, ◌&&◌, and-eq-true_iff}
use mathlib.Core.List.{List, [], ◌∷◌, ◌++◌}
use mathlib.Core.Logic.{inl}
use native.Mathlib.Nat.{not-suc-le-zero, le_of_suc-le-suc}
use lib.Dec.{T, eqb, ltb, lit<}
use lib.ListN.{length, get_or}
use borrow.Author.Tests.{eqb-true}
use Rattle.graph.specs.Graph.{count, start, final, counted, from, to, low, high, Departs}
use Rattle.graph.specs.Walk.{visits, DifferentButEnds}
use Rattle.graph.specs.Route.{Route}
use Rattle.graph.specs.declared.Which.{Which}
use Rattle.graph.specs.declared.Which.TheVariants.{LeastDelay, GreatestDelay, LeastCount, GreatestCount}
use Rattle.graph.specs.Which.{every}
use Rattle.graph.specs.Figure.{Figure, number, NONE, STRANDED, ENDLESS, IsFigure, Shown, kind, value, cost_for}
use Rattle.graph.specs.Compute.{closed, figure_for}
use Rattle.graph.specs.Known.{Row, RowRight, known, misleading, P1, P4, P7, P8, unreached_dead_end, reached_dead_end}
use Rattle.graph.specs.Known.{counted_ends, opened, open_reached, open_unreached, open_answered, open_and_stranded}
use Rattle.graph.specs.Known.{P2, answered, answered_returns, answered_loop, answered_alone, answered_open}
use Rattle.graph.proofs.Listed.{of_closed}
use Rattle.graph.proofs.Figures.{figure-is}
use Rattle.graph.proofs.Greatest.{route-simple}

-- ---- the test

-- the figure of a record's kind and figure: the two determine it
pub figure_of_lem : ℕ → ℕ → Figure
figure_of_lem zero v = number v
figure_of_lem (suc zero) v = NONE
figure_of_lem (suc (suc zero)) v = STRANDED
figure_of_lem (suc (suc (suc k))) v = ENDLESS

pub figure-same : (f : Figure) → figure_of_lem (kind f) (value f) ≡ f
unfolding figure_of_lem
figure-same (number k) = refl
figure-same NONE = refl
figure-same STRANDED = refl
figure-same ENDLESS = refl

same : Figure → Figure → Bool
same f h = eqb (kind f) (kind h) && eqb (value f) (value h)

of_same : (f h : Figure) → same f h ≡ true → f ≡ h
unfolding same
of_same f h e =
    let (k, v) = (and-eq-true_iff (eqb (kind f) (kind h)) (eqb (value f) (value h))).0 e in
    sym (figure-same f) ∙ ap₂ figure_of_lem (eqb-true (kind f) (kind h) k) (eqb-true (value f) (value h) v) ∙ figure-same h

right : Row → Bool
unfolding closed same figure_for
right r = closed r.plan && every (λ which. same (figure_for which r.plan) (r.figures which))

-- ---- from the test to the rules

both : (a b : Bool) → a && b ≡ true → (a ≡ true) × (b ≡ true)
both a b e = (and-eq-true_iff a b).0 e

every_one : (p : Which → Bool) → every p ≡ true → (which : Which) → p which ≡ true
every_one p e LeastDelay = (both (p LeastDelay) _ e).0
every_one p e GreatestDelay = (both (p GreatestDelay) _ (both (p LeastDelay) _ e).1).0
every_one p e LeastCount = (both (p LeastCount) _ (both (p GreatestDelay) _ (both (p LeastDelay) _ e).1).1).0
every_one p e GreatestCount = (both (p LeastCount) _ (both (p GreatestDelay) _ (both (p LeastDelay) _ e).1).1).1

holds : (r : Row) → right r ≡ true → RowRight r
unfolding right
holds r e which =
    let (c, rest) = both (closed r.plan) _ e in
    subst (IsFigure which r.plan)
    (of_same (figure_for which r.plan) (r.figures which) (every_one (λ which. same (figure_for which r.plan) (r.figures which)) rest which))
    (figure-is which r.plan (of_closed r.plan c))

-- ---- the tables

all_right : List Row → Bool
unfolding right
all_right [] = true
all_right (r ∷ rs) = right r && all_right rs

all_hold : (rs : List Row) → all_right rs ≡ true → (i : ℕ) → i < length rs → RowRight (get_or rs i P1)
unfolding all_right
all_hold [] e i h = absurd (not-suc-le-zero h)
all_hold (r ∷ rs) e zero h = holds r (both (right r) (all_right rs) e).0
all_hold (r ∷ rs) e (suc i) h = all_hold rs (both (right r) (all_right rs) e).1 i (le_of_suc-le-suc h)

-- "P1 to P9 are shown to hold of the rules themselves, gathered into a table with one proof for the lot"; and so are
-- the plans that mislead, those with open highs, and those that begin answered
pub known_hold : (i : ℕ) → i < length (known ++ misleading ++ opened ++ answered) → RowRight (get_or (known ++ misleading ++ opened ++ answered) i P1)
unfolding all_right start final counted from to low high
known_hold = all_hold (known ++ misleading ++ opened ++ answered) refl

-- ---- the walks that 01 prints for P1

-- no walk of P1 is endless, so each of its routes visits no state twice but for its ends
P1-different : (s : ℕ) (ts : List ℕ) → Route P1.plan s ts → DifferentButEnds (visits P1.plan s ts)
P1-different s ts r = route-simple P1.plan (λ e. (known_hold 0 (lit< tt) GreatestDelay).1 (inl e)) s ts r

takes : (s t : ℕ) → T (ltb t (count P1.plan)) → from P1.plan t ≡ s → Departs P1.plan s t
takes s t l e = record { listed = lit< l; source = e }

-- 0→1, 1→3
P1-short : Route P1.plan 0 (0 ∷ 2 ∷ [])
unfolding start final from to
P1-short = (refl, (takes 0 0 tt refl, (refl, takes 1 2 tt refl, refl)))

-- 0→1, 1→2, 2→3
P1-long : Route P1.plan 0 (0 ∷ 1 ∷ 3 ∷ [])
unfolding start final from to
P1-long = (refl, (takes 0 0 tt refl, (refl, takes 1 1 tt refl, (refl, takes 2 3 tt refl, refl))))

-- "least delay 7: 0 2"
pub P1-least-delay : Shown P1.plan (cost_for LeastDelay P1.plan) (number 7) (0 ∷ 2 ∷ []) 0
unfolding low
P1-least-delay = (0, P1-short, refl, P1-different 0 (0 ∷ 2 ∷ []) P1-short, refl)

-- "greatest delay 60: 0 1 3"
pub P1-greatest-delay : Shown P1.plan (cost_for GreatestDelay P1.plan) (number 60) (0 ∷ 1 ∷ 3 ∷ []) 0
unfolding high
P1-greatest-delay = (0, P1-long, refl, P1-different 0 (0 ∷ 1 ∷ 3 ∷ []) P1-long, refl)

-- "least count 1: 0 2"
pub P1-least-count : Shown P1.plan (cost_for LeastCount P1.plan) (number 1) (0 ∷ 2 ∷ []) 0
unfolding counted from to
P1-least-count = (0, P1-short, refl, P1-different 0 (0 ∷ 2 ∷ []) P1-short, refl)

-- "greatest count 2: 0 1 3"
pub P1-greatest-count : Shown P1.plan (cost_for GreatestCount P1.plan) (number 2) (0 ∷ 1 ∷ 3 ∷ []) 0
unfolding counted from to
P1-greatest-count = (0, P1-long, refl, P1-different 0 (0 ∷ 1 ∷ 3 ∷ []) P1-long, refl)

-- ---- "What misleads people here"

-- "Walking on through a final state (P8)": whoever walks on meets the loop 1→1, and says ENDLESS
pub final-ends : IsFigure GreatestDelay P8.plan (number 2)
final-ends = known_hold 7 (lit< tt) GreatestDelay

-- "Letting a loop or dead end that no start reaches turn the greatest figure (P7)": ENDLESS, and STRANDED in the row
-- without the loop
pub unreached_loop : IsFigure GreatestDelay P7.plan (number 3)
unreached_loop = known_hold 6 (lit< tt) GreatestDelay

pub unreached_end : IsFigure GreatestDelay unreached_dead_end.plan (number 3)
unreached_end = known_hold 9 (lit< tt) GreatestDelay

-- "Taking a zero-duration loop for no loop (P4)": 1
pub zero-loop : IsFigure GreatestDelay P4.plan ENDLESS
zero-loop = known_hold 3 (lit< tt) GreatestDelay

-- "Reading upper's result at a dead end as a delay: its walk has no answer": 9
pub no_answer : IsFigure GreatestDelay reached_dead_end.plan STRANDED
no_answer = known_hold 10 (lit< tt) GreatestDelay

-- "Counting neither the first nor the last state": 0, or 1 with one of the two
pub both-ends-count : IsFigure LeastCount counted_ends.plan (number 2)
both-ends-count = known_hold 11 (lit< tt) LeastCount

-- ---- "A high of 2,047 shall mean no limit" (document 02, E2)

-- the greatest delay is ENDLESS, and the greatest count of the same plan is not
pub delay-alone : IsFigure GreatestDelay open_reached.plan ENDLESS × IsFigure GreatestCount open_reached.plan (number 1)
delay-alone = (known_hold 12 (lit< tt) GreatestDelay, known_hold 12 (lit< tt) GreatestCount)

-- nor where no start reaches it, nor out of a final state that the walk arrived at
pub unreached_open : IsFigure GreatestDelay open_unreached.plan (number 3)
unreached_open = known_hold 13 (lit< tt) GreatestDelay

pub arrived_open : IsFigure GreatestDelay open_answered.plan (number 2)
arrived_open = known_hold 14 (lit< tt) GreatestDelay

-- one plan with both: ENDLESS comes first for the delay, and the count is STRANDED
pub open_first : IsFigure GreatestDelay open_and_stranded.plan ENDLESS × IsFigure GreatestCount open_and_stranded.plan STRANDED
open_first = (known_hold 16 (lit< tt) GreatestDelay, known_hold 16 (lit< tt) GreatestCount)

-- ---- "Its first state may be final" (document 02, E5)

-- "P2 gets P3's figures"
pub P2-stranded : IsFigure LeastDelay P2.plan NONE × IsFigure GreatestDelay P2.plan STRANDED
P2-stranded = (known_hold 1 (lit< tt) LeastDelay, known_hold 1 (lit< tt) GreatestDelay)

-- "such a state counts twice if counted"
pub returns_counted : IsFigure LeastCount answered_returns.plan (number 2) × IsFigure GreatestCount answered_returns.plan (number 2)
returns_counted = (known_hold 19 (lit< tt) LeastCount, known_hold 19 (lit< tt) GreatestCount)

-- "An endless or stranded walk, or one that takes an open high, likewise may begin at a final start"
pub answered_forever : IsFigure GreatestDelay answered_loop.plan ENDLESS × IsFigure GreatestDelay answered_open.plan ENDLESS
answered_forever = (known_hold 20 (lit< tt) GreatestDelay, known_hold 24 (lit< tt) GreatestDelay)

-- "a start without transitions is a dead end", also beside a good one
pub alone-stranded : IsFigure LeastDelay answered_alone.plan (number 1) × IsFigure GreatestDelay answered_alone.plan STRANDED
alone-stranded = (known_hold 23 (lit< tt) LeastDelay, known_hold 23 (lit< tt) GreatestDelay)
