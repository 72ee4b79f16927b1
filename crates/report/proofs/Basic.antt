-- Runs of the procedures on small plans, turn by turn, and where they part from document 01.
--
-- A run is written out: so many `turns`, then `ends`. Each test is computed. First plans of document 01, most with
-- durations of 1: what misleads people there does not mislead the procedures. Then plans that the comparison leaves
-- out: other durations, a dead end, no start, no transition at all, and a state that is both start and final. There a
-- procedure's value is not the figure: "Where they .. assume more than a plan offers (dead ends, no start), this paper
-- rules." Last, why figure 5 is not read by how far in its lines stand. Assumes nothing.
use Prim.Native.Nat.{ℕ, zero, suc, ◌<◌}
use mathlib.Core.Path.{◌≡◌, refl, sym, ◌∙◌, ap}
use mathlib.Core.Bool.{true, false, not, cond, ◌&&◌, true≢false, false≢true}
use mathlib.Core.List.{[], ◌∷◌}
use mathlib.Core.Logic.{inl, inr}
use native.Mathlib.Nat.{not-suc-le-zero, le_of_suc-le-suc}
use native.Mathlib.Omega.{arith}
use lib.Dec.{lit<}
use Rattle.graph.specs.declared.Which.{Which}
use Rattle.graph.specs.declared.Which.TheVariants.{LeastDelay, GreatestDelay, LeastCount, GreatestCount}
use Rattle.graph.specs.Graph.{Graph, Transition, marks_of, start, final, counted, transition, from, to, low, high, Departs, Closed}
use Rattle.graph.specs.Walk.{Begins}
use Rattle.graph.specs.Route.{GoesOnForever}
use Rattle.graph.specs.Compute.{any, nonempty, closed, figure_for}
use Rattle.graph.specs.Figure.{number, NONE, STRANDED, IsLeast, IsGreatest, IsFigure, cost_for}
use Rattle.graph.specs.Known.{plan, join, P1, P2, P3, P5, reached_dead_end}
use Rattle.graph.proofs.Walks.{start-below}
use Rattle.graph.proofs.Listed.{of_closed}
use Rattle.graph.proofs.Figures.{figure-is}
use Rattle.graph.proofs.Known.{known_hold}
use Rattle.report.specs.Procedure.{Loop, ends, turns, Procedure, Returns}
use Rattle.report.specs.Sets.{States, empty, same, N, T, T⁻¹}
use Rattle.report.specs.Bounds.{Bound, finite, ∞, lower, upper}
use Rattle.report.specs.Agreement.{TotalPlan}
use Rattle.report.specs.Counts.{those, at, Nₐ, Tₐ, updated, Vars, mincount, maxcount}

-- a→b with durations of 1
abbrev pub step : ℕ → ℕ → Transition
step a b = join a b 1 1

-- what lower and upper return
pub record Bounds (g : Graph) (least greatest : Bound) : Type 0 where
  pub shortest : Returns (lower g) least
  pub longest : Returns (upper g) greatest

-- what mincount and maxcount return over the counted mark
pub record Counts (g : Graph) (least greatest : Bound) : Type 0 where
  pub fewest : Returns (mincount g (counted g)) least
  pub most : Returns (maxcount g (counted g)) greatest

-- ---- plans of document 01

-- P1: the route 0, 1, 3 is the shortest, and 0, 1, 2, 3 the longest
pub P1-bounds : Bounds P1.plan (finite 2) (finite 3)
unfolding any empty same N T T⁻¹ marks_of start final from to transition
P1-bounds = record {
  shortest = (_, turns refl (turns refl (ends refl)), refl);
  longest = (_, turns refl (turns refl (turns refl (ends refl))), refl);
}

-- P8: the answer, and a loop at it. A walk that went on would go round it for ever
abbrev pub P8-steps : Graph
P8-steps = plan (4 ∷ 2 ∷ []) (step 0 1 ∷ step 1 1 ∷ [])

pub P8-bounds : Bounds P8-steps (finite 1) (finite 1)
unfolding any empty same N T T⁻¹ marks_of start final from to transition
P8-bounds = record { shortest = (_, turns refl (ends refl), refl); longest = (_, turns refl (ends refl), refl) }

pub P8_counts : Counts P8-steps (finite 0) (finite 0)
unfolding any N marks_of start final counted from to transition those Nₐ Tₐ updated
P8_counts = record { fewest = (_, turns refl (ends refl), refl); most = (_, turns refl (ends refl), refl) }

-- "first and last included": the last state alone is counted here
pub last_counted : Counts (plan (4 ∷ 3 ∷ []) (step 0 1 ∷ [])) (finite 1) (finite 1)
unfolding any N marks_of start final counted from to transition those Nₐ Tₐ updated
last_counted = record { fewest = (_, turns refl (ends refl), refl); most = (_, turns refl (ends refl), refl) }

pub P1_counts : Counts P1.plan (finite 1) (finite 2)
unfolding any N marks_of start final counted from to transition those Nₐ Tₐ updated
P1_counts = record {
  fewest = (_, turns refl (turns refl (turns refl (ends refl))), refl);
  most = (_, turns refl (turns refl (turns refl (ends refl))), refl);
}

-- P4: a loop before the answer
pub P4-bounds : Bounds (plan (4 ∷ 2 ∷ []) (step 0 0 ∷ step 0 1 ∷ [])) (finite 1) ∞
unfolding any empty same N T T⁻¹ marks_of start final from to transition
P4-bounds = record { shortest = (_, turns refl (ends refl), refl); longest = (_, turns refl (ends refl), refl) }

-- P7: a loop that no start reaches
pub P7-bounds : Bounds (plan (4 ∷ 2 ∷ 0 ∷ []) (step 0 1 ∷ step 2 2 ∷ [])) (finite 1) (finite 1)
unfolding any empty same N T T⁻¹ marks_of start final from to transition
P7-bounds = record { shortest = (_, turns refl (ends refl), refl); longest = (_, turns refl (ends refl), refl) }

-- A walk on from an answer: 1 is final and leads to 2 and back. The longest route is 0, 3, 1.
abbrev pub on_from_answer : Graph
on_from_answer = plan (4 ∷ 2 ∷ 0 ∷ 0 ∷ []) (step 0 1 ∷ step 1 2 ∷ step 2 1 ∷ step 0 3 ∷ step 3 1 ∷ [])

pub final_passed : Bounds on_from_answer (finite 1) (finite 2)
unfolding any empty same N T T⁻¹ marks_of start final from to transition
final_passed = record { shortest = (_, turns refl (ends refl), refl); longest = (_, turns refl (turns refl (ends refl)), refl) }

-- P9, and a transition back from 1: no final state, so every state goes on
pub P9-bounds : Bounds (plan (4 ∷ 0 ∷ []) (step 0 0 ∷ step 0 1 ∷ step 1 0 ∷ [])) ∞ ∞
unfolding any empty same N T T⁻¹ marks_of start final from to transition
P9-bounds = record { shortest = (_, turns refl (ends refl), refl); longest = (_, ends refl, refl) }

-- "Counting neither the first nor the last state": both are counted here
pub ends_counted : Counts (plan (5 ∷ 3 ∷ []) (step 0 1 ∷ [])) (finite 2) (finite 2)
unfolding any N marks_of start final counted from to transition those Nₐ Tₐ updated
ends_counted = record { fewest = (_, turns refl (ends refl), refl); most = (_, turns refl (ends refl), refl) }

-- A dead end is a state without a transition out, so a plan that has one is none of those that the procedures are
-- compared on.
pub dead_end-out : TotalPlan reached_dead_end.plan → ⊥
unfolding marks_of final from transition
dead_end-out q = let (t, d) = q.leaves 2 (lit< tt) refl in none t d
  where
    none : (t : ℕ) → Departs reached_dead_end.plan 2 t → ⊥
    none zero d = omega (arith, d.source)
    none (suc zero) d = omega (arith, d.source)
    none (suc (suc t)) d = not-suc-le-zero (le_of_suc-le-suc (le_of_suc-le-suc d.listed))

-- ---- where lower and upper part from document 01

-- Other durations: P1. Lower returns 2, the number of transitions, and the least delay is 7.
pub durations : Returns (lower P1.plan) (finite 2) × IsLeast P1.plan (cost_for LeastDelay P1.plan) (number 7)
durations = (P1-bounds.shortest, known_hold 0 (lit< tt) LeastDelay)

-- "Reading upper's result at a dead end as a delay: its walk has no answer." P3, whose start is a dead end: upper
-- returns 1, and the figure is STRANDED.
pub dead_end_lem : Returns (upper P3.plan) (finite 1) × IsGreatest P3.plan (cost_for GreatestDelay P3.plan) STRANDED
unfolding any empty same N T T⁻¹ marks_of start final from to transition
dead_end_lem = ((_, turns refl (ends refl), refl), known_hold 2 (lit< tt) GreatestDelay)

-- No start: P5. Upper returns 0, and the figure is NONE.
pub no_start : Returns (upper P5.plan) (finite 0) × IsGreatest P5.plan (cost_for GreatestDelay P5.plan) NONE
unfolding any empty same N T T⁻¹ marks_of start final from to transition
no_start = ((_, ends refl, refl), known_hold 4 (lit< tt) GreatestDelay)

-- Neither a start nor a final state. The report says below figure 4 that the two parts of the loop's test are never
-- false together; its reason looks one turn back, and before the first test there is none. Both are false here: upper
-- returns infinity, and the figure is NONE.
abbrev bare : Graph
bare = plan (0 ∷ []) []

pub both_false : Returns (upper bare) ∞ × IsGreatest bare (cost_for GreatestDelay bare) NONE
unfolding any empty same N T T⁻¹ marks_of start final from to transition
both_false = ((_, ends refl, refl), λ s b. absurd (false≢true (unmarked s (start-below bare s b) b)))
  where
    unmarked : (s : ℕ) → s < 1 → start bare s ≡ true → false ≡ true
    unmarked s h b = let z : s ≡ 0 = omega arith in rw z at b

-- A start with no transition and no final state: every state is unfinished, so upper finds R' the same as R at once and
-- returns infinity, and the figure is STRANDED.
abbrev alone : Graph
alone = plan (4 ∷ []) []

pub no-final : Returns (upper alone) ∞ × IsGreatest alone (cost_for GreatestDelay alone) STRANDED
unfolding any empty same N T T⁻¹ marks_of start final from to transition
no-final = (
  (_, ends refl, refl),
  ((λ none. none 0 refl), finite-there, (0, [], (refl, λ t d. not-suc-le-zero d.listed))),
)
  where
    finite-there : GoesOnForever alone (cost_for GreatestDelay alone) → ⊥
    finite-there (inl (s, taken, (b, (d, e)))) = not-suc-le-zero d.listed
    finite-there (inr (s, ts, w)) = not-suc-le-zero w.departs.listed

-- ---- where all four part from document 02's E5: a state that is both start and final

-- They take it for a route of no transitions, and "a route has at least one transition". Here it is counted, and leads to itself in 1 second: the one route is that
-- transition, and counts the state twice. Each of the four returns 1 less than the figure.
abbrev pub answered_steps : Graph
answered_steps = plan (7 ∷ []) (step 0 0 ∷ [])

-- It is none of the plans that the procedures are compared on, by this premise alone: it meets all others.
pub answered_out : TotalPlan answered_steps → ⊥
unfolding marks_of start final
answered_out q = true≢false (q.apart 0 refl)

pub answered_else : Closed answered_steps × Begins answered_steps 0 × ((s : ℕ) → s < 1 → (t : ℕ) × Departs answered_steps s t)
    × ((t : ℕ) → t < 1 → (low answered_steps t ≡ 1) × (high answered_steps t ≡ 1))
unfolding closed marks_of start from to low high transition
answered_else = (
  of_closed answered_steps refl,
  refl,
  (λ s l. (0, record { listed = lit< tt; source = omega arith })),
  (λ t l. let z : t ≡ 0 = omega arith in rw z (refl, refl)),
)

answered_figure : (which : Which) → IsFigure which answered_steps (figure_for which answered_steps)
unfolding closed marks_of to transition
answered_figure which = figure-is which answered_steps (of_closed answered_steps refl)

pub answered_lower : Returns (lower answered_steps) (finite 0) × IsLeast answered_steps (cost_for LeastDelay answered_steps) (number 1)
unfolding figure_for any empty same N T T⁻¹ marks_of start final counted from to low high transition
answered_lower = ((_, ends refl, refl), answered_figure LeastDelay)

pub answered_upper : Returns (upper answered_steps) (finite 0) × IsGreatest answered_steps (cost_for GreatestDelay answered_steps) (number 1)
unfolding figure_for any empty same N T T⁻¹ marks_of start final counted from to low high transition
answered_upper = ((_, ends refl, refl), answered_figure GreatestDelay)

pub answered_mincount : Returns (mincount answered_steps (counted answered_steps)) (finite 1) × IsLeast answered_steps (cost_for LeastCount answered_steps) (number 2)
unfolding figure_for any N marks_of start final counted from to low high transition those Nₐ Tₐ updated
answered_mincount = ((_, ends refl, refl), answered_figure LeastCount)

pub answered_maxcount : Returns (maxcount answered_steps (counted answered_steps)) (finite 1) × IsGreatest answered_steps (cost_for GreatestCount answered_steps) (number 2)
unfolding figure_for any N marks_of start final counted from to low high transition those Nₐ Tₐ updated
answered_maxcount = ((_, ends refl, refl), answered_figure GreatestCount)

-- P2 has no transition. "P2 gets P3's figures", NONE and STRANDED, and the four return numbers.
pub P2-bounds : Bounds P2.plan (finite 0) (finite 0) × IsFigure LeastDelay P2.plan NONE × IsFigure GreatestDelay P2.plan STRANDED
unfolding any empty same N T T⁻¹ marks_of start final from to transition
P2-bounds =
    (record { shortest = (_, ends refl, refl); longest = (_, ends refl, refl) }, known_hold 1 (lit< tt) LeastDelay, known_hold 1 (lit< tt) GreatestDelay)

pub P2_counts : Counts P2.plan (finite 1) (finite 1) × IsFigure LeastCount P2.plan NONE × IsFigure GreatestCount P2.plan STRANDED
unfolding any N marks_of start final counted from to transition those Nₐ Tₐ updated
P2_counts = (record { fewest = (_, ends refl, refl); most = (_, ends refl, refl) }, known_hold 1 (lit< tt) LeastCount, known_hold 1 (lit< tt) GreatestCount)

-- ---- figure 5 as its lines stand in

-- With "R' = .." and the lines below it under "if Reached_final ≠ ∅ then", a turn that reaches no final state leaves
-- all variables as they are.
abbrev pub indented : Graph → States → Procedure Vars Bound
indented g c = record {
  begin = (mincount g c).begin;
  first = λ v. cond (nonempty (at (final g) v.R)) ((mincount g c).first v) v;
  stop = λ v. nonempty (at (final g) v.R) && not (nonempty v.R');
  rest = λ v. cond (nonempty (at (final g) v.R)) ((mincount g c).rest v) v;
  answer = λ v. v.current;
}

-- So on P1, whose start is not final, it never returns.
abbrev on-P1 : Procedure Vars Bound
on-P1 = indented P1.plan (counted P1.plan)

pub never_returns : (b : Bound) → Returns on-P1 b → ⊥
unfolding any N marks_of start final counted from to transition those
never_returns b (e, r, h) = stays r refl
  where
    stays : {s e : Vars} → Loop on-P1.first on-P1.stop on-P1.rest s e
        → s ≡ on-P1.begin → ⊥
    stays (ends {s} h) q = true≢false (sym h ∙ ap (λ s. on-P1.stop (on-P1.first s)) q)
    stays (turns {s} h r) q = stays r (ap (λ s. on-P1.rest (on-P1.first s)) q)
