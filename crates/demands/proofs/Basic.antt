-- The claim on small plans: runs written out beside computed figures, and plans that the premises leave out.
-- Assumes nothing.
use Prim.Native.Nat.{ℕ, zero, suc}
use mathlib.Core.Path.{◌≡◌, refl, ◌∙◌, ap}
use mathlib.Core.Bool.{true≢false, false≢true}
use mathlib.Core.List.{[], ◌∷◌}
use native.Mathlib.Nat.{not-suc-le-zero}
use native.Mathlib.Omega.{arith}
use lib.Dec.{lit<}
use Rattle.graph.specs.Graph.{Graph, marks_of, start, final, counted, transition, from, to, low, high}
use Rattle.graph.specs.Walk.{Begins}
use Rattle.graph.specs.Compute.{any, figure_for}
use Rattle.graph.specs.Figure.{value}
use Rattle.graph.specs.Known.{plan, P1, P3}
use Rattle.report.specs.Procedure.{ends, turns, Returns}
use Rattle.report.specs.Sets.{empty, same, N, T, T⁻¹}
use Rattle.report.specs.Bounds.{finite, ∞, lower, upper}
use Rattle.report.specs.Counts.{those, Nₐ, Tₐ, updated}
use Rattle.report.specs.Agreement.{least_figure}
use Rattle.report.proofs.Basic.{step, answered_steps, answered_lower}
use Rattle.report.proofs.Loop.{returns_once}
use Rattle.demands.specs.Report.{Premises, ReportFigures}

-- P1 with durations of 1: 0, 1, 3 is the shortest route, 0, 1, 2, 3 the longest, with 1 and 2 counted states
abbrev pub steps : Graph
steps = plan (4 ∷ 1 ∷ 1 ∷ 2 ∷ []) (step 0 1 ∷ step 1 2 ∷ step 1 3 ∷ step 2 3 ∷ [])

pub steps-agree : ReportFigures steps
unfolding figure_for any empty same N T T⁻¹ those Nₐ Tₐ updated marks_of start final counted transition from to low high
steps-agree = record {
  least-delay = (finite 2, (_, turns refl (turns refl (ends refl)), refl), refl);
  greatest-delay = (finite 3, (_, turns refl (turns refl (turns refl (ends refl))), refl), refl);
  least-count = λ i u. (1, (_, turns refl (turns refl (turns refl (ends refl))), refl), refl);
  greatest-count = λ i u. (2, (_, turns refl (turns refl (turns refl (ends refl))), refl), refl);
}

-- 0→0, 0→1, 1→0 and no final state: both return infinity, NONE from lower and ENDLESS from upper
abbrev round : Graph
round = plan (4 ∷ 0 ∷ []) (step 0 0 ∷ step 0 1 ∷ step 1 0 ∷ [])

round-upper : Returns (upper round) ∞
unfolding any empty same N T T⁻¹ marks_of start final transition from to
round-upper = (_, ends refl, refl)

pub round-agrees : ReportFigures round
unfolding figure_for any empty same N T T⁻¹ marks_of start final counted transition from to low high
round-agrees = record {
  least-delay = (∞, (_, turns refl (ends refl), refl), refl);
  greatest-delay = (∞, round-upper, refl);
  least-count = λ i u. absurd (not_finite i u);
  greatest-count = λ i u. absurd (not_finite i u);
}
  where
    not_finite : (i : ℕ) → Returns (upper round) (finite i) → ⊥
    not_finite i u =
        let e = returns_once (upper round) u round-upper in
        let z : ◌≡◌ {A = ℕ} 0 1 = cc in
        omega arith

-- ---- what the premises leave out

-- other durations
pub durations-out : Premises P1.plan → ⊥
unfolding transition low
durations-out p = omega (arith, p.lows-one 0 (lit< tt))

-- a dead end: P3, whose start it is
pub dead_end-out : Premises P3.plan → ⊥
unfolding marks_of final
dead_end-out p = let (t, d) = p.leaves 0 (lit< tt) refl in not-suc-le-zero d.listed

-- no start
pub no-start-out : Premises (plan (2 ∷ []) []) → ⊥
unfolding marks_of start
no-start-out p = let (s, b) = p.started in none s b
  where
    none : (s : ℕ) → Begins (plan (2 ∷ []) []) s → ⊥
    none zero b = false≢true b
    none (suc s) b = false≢true b

-- a state that is both start and final (document 02, E5): a plan that meets all the other premises (report's `answered_else`)
pub answered_out : Premises answered_steps → ⊥
unfolding marks_of start final
answered_out p = true≢false (p.apart 0 refl)

-- and the claim is false of it: lower returns 0, and the least delay is 1
pub answered_differs : ReportFigures answered_steps → ⊥
unfolding figure_for any marks_of start final counted transition from to low high
answered_differs r =
    let (b, run, e) = r.least-delay in
    let z : ◌≡◌ {A = ℕ} 0 1 = ap value (ap least_figure (returns_once (lower answered_steps) answered_lower.0 run) ∙ e) in
    omega arith
