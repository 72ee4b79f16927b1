-- The report's procedures give the figures of every plan that demand 2 names, and so of every such plan after a list of
-- calls.
--
-- The limits give what `agreement` of the report asks beside the premises, that a transition leads to a state. It says
-- that what is returned is the least or the greatest figure; there is one of each, and it is the one computed
-- (`least-one`, `greatest-one`). Wherever upper is finite, mincount and maxcount return a number. Assumes nothing.
use mathlib.Core.Bool.{true}
use mathlib.Core.List.{List, [], ◌∷◌}
use mathlib.Core.Path.{◌≡◌, refl}
use Prim.Native.Nat.{ℕ}
use native.Mathlib.Omega.{arith}
use Rattle.graph.specs.declared.Which.TheVariants.{LeastDelay, GreatestDelay, LeastCount, GreatestCount}
use Rattle.graph.specs.Graph.{Graph, marks_of, start, final, counted, transition, from, to, low, high}
use Rattle.graph.specs.Figure.{number, cost_for}
use Rattle.graph.specs.Compute.{figure_for}
use Rattle.report.specs.Agreement.{TotalPlan, ReportPlan, Agreement, least_figure, greatest_figure}
use Rattle.report.proofs.Basic.{step}
use Rattle.report.proofs.Figures.{agreement}
use Rattle.report.proofs.Premises.{report_plan, of_report_plan}
use Rattle.rules.specs.Calls.{Call, mark, join, run, run_fresh}
use Rattle.rules.specs.Limits.{all, within, state_count_ok}
use Rattle.rules.proofs.Figures.{within-closed, least-one, greatest-one, listed_within}
use Rattle.demands.specs.Report.{Premises, ReportFigures}
use Rattle.demands.proofs.Basic.{steps}

module _ (g : Graph) (w : within g ≡ true) (p : Premises g) where
  agrees : Agreement g
  agrees =
      let total : TotalPlan g = record { closed = within-closed g w; started = p.started; leaves = λ s l u. p.leaves s (omega (arith, l)) u; apart = p.apart } in
      agreement g (record { total = total; lows-one = p.lows-one; highs-one = p.highs-one })

  pub report_figures : ReportFigures g
  unfolding figure_for
  report_figures = record {
    least-delay =
        let (b, r) = agrees.lower_returns in
        (b, r, least-one g w (cost_for LeastDelay g) (least_figure b) ((agrees.lower-least b).0 r));
    greatest-delay =
        let (b, r) = agrees.upper_returns in
        (b, r, greatest-one g w (cost_for GreatestDelay g) (greatest_figure b) ((agrees.upper-greatest b).0 r));
    least-count = λ i u.
        let (k, r) = agrees.counts_agree.mincount_returns i u (counted g) in
        (k, r, least-one g w (cost_for LeastCount g) (number k) ((agrees.counts_agree.mincount-least i u (counted g) k).0 r));
    greatest-count = λ i u.
        let (k, r) = agrees.counts_agree.maxcount_returns i u (counted g) in
        (k, r, greatest-one g w (cost_for GreatestCount g) (number k) ((agrees.counts_agree.maxcount-greatest i u (counted g) k).0 r));
  }

-- of the plan after any list of calls from a fresh plan
pub listed_report_figures : (n : ℕ) (calls : List Call) → state_count_ok n ≡ true → Premises (run_fresh n calls).last
    → ReportFigures (run_fresh n calls).last
listed_report_figures n calls h = report_figures (run_fresh n calls).last (listed_within n calls h)

-- ---- the premises can be met

-- the calls that make `steps`, P1 with durations of 1, of a fresh plan of four states
abbrev steps-calls : List Call
steps-calls =
    mark 0 4 ∷ mark 1 1 ∷ mark 2 1 ∷ mark 3 2
    ∷ join (step 0 1) ∷ join (step 1 2) ∷ join (step 1 3) ∷ join (step 2 3) ∷ []

pub steps_listed : (run_fresh 4 steps-calls).last ≡ steps
unfolding run within all
steps_listed = refl

pub steps_premises : Premises steps
unfolding report_plan marks_of start final from to low high transition
steps_premises =
    let q : ReportPlan steps = of_report_plan steps refl in
    record {
      lows-one = q.lows-one;
      highs-one = q.highs-one;
      started = q.total.started;
      leaves = λ s l u. q.total.leaves s (omega (arith, l)) u;
      apart = q.total.apart;
    }
