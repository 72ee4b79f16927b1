-- The premises of `ReportPlan` and `TotalPlan` can be met, and tested.
--
-- Whether a plan is one that demand 2 names is a computed test: every transition leads to a state and lasts 1, some
-- state is a start, none is both start and final, and no state is a dead end (`report_plan`). A plan of Basic passes it, so what lower and upper
-- return there are its delays. The test without durations is for the counts (`total-plan`): P1 passes that, so what
-- mincount and maxcount return there are its counts. Assumes nothing.
use Prim.Native.Nat.{ℕ, ◌<◌}
use mathlib.Core.Path.{◌≡◌, refl}
use mathlib.Core.Bool.{Bool, true, false, not, ◌&&◌, and-eq-true_iff}
use lib.Dec.{eqb}
use borrow.Author.Tests.{eqb-true, not-true, not-false}
use Rattle.graph.specs.declared.Which.TheVariants.{LeastDelay, GreatestDelay, LeastCount, GreatestCount}
use Rattle.graph.specs.Graph.{Graph, states, count, marks_of, start, final, transition, from, to, low, high, Departs}
use Rattle.graph.specs.Graph.{Unfinished}
use Rattle.graph.specs.Walk.{Begins}
use Rattle.graph.specs.Figure.{number, IsLeast, IsGreatest, cost_for}
use Rattle.graph.specs.Compute.{any, closed, leaving, dead_end}
use Rattle.graph.specs.Known.{P1}
use Rattle.graph.proofs.Tests.{any_of, none_of}
use Rattle.graph.proofs.Walks.{start-below}
use Rattle.graph.proofs.Listed.{of_closed, of_leaving}
use Rattle.report.specs.Sets.{◌∩◌}
use Rattle.report.specs.Bounds.{finite}
use Rattle.report.specs.Agreement.{TotalPlan, ReportPlan}
use Rattle.report.proofs.Basic.{P1-bounds, P1_counts, on_from_answer, final_passed}
use Rattle.report.proofs.Figures.{agreement, least-count, greatest-count}

-- does transition t last other than 1
unfoldable pub longer : Graph → ℕ → Bool
longer g t = not (eqb (low g t) 1 && eqb (high g t) 1)

unfoldable pub total-plan : Graph → Bool
unfolding any closed dead_end
total-plan g = closed g && (any (start g) (states g) && (not (any (dead_end g) (states g)) && not (any (start g ∩ final g) (states g))))

unfoldable pub report_plan : Graph → Bool
unfolding total-plan longer
report_plan g = total-plan g && not (any (longer g) (count g))

not_longer : (g : Graph) (t : ℕ) → longer g t ≡ false → (low g t ≡ 1) × (high g t ≡ 1)
unfolding longer
not_longer g t h =
    let (l, u) = (and-eq-true_iff (eqb (low g t) 1) (eqb (high g t) 1)).0 (not-false (eqb (low g t) 1 && eqb (high g t) 1) h) in
    (eqb-true (low g t) 1 l, eqb-true (high g t) 1 u)

not_dead_end : (g : Graph) (s : ℕ) → dead_end g s ≡ false → Unfinished g s → (t : ℕ) × Departs g s t
unfolding dead_end
not_dead_end g s h u = let some : not (leaving g s) ≡ false = rw u at h in of_leaving g s (not-false (leaving g s) some)

not_both : (g : Graph) (s : ℕ) → (start g ∩ final g) s ≡ false → Begins g s → Unfinished g s
not_both g s h b = rw b at h

pub of_total-plan : (g : Graph) → total-plan g ≡ true → TotalPlan g
unfolding total-plan
of_total-plan g h =
    let dead = any (dead_end g) (states g) in
    let both = any (start g ∩ final g) (states g) in
    let (a, h') = (and-eq-true_iff (closed g) (any (start g) (states g) && (not dead && not both))).0 h in
    let (b, h'') = (and-eq-true_iff (any (start g) (states g)) (not dead && not both)).0 h' in
    let (c, d) = (and-eq-true_iff (not dead) (not both)).0 h'' in
    let (s, l, y) = any_of (start g) (states g) b in
    record {
      closed = of_closed g a;
      started = (s, y);
      leaves = λ s l u. not_dead_end g s (none_of (dead_end g) (states g) (not-true dead c) s l) u;
      apart = λ s b. not_both g s (none_of (start g ∩ final g) (states g) (not-true both d) s (start-below g s b)) b;
    }

pub of_report_plan : (g : Graph) → report_plan g ≡ true → ReportPlan g
unfolding report_plan
of_report_plan g h =
    let (a, b) = (and-eq-true_iff (total-plan g) (not (any (longer g) (count g)))).0 h in
    let none = none_of (longer g) (count g) (not-true (any (longer g) (count g)) b) in
    let one : (t : ℕ) → t < count g → (low g t ≡ 1) × (high g t ≡ 1) = λ t l. not_longer g t (none t l) in
    record { total = of_total-plan g a; lows-one = λ t l. (one t l).0; highs-one = λ t l. (one t l).1 }

-- such a plan: its runs give its delays
the_plan : ReportPlan on_from_answer
unfolding report_plan marks_of start final from to low high transition
the_plan = of_report_plan on_from_answer refl

pub least_by_run : IsLeast on_from_answer (cost_for LeastDelay on_from_answer) (number 1)
least_by_run = ((agreement on_from_answer the_plan).lower-least (finite 1)).0 final_passed.shortest

pub greatest_by_run : IsGreatest on_from_answer (cost_for GreatestDelay on_from_answer) (number 2)
greatest_by_run = ((agreement on_from_answer the_plan).upper-greatest (finite 2)).0 final_passed.longest

-- P1's durations are others: its runs give its counts
P1-plan : TotalPlan P1.plan
unfolding total-plan marks_of start final from to transition
P1-plan = of_total-plan P1.plan refl

pub P1-least-count : IsLeast P1.plan (cost_for LeastCount P1.plan) (number 1)
P1-least-count = (least-count P1.plan P1-plan 3 P1-bounds.longest 1).0 P1_counts.fewest

pub P1-greatest-count : IsGreatest P1.plan (cost_for GreatestCount P1.plan) (number 2)
P1-greatest-count = (greatest-count P1.plan P1-plan 3 P1-bounds.longest 2).0 P1_counts.most
