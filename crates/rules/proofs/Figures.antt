-- The figures of a plan within the limits. The limits give what the theorems on routes and figures ask of a graph: transitions lead to states of
-- the plan, there are at most 512 states, and no duration is above 2,047. So each figure exists and is one, over any cost, and has its bound;
-- and so it is for every plan that a list of calls from a fresh plan comes to.
-- Assumes nothing.
use mathlib.Core.Bool.{Bool, true}
use mathlib.Core.List.{List}
use mathlib.Core.Path.{◌≡◌}
use Prim.Native.Nat.{ℕ, ◌≤◌, ◌<◌}
use lib.ListN.{length}
use native.Mathlib.Omega.{arith}
use Rattle.graph.specs.declared.Which.{Which}
use Rattle.graph.specs.declared.Which.TheVariants.{LeastDelay, GreatestDelay, LeastCount, GreatestCount}
use Rattle.graph.specs.Compute.{least, greatest, figure_for}
use Rattle.graph.specs.Figure.{Figure, number, IsLeast, IsGreatest, IsFigure, Shown, most}
use Rattle.graph.proofs.Figures.{figure-is}
use Rattle.graph.specs.Graph.{Graph, states, count, Closed, transition, to, low, high, counted}
use Rattle.graph.specs.Route.{Cost, counts}
use Rattle.graph.proofs.Bound.{least-within, greatest-within, least-delay-le, greatest-delay-le, least-count-le, greatest-count-le}
use Rattle.graph.proofs.Greatest.{greatest-is, greatest_unique}
use Rattle.graph.proofs.Least.{least-is, least_unique}
use Rattle.rules.specs.Calls.{Call, run_fresh}
use Rattle.rules.specs.Limits.{within, state_count_ok, transition_ok}
use Rattle.rules.specs.Rules.{fresh_graph}
use Rattle.rules.proofs.Kept.{fresh-within, run-within}
use Rattle.rules.proofs.ReadWrite.{limited, Bounded, bounded}
use Rattle.rules.proofs.Results.{all_get_d}

module _ (g : Graph) (w : within g ≡ true) where
  each : (t : ℕ) → t < count g → Bounded (states g) (transition g t)
  unfolding transition
  each t h = bounded (states g) (transition g t) (all_get_d (transition_ok (states g)) g.transitions t _ (limited g w).each-transition h)

  pub within-closed : Closed g
  unfolding to
  within-closed t h = (each t h).to

  pub within-lows : (t : ℕ) → t < count g → low g t ≤ 2047
  unfolding low
  within-lows t h = omega (arith, (each t h).low, (each t h).high)

  pub within-highs : (t : ℕ) → t < count g → high g t ≤ 2047
  unfolding high
  within-highs t h = (each t h).high

  pub within-states : states g ≤ 512
  within-states = (limited g w).most

  -- each figure exists, over any cost, is one, and can be shown within n places
  pub least_exists : (c : Cost) → IsLeast g c (least g c)
  least_exists c = least-is g c within-closed

  pub least-one : (c : Cost) (f : Figure) → IsLeast g c f → f ≡ least g c
  least-one c f h = least_unique g c f (least g c) h (least_exists c)

  pub least_showable : (c : Cost) → (ts : List ℕ) × (j : ℕ) × Shown g c (least g c) ts j × (length ts ≤ states g)
  least_showable c = least-within g within-closed c (least g c) (least_exists c)

  pub greatest_exists : (c : Cost) → IsGreatest g c (greatest g c)
  greatest_exists c = greatest-is g c within-closed

  pub greatest-one : (c : Cost) (f : Figure) → IsGreatest g c f → f ≡ greatest g c
  greatest-one c f h = greatest_unique g c f (greatest g c) h (greatest_exists c)

  pub greatest_showable : (c : Cost) → (ts : List ℕ) × (j : ℕ) × Shown g c (greatest g c) ts j × (length ts ≤ states g)
  greatest_showable c = greatest-within g within-closed c (greatest g c) (greatest_exists c)

  -- and is no more than its bound; a count over any yes-or-no on states
  pub least-count-bound : (p : ℕ → Bool) (k : ℕ) → IsLeast g (counts g p) (number k) → k ≤ most LeastCount
  least-count-bound p k h = least-count-le g within-closed within-states k p h

  pub greatest-count-bound : (p : ℕ → Bool) (k : ℕ) → IsGreatest g (counts g p) (number k) → k ≤ most GreatestCount
  greatest-count-bound p k h = greatest-count-le g within-closed within-states k p h

  pub figure-bound : (which : Which) (k : ℕ) → IsFigure which g (number k) → k ≤ most which
  figure-bound LeastDelay k h = least-delay-le g within-closed within-states k within-lows h
  figure-bound GreatestDelay k h = greatest-delay-le g within-closed within-states k within-highs h
  figure-bound LeastCount k h = least-count-bound (counted g) k h
  figure-bound GreatestCount k h = greatest-count-bound (counted g) k h

  -- the figure that is computed is each of the four
  pub figure_exists : (which : Which) → IsFigure which g (figure_for which g)
  figure_exists which = figure-is which g within-closed

-- every plan that a list of calls from a fresh plan comes to is within the limits
pub listed_within : (n : ℕ) (calls : List Call) → state_count_ok n ≡ true → within (run_fresh n calls).last ≡ true
listed_within n calls h = run-within calls (fresh_graph n) (fresh-within n h)
