-- What is shown of the four procedures: on which plans, and a field for each claim. proofs/Figures.antt proves it.
-- Assumes nothing.
use Rattle.std.specs.Prelude.{ℕ, ◌<◌, ◌≡◌, ◌↔◌}
use Rattle.graph.specs.declared.Which.TheVariants.{LeastDelay, GreatestDelay}
use Rattle.graph.specs.Graph.{Graph, states, count, low, high, Departs, Unfinished, Closed}
use Rattle.graph.specs.Walk.{Begins}
use Rattle.graph.specs.Route.{counts}
use Rattle.graph.specs.Figure.{Figure, number, NONE, ENDLESS, IsLeast, IsGreatest, cost_for}
use Rattle.report.specs.Procedure.{Returns}
use Rattle.report.specs.Sets.{States}
use Rattle.report.specs.Bounds.{Bound, finite, ∞, lower, upper}
use Rattle.report.specs.Counts.{mincount, maxcount}

-- The plans that the counts are compared on, whatever their durations. Of a plan's limits one is needed: a transition
-- leads to a state of the plan.
pub record TotalPlan (g : Graph) : Type 0 where
  pub closed : Closed g
  -- "some state is marked start"
  pub started : (s : ℕ) × Begins g s
  -- "every unfinished state has a transition out": the report's "the transition relation is total" (section 4, last
  -- paragraph)
  pub leaves : (s : ℕ) → s < states g → Unfinished g s → (t : ℕ) × Departs g s t
  -- "The report's procedures are matched from then on for plans where no state is both start and final." (document 02, E5)
  pub apart : (s : ℕ) → Begins g s → Unfinished g s

-- The plans that demand 2 names.
pub record ReportPlan (g : Graph) : Type 0 where
  pub total : TotalPlan g
  -- "all durations are 1"
  pub lows-one : (t : ℕ) → t < count g → low g t ≡ 1
  pub highs-one : (t : ℕ) → t < count g → high g t ≡ 1

-- the figure that a value stands for: the number itself, and for infinity the kind f
abbrev pub figure : Figure → Bound → Figure
figure f (finite k) = number k
figure f ∞ = f

-- "Infinity from lower is NONE here, infinity from upper is ENDLESS." (document 01, "Where the rules come from")
abbrev pub least_figure : Bound → Figure
least_figure = figure NONE

abbrev pub greatest_figure : Bound → Figure
greatest_figure = figure ENDLESS

-- wherever upper is finite, mincount and maxcount return numbers, the least and the greatest count: over any yes-or-no
-- on states
pub record CountAgreement (g : Graph) : Type 0 where
  pub mincount_returns : (i : ℕ) → Returns (upper g) (finite i) → (c : States)
      → (k : ℕ) × Returns (mincount g c) (finite k)
  pub maxcount_returns : (i : ℕ) → Returns (upper g) (finite i) → (c : States)
      → (k : ℕ) × Returns (maxcount g c) (finite k)
  pub mincount-least : (i : ℕ) → Returns (upper g) (finite i) → (c : States) (k : ℕ)
      → Returns (mincount g c) (finite k) ↔ IsLeast g (counts g c) (number k)
  pub maxcount-greatest : (i : ℕ) → Returns (upper g) (finite i) → (c : States) (k : ℕ)
      → Returns (maxcount g c) (finite k) ↔ IsGreatest g (counts g c) (number k)

pub record Agreement (g : Graph) : Type 0 where
  -- lower and upper return
  pub lower_returns : (b : Bound) × Returns (lower g) b
  pub upper_returns : (b : Bound) × Returns (upper g) b
  -- infinity from lower is NONE, infinity from upper is ENDLESS, and otherwise they return the least and the greatest delay
  pub lower-least : (b : Bound) → Returns (lower g) b ↔ IsLeast g (cost_for LeastDelay g) (least_figure b)
  pub upper-greatest : (b : Bound) → Returns (upper g) b ↔ IsGreatest g (cost_for GreatestDelay g) (greatest_figure b)
  -- and the counts
  pub counts_agree : CountAgreement g
