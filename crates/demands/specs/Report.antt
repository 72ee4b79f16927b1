-- Demand 2's sentence about the report, of plans: where all durations are 1, some state is marked start and every
-- unfinished state has a transition out, and by document 02's E5 no state is both start and final, the report's lower and
-- upper return the least and the greatest delay, and wherever upper is finite its mincount and maxcount return the least
-- and the greatest count.
--
-- The figures are those that are quoted, by computation (graph's specs/Compute.antt). Assumes nothing.
use Rattle.std.specs.Prelude.{ℕ, ◌<◌, ◌≡◌}
use Rattle.graph.specs.declared.Which.TheVariants.{LeastDelay, GreatestDelay, LeastCount, GreatestCount}
use Rattle.graph.specs.Graph.{Graph, states, count, counted, low, high, Departs, Unfinished}
use Rattle.graph.specs.Walk.{Begins}
use Rattle.graph.specs.Figure.{Figure, number}
use Rattle.graph.specs.Compute.{figure_for}
use Rattle.report.specs.Procedure.{Procedure, Returns}
use Rattle.report.specs.Bounds.{Bound, finite, lower, upper}
use Rattle.report.specs.Counts.{mincount, maxcount}
use Rattle.report.specs.Agreement.{least_figure, greatest_figure}

-- the plans that the sentence names
pub record Premises (g : Graph) : Type 0 where
  -- "all durations are 1"
  pub lows-one : (t : ℕ) → t < count g → low g t ≡ 1
  pub highs-one : (t : ℕ) → t < count g → high g t ≡ 1
  -- "some state is marked start"
  pub started : (s : ℕ) × Begins g s
  -- "every unfinished state has a transition out"
  pub leaves : (s : ℕ) → s < states g → Unfinished g s → (t : ℕ) × Departs g s t
  -- (02, E5) "The report's procedures are matched from then on for plans where no state is both start and final."
  pub apart : (s : ℕ) → Begins g s → Unfinished g s

-- run, the procedure returns a value, and that stands for the figure. (It returns no other: `returns_once`.)
abbrev pub Gives : {S : Type 0} → Procedure S Bound → (Bound → Figure) → Figure → Type 0
Gives q stands f = (b : Bound) × Returns q b × (stands b ≡ f)

-- run, the procedure returns a number, and that is the figure
abbrev pub GivesNumber : {S : Type 0} → Procedure S Bound → Figure → Type 0
GivesNumber q f = (k : ℕ) × Returns q (finite k) × (number k ≡ f)

-- what it says of them
pub record ReportFigures (g : Graph) : Type 0 where
  -- "Infinity from lower is NONE here, infinity from upper is ENDLESS."
  pub least-delay : Gives (lower g) least_figure (figure_for LeastDelay g)
  pub greatest-delay : Gives (upper g) greatest_figure (figure_for GreatestDelay g)
  -- "wherever upper is finite"
  pub least-count : (i : ℕ) → Returns (upper g) (finite i) → GivesNumber (mincount g (counted g)) (figure_for LeastCount g)
  pub greatest-count : (i : ℕ) → Returns (upper g) (finite i) → GivesNumber (maxcount g (counted g)) (figure_for GreatestCount g)
