-- `best_step::first` meets its contract. The invariant: of whatever transitions the chains are, the step is the best of those out of the starts below s.
-- Assumes nothing.
use Prim.Native.Nat.{ℕ, ◌≤◌}
use mathlib.Core.List.{List}
use Rattle.search.specs.Chain.{Chains}
use Rattle.best_step.specs.Steps.{BestStep}
use Rattle.best_step.proofs.Choosing.{starts_below}
use Rattle.best_step.proofs.first.Given as goal

abbrev pub invariant-loop-s : goal.invariant-loop-s
invariant-loop-s l = (m : ℕ) (from : List ℕ) → m ≤ 2048 → Chains from m l.out.head l.out.link → BestStep l.least m from l.to l.weight l.value (starts_below l.marks l.s) l.best
