-- `best_step::out_of` meets its contract. The invariant: of whatever transitions the chains are, and whatever states the step was the best of, it is the best of these and of
-- the transitions of the chain that were passed (`Choosing`). The measure is what is left of the numbers of transitions. Assumes nothing.
use Prim.Native.Nat.{ℕ, ◌-◌}
use mathlib.Core.Bool.{Bool}
use mathlib.Core.List.{List}
use Rattle.search.specs.Chain.{Chains}
use Rattle.search.proofs.Chained.{Followed}
use Rattle.best_step.specs.Steps.{BestStep}
use Rattle.best_step.proofs.Choosing.{Choosing}
use Rattle.best_step.proofs.out_of.Given as goal

abbrev pub invariant-loop-t : goal.invariant-loop-t
invariant-loop-t l = ((m : ℕ) (from : List ℕ) → Chains from m l.out.head l.out.link → Followed from m (λ k. Unit {0}) l.s l.t)
    × ((m : ℕ) (from : List ℕ) → Chains from m l.out.head l.out.link → (inside : ℕ → Bool)
    → BestStep l.least m from l.to l.weight l.value inside (record { «transition» = l.initial.transition; «cost» = l.initial.cost }) → Choosing l.least m from l.to l.weight l.value inside l.s l.transition l.cost l.t)

abbrev pub decreases-loop-t : goal.decreases-loop-t
decreases-loop-t l = 2048 - l.t
