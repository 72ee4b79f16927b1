-- `spreading::relax_into` meets its contract. The loop's invariant: in whatever graph the keys were spread, they are kept, the pending states are states, and the chain
-- of s is followed as far as t. A chain rises, so the measure is what is left of the numbers of transitions. Assumes nothing.
use Prim.Native.Nat.{ℕ, ◌-◌, ◌<◌}
use mathlib.Core.List.{List}
use mathlib.Core.Path.{◌≡◌}
use Rattle.search.specs.Arrays.{Arrays, arrays, at, Below}
use Rattle.search.proofs.Chained.{Followed}
use Rattle.keys.specs.Keys.{Keys, Spreading}
use Rattle.spreading.proofs.relax_into.Given as goal

-- the keys, the pending states and the chain in a graph
pub record Relaxing (A : Arrays) (weight close key heap : List ℕ) (s t : ℕ) : Type 0 where
  pub keys : Keys A weight close key
  pub pending : Below A.n heap
  pub followed : Followed A.to A.m (λ k. at A.to k ≡ s) s t

abbrev pub invariant-loop-t : goal.invariant-loop-t
invariant-loop-t l = (n m : ℕ) (to close : List ℕ) → l.s < n
    → Spreading (arrays n m l.marks l.from to) l.weight close l.into.head l.into.link l.initial.key → Below n l.initial.heap.items
    → Relaxing (arrays n m l.marks l.from to) l.weight close l.key l.heap.items l.s l.t

abbrev pub decreases-loop-t : goal.decreases-loop-t
decreases-loop-t l = 2048 - l.t
