-- `spreading::spread` meets its contract. The loop's invariant: in whatever graph it is, the keys are kept; and the pending states are states.
-- Assumes nothing.
use Prim.Native.Nat.{ℕ}
use mathlib.Core.List.{List}
use Rattle.search.specs.Arrays.{arrays, Bounded, Below}
use Rattle.search.specs.Chain.{Chains}
use Rattle.keys.specs.Keys.{Weighed, Keys}
use Rattle.spreading.proofs.spread.Given as goal

abbrev pub invariant-loop : goal.invariant-loop
invariant-loop l = Below l.n l.heap.items
    × ((m : ℕ) (to : List ℕ) → Bounded (arrays l.n m l.marks l.from to) → Weighed m l.weight l.close → Chains to m l.into.head l.into.link → Keys (arrays l.n m l.marks l.from to) l.weight l.close l.key)
