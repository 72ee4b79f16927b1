-- `keys::settle` meets its contract. The invariant: whatever the closes are that the keys are kept for, they are kept. A pass that lowers a key lowers their sum,
-- which is the measure; the last pass leaves the keys as they were. Assumes nothing.
use Prim.Native.Nat.{ℕ}
use mathlib.Core.List.{List}
use Rattle.search.specs.Arrays.{arrays, at}
use Rattle.search.specs.Sizes.{sum_to}
use Rattle.keys.specs.Keys.{Keyed}
use Rattle.keys.proofs.settle.Given as goal

abbrev pub invariant-loop-first : goal.invariant-loop-first
invariant-loop-first l = (close : List ℕ) → Keyed (arrays l.n l.m l.marks l.from l.to) l.weight close l.initial.key → Keyed (arrays l.n l.m l.marks l.from l.to) l.weight close l.key

abbrev pub decreases-loop-first : goal.decreases-loop-first
decreases-loop-first l = sum_to l.n (at l.key)
