-- `heap::Heap::sink` meets its contract. The loop's invariant: the hole is a place of the heap, and the heap's entries stay below any bound that they and the state
-- were below. The hole moves back, so the measure is what is behind it. Assumes nothing.
use Prim.Native.Nat.{ℕ, ◌-◌, ◌<◌}
use mathlib.Core.Path.{◌≡◌}
use Rattle.search.specs.Arrays.{Below}
use Rattle.heap.proofs.Heap.sink.Given as goal

abbrev pub invariant-loop-i : goal.invariant-loop-i
invariant-loop-i l =
    (l.i < 512) × (l.self.size ≡ l.initial.self.size) × ((k : ℕ) → l.state < k → Below k l.initial.self.items → Below k l.self.items)

abbrev pub decreases-loop-i : goal.decreases-loop-i
decreases-loop-i l = 512 - l.i
