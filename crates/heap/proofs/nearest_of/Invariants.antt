-- `heap::nearest_of` meets its contract. The loop's invariant: the best place so far is one of the heap, at or after the first. Assumes nothing.
use Prim.Native.Nat.{◌≤◌, ◌<◌}
use Rattle.heap.proofs.nearest_of.Given as goal

abbrev pub invariant-loop-i : goal.invariant-loop-i
invariant-loop-i l = (l.first ≤ l.best) × (l.best < l.size)
