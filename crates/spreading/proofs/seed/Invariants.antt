-- `spreading::seed` meets its contract. The loop's invariant: the final states passed have their closes for keys, no other state passed has a key, and no more
-- states are pending than are passed. Assumes nothing.
use Prim.Native.Nat.{◌≤◌}
use Rattle.search.specs.Arrays.{Below}
use Rattle.keys.proofs.Lowered.{Seeding}
use Rattle.spreading.proofs.seed.Given as goal

abbrev pub invariant-loop-s : goal.invariant-loop-s
invariant-loop-s l =
    (l.heap.size ≤ l.s) × Below l.n l.heap.items × Seeding l.marks l.close l.s l.key
