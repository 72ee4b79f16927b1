-- `costs::fill_highs`: the first t weights are filled. Assumes nothing.
use Prim.Native.Nat.{◌≤◌}
use mathlib.Core.Path.{◌≡◌}
use lib.ListN.{length}
use Rattle.costs.specs.Arrays.{Filled, high_weight}
use Rattle.costs.proofs.fill_highs.Given as goal

abbrev pub invariant-loop-t : goal.invariant-loop-t
invariant-loop-t l = (l.t ≤ l.m) × (length l.weight ≡ 2048) × Filled l.t (high_weight l.high) l.weight
