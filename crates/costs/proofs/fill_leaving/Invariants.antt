-- `costs::fill_leaving`: the first t weights are filled, and the sums fit a word. Assumes nothing.
use Prim.Native.Nat.{◌≤◌}
use mathlib.Core.Path.{◌≡◌}
use lib.ListN.{length}
use Rattle.costs.specs.Arrays.{Filled, leaving_weight}
use Rattle.costs.proofs.fill_leaving.Given as goal

abbrev pub invariant-loop-t : goal.invariant-loop-t
invariant-loop-t l = (l.t ≤ l.m) × (length l.weight ≡ 2048) × Filled l.t (leaving_weight l.extra l.close l.from) l.weight
