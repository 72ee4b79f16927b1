-- `costs::fill_lows`: the first t weights are filled, and the products fit a word. Assumes nothing.
use Prim.Native.Nat.{◌≤◌}
use mathlib.Core.Path.{◌≡◌}
use lib.ListN.{length}
use Rattle.costs.specs.Arrays.{Filled, low_weight}
use Rattle.costs.proofs.fill_lows.Given as goal

abbrev pub invariant-loop-t : goal.invariant-loop-t
invariant-loop-t l = (l.t ≤ l.m) × (length l.weight ≡ 2048) × Filled l.t (low_weight l.scale l.extra l.low) l.weight
