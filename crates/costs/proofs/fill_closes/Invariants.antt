-- `costs::fill_closes`: the first s closes are filled. Assumes nothing.
use Prim.Native.Nat.{◌≤◌}
use mathlib.Core.Path.{◌≡◌}
use lib.ListN.{length}
use Rattle.costs.specs.Arrays.{Filled, count_close}
use Rattle.costs.proofs.fill_closes.Given as goal

abbrev pub invariant-loop-s : goal.invariant-loop-s
invariant-loop-s l = (l.s ≤ l.n) × (length l.close ≡ 512) × Filled l.s (count_close l.asked l.scale l.marks l.teams) l.close
