-- `slices::field_of` meets its contract. The invariant: the places up to i are the slice's from at on.
-- Assumes nothing.
use Prim.Native.Nat.{◌-◌, ◌≤◌}
use mathlib.Core.Path.{◌≡◌}
use lib.ListN.{length, drop}
use lib.Seq.{paste}
use Rattle.slices.proofs.field_of.Given as goal

abbrev pub invariant-loop-i : goal.invariant-loop-i
invariant-loop-i l = (l.i ≤ 2048) × (length l.out ≡ 2048) × (l.out ≡ paste l.initial.out 0 (drop l.at l.places) l.i)

abbrev pub decreases-loop-i : goal.decreases-loop-i
decreases-loop-i l = 2048 - l.i
