-- `store::store` meets its contract. Five octets are those of `store_five`. The loop's invariant: the octets up to i are those of the number, and the
-- later ones are as they were.
-- Assumes nothing.
use Prim.Native.Nat.{◌-◌, ◌≤◌}
use mathlib.Core.Path.{◌≡◌}
use lib.ListN.{length}
use lib.Seq.{paste}
use Rattle.field.proofs.Windows.{digits}
use Rattle.store.proofs.store.Given as goal

abbrev pub invariant-loop-i : goal.invariant-loop-i
invariant-loop-i l = (l.first ≤ l.i) × (l.i ≤ l.end) × (length l.octets ≡ length l.initial.octets) × (l.octets ≡ paste l.initial.octets l.first (digits l.first l.end l.value) (l.i - l.first))
