-- `tree::climb` meets its contract. The invariant: x is k - i transitions up from s, and the places from i on hold those transitions (`Writing`).
-- Assumes nothing.
use Prim.Native.Nat.{◌-◌}
use mathlib.Core.Path.{◌≡◌}
use lib.ListN.{length, drop}
use Rattle.tree.specs.Tree.{up}
use Rattle.tree.proofs.Climbing.{Writing}
use Rattle.tree.proofs.climb.Given as goal

abbrev pub invariant-loop-i : goal.invariant-loop-i
invariant-loop-i l = (length l.walk ≡ length l.initial.walk) × (l.x ≡ up l.from l.via l.s (l.k - l.i)) × Writing l.from l.via l.s l.k l.i l.walk × (drop l.k l.walk ≡ drop l.k l.initial.walk)
