-- `tree::height` meets its contract. The invariant: x is k transitions up from s, and by whatever ranks s can be climbed from, they have risen at each (`Climbing`). Fewer than
-- 512 lead up, so the measure is what is left of 512. Assumes nothing.
use Prim.Native.Nat.{ℕ, ◌-◌}
use mathlib.Core.List.{List}
use mathlib.Core.Path.{◌≡◌}
use Rattle.tree.specs.Tree.{up, Climbable}
use Rattle.tree.proofs.Climbing.{Climbing}
use Rattle.tree.proofs.height.Given as goal

abbrev pub invariant-loop-x : goal.invariant-loop-x
invariant-loop-x l = (l.x ≡ up l.from l.via l.s l.k) × ((n m : ℕ) (rank : List ℕ) → Climbable n m l.from rank l.via l.s → Climbing n m l.from rank l.via l.s l.k)

abbrev pub decreases-loop-x : goal.decreases-loop-x
decreases-loop-x l = 512 - l.k
