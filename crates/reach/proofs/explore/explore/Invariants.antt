-- `reach::explore::explore` meets its contract. The loop's invariant: in whatever graph it is, the search from the starts below s is over (`Exploring`).
-- Assumes nothing.
use Prim.Native.Nat.{ℕ}
use mathlib.Core.List.{List}
use Rattle.search.specs.Arrays.{arrays}
use Rattle.search.specs.Chain.{Linked}
use Rattle.reach.proofs.Exploring.{Exploring}
use Rattle.reach.proofs.explore.explore.Given as goal

abbrev pub invariant-loop-s : goal.invariant-loop-s
invariant-loop-s l =
    (m : ℕ) (from : List ℕ) → Linked (arrays l.n m l.marks from l.to) l.out.head l.out.link → Exploring (arrays l.n m l.marks from l.to) l.table l.any l.left l.s
