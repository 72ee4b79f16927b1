-- `reach::explore::descend` meets its contract. The loop's invariant: in whatever graph the search was underway before the loop it still is, and what was entered
-- before the loop stays so. The measure is the work that is left. Assumes nothing.
use Prim.Native.Nat.{ℕ}
use mathlib.Core.List.{List}
use Rattle.search.specs.Arrays.{arrays}
use Rattle.turns.specs.Search.{Grown, Underway, work_in}
use Rattle.reach.proofs.explore.descend.Given as goal

abbrev pub invariant-loop-d : goal.invariant-loop-d
invariant-loop-d l =
    (n m : ℕ) (from : List ℕ) → Underway (arrays n m l.marks from l.to) l.out.head l.out.link l.initial.table l.initial.d l.initial.left
    → Underway (arrays n m l.marks from l.to) l.out.head l.out.link l.table l.d l.left
    × Grown l.initial.table l.table

abbrev pub decreases-loop-d : goal.decreases-loop-d
decreases-loop-d l =
    work_in l.table
