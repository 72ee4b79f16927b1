-- `values::fill` meets its contract. The invariant: in whatever graph the values can be filled in, the states before place i of the order have theirs
-- (`valued_more`, and `valued_final` where one is final). Assumes nothing.
use Prim.Native.Nat.{ℕ}
use mathlib.Core.List.{List}
use Rattle.search.specs.Arrays.{arrays}
use Rattle.values.specs.Values.{Fillable, Valued}
use Rattle.values.proofs.fill.Given as goal

abbrev pub invariant-loop-i : goal.invariant-loop-i
invariant-loop-i l =
    ((n m : ℕ) (from : List ℕ) → Fillable (arrays n m l.marks from l.to) l.out.head l.out.link l.order l.weight l.done → Valued l.least (arrays n m l.marks from l.to) l.order l.weight l.initial.value 0 l.initial.value
    → Valued l.least (arrays n m l.marks from l.to) l.order l.weight l.initial.value l.i l.value)
