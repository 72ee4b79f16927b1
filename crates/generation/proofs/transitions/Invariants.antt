-- `generation::transitions`: after i turns the first i transitions are drawn (proofs/Drawn.antt, `Kept`). Assumes nothing.
use Prim.Native.Nat.{◌≤◌}
use Rattle.arrays.specs.Tables.{fields}
use Rattle.generation.proofs.Drawn.{Kept}
use Rattle.generation.proofs.transitions.Given as goal

abbrev pub invariant-loop-i : goal.invariant-loop-i
invariant-loop-i l =
    (l.i ≤ l.m) × Kept l.seed l.n l.m l.i l.ring (fields l.initial.from l.initial.to l.initial.low l.initial.high) (fields l.from l.to l.low l.high)
