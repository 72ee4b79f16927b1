-- `open_search::first_open`: no transition that was passed is open and leaves a state with a rank. Assumes nothing.
use mathlib.Core.Bool.{false}
use mathlib.Core.Path.{◌≡◌}
use Prim.Native.Nat.{ℕ, ◌<◌}
use Rattle.graph.specs.Route.{limit, is_open}
use Rattle.search.specs.Arrays.{at}
use Rattle.open_search.proofs.first_open.Given as goal

abbrev pub invariant-loop-t : goal.invariant-loop-t
invariant-loop-t l = ((u : ℕ) → u < l.t → 0 < at l.rank (at l.from u) → is_open (limit (at l.high u)) ≡ false)
