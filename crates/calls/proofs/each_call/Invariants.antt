-- `calls::each_call` meets its contract. The invariant: every item passed is a call. An item that is none answers for the whole list (`not_all-tabulate`), and after the last one all
-- are calls (`all-tabulate`). Assumes nothing.
use Prim.Native.Nat.{ℕ, ◌<◌}
use mathlib.Core.Bool.{true}
use mathlib.Core.Path.{◌≡◌}
use Rattle.calls.specs.Slices.{is_call, item_at}
use Rattle.calls.proofs.each_call.Given as goal

abbrev pub invariant-loop-i : goal.invariant-loop-i
invariant-loop-i l = (k : ℕ) → k < l.i → is_call l.long (item_at l.kinds l.arguments k) ≡ true
