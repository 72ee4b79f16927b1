-- `array_limits::states_within` meets its contract. The invariant: every state passed is within the limits.
-- Assumes nothing.
use Prim.Native.Nat.{ℕ, ◌≤◌, ◌<◌}
use mathlib.Core.Bool.{true}
use mathlib.Core.Path.{◌≡◌}
use Rattle.rules.specs.Limits.{state_ok}
use Rattle.arrays.specs.Tables.{state_of}
use Rattle.array_limits.proofs.states_within.Given as goal

abbrev pub invariant-loop-i : goal.invariant-loop-i
invariant-loop-i l = (l.i ≤ l.p.states) × ((k : ℕ) → k < l.i → state_ok (state_of l.p.marks l.p.teams k) ≡ true)
