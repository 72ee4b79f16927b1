-- `array_limits::transitions_within` meets its contract. The invariant: sound says whether every transition passed is within the limits.
-- Assumes nothing.
use Prim.Native.Nat.{◌≤◌}
use mathlib.Core.Path.{◌≡◌}
use Rattle.rules.specs.Limits.{all, transition_ok}
use Rattle.arrays.specs.Tables.{transitions_of}
use Rattle.array_limits.proofs.transitions_within.Given as goal

abbrev pub invariant-loop-i : goal.invariant-loop-i
invariant-loop-i l = (l.i ≤ l.p.transitions) × (l.sound ≡ all (transition_ok l.p.states) (transitions_of l.i l.p.from l.p.to l.p.low l.p.high))
