-- `window::window` meets its contract. Five octets are those of `five`. The loop's invariant: value is the number of the octets passed. In a turn at
-- most five were passed, so value is below 2^40 and the next one below 2^48.
-- Assumes nothing.
use Prim.Native.Nat.{◌≤◌}
use mathlib.Core.Path.{◌≡◌}
use lib.Seq.{slice}
use Rattle.field.specs.Field.{bits, number}
use Rattle.window.proofs.window.Given as goal

abbrev pub invariant-loop-i : goal.invariant-loop-i
invariant-loop-i l = (l.first ≤ l.i) × (l.i ≤ l.end) × (l.value ≡ number (bits (slice l.first l.i l.octets)))
