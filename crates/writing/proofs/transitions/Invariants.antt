-- `writing::transitions` meets its contract. The invariant: the buffer has the fields of the transitions passed, put one after another.
-- Assumes nothing.
use Prim.Native.Nat.{◌+◌, ◌*◌, ◌≤◌}
use mathlib.Core.Path.{◌≡◌}
use lib.ListN.{length}
use Rattle.field.specs.Field.{put_all}
use Rattle.rules.specs.Image.{transition_fields, fields_of_each}
use Rattle.arrays.specs.Tables.{transitions_of}
use Rattle.writing.proofs.transitions.Given as goal

abbrev pub invariant-loop-i : goal.invariant-loop-i
invariant-loop-i l = (l.i ≤ l.p.transitions) × (length l.buffer ≡ length l.initial.buffer) × (l.buffer ≡ put_all l.initial.buffer (32 + 8 * l.p.states) (fields_of_each transition_fields (transitions_of l.i l.p.from l.p.to l.p.low l.p.high)))
