-- `writing::states` meets its contract. The invariant: the buffer has the fields of the states passed, put one after another.
-- Assumes nothing.
use Prim.Native.Nat.{◌≤◌}
use mathlib.Core.Path.{◌≡◌}
use lib.ListN.{length}
use Rattle.field.specs.Field.{put_all}
use Rattle.rules.specs.Image.{state_fields, fields_of_each}
use Rattle.arrays.specs.Tables.{states_of}
use Rattle.writing.proofs.states.Given as goal

abbrev pub invariant-loop-i : goal.invariant-loop-i
invariant-loop-i l = (l.i ≤ l.p.states) × (length l.buffer ≡ length l.initial.buffer) × (l.buffer ≡ put_all l.initial.buffer 32 (fields_of_each state_fields (states_of l.i l.p.marks l.p.teams)))
