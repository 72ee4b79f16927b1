-- `text_writing::lines`. The loop's invariant: the lines of the transitions passed are put. Assumes nothing.
use Prim.Native.Nat.{◌≤◌}
use mathlib.Core.Path.{◌≡◌}
use lib.ListN.{length}
use Rattle.aldebaran.specs.Text.{lines_text}
use Rattle.arrays.specs.Tables.{transitions_of}
use Rattle.text.specs.Put.{Put}
use Rattle.text_writing.proofs.lines.Given as goal

abbrev pub invariant-loop-i : goal.invariant-loop-i
invariant-loop-i l = (l.i ≤ l.p.transitions) × (length l.buffer ≡ length l.initial.buffer) × Put l.initial.buffer l.at (lines_text (transitions_of l.i l.p.from l.p.to l.p.low l.p.high)) l.buffer l.place
