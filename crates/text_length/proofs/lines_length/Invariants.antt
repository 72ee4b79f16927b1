-- `text_length::lines_length`. The loop's invariant: the length of the lines of the transitions passed, at most 31 for each. Assumes nothing.
use Prim.Native.Nat.{◌*◌, ◌≤◌}
use mathlib.Core.Path.{◌≡◌}
use lib.ListN as list
use Rattle.aldebaran.specs.Text.{lines_text}
use Rattle.arrays.specs.Tables.{transitions_of}
use Rattle.text_length.proofs.lines_length.Given as goal

abbrev pub invariant-loop-i : goal.invariant-loop-i
invariant-loop-i l = (l.i ≤ l.p.transitions) × (l.length ≡ list.length (lines_text (transitions_of l.i l.p.from l.p.to l.p.low l.p.high))) × (l.length ≤ 31 * l.i)
