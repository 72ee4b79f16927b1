-- `text_lines::lines`: `Kept` is the invariant (proofs/Listing.antt). A line off the form ends the loop, and all of it is off; otherwise there is one line more, until there are m.
-- Assumes nothing.
use Prim.Native.Nat.{◌≤◌}
use Rattle.arrays.specs.Tables.{fields}
use Rattle.text_lines.proofs.Listing.{Kept}
use Rattle.text_lines.proofs.lines.Given as goal

abbrev pub invariant-loop-i : goal.invariant-loop-i
invariant-loop-i l =
    (l.i ≤ l.m) × Kept l.text l.at l.n l.m l.initial.answer l.answer l.next l.i (fields l.from l.to l.low l.high)
