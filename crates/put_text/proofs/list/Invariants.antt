-- `put_text::list` meets its contract. The loop's invariant: the numbers passed are put. Assumes nothing.
use lib.ListN.{take}
use Rattle.text.specs.Text.{listed}
use Rattle.text.specs.Put.{Put}
use Rattle.put_text.proofs.list.Given as goal

abbrev pub invariant-loop-x : goal.invariant-loop-x
invariant-loop-x l = Put l.initial.buffer l.at (listed (take l.x-index l.x-items)) l.buffer l.place
