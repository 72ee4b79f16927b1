-- `put_text::number` meets its contract. The loop's invariant: the digits of x after those of rest are in place. Assumes nothing.
use mathlib.Core.Path.{◌≡◌}
use lib.ListN.{length}
use Rattle.text.proofs.Fills.{Filled}
use Rattle.put_text.proofs.number.Given as goal

abbrev pub invariant-loop-rest : goal.invariant-loop-rest
invariant-loop-rest l = (length l.buffer ≡ length l.initial.buffer) × Filled l.initial.buffer l.at l.x l.rest l.place l.buffer

abbrev pub decreases-loop-rest : goal.decreases-loop-rest
decreases-loop-rest l = l.rest
