-- `scan::digits` meets its contract. The invariant: the digits taken, with those at the front of what is left, are all that stand at the place (`Scanned`). The measure is what is
-- left of the text. Assumes nothing.
use Prim.Native.Nat.{◌-◌}
use lib.ListN.{length}
use Rattle.scan.proofs.Scanning.{Scanned}
use Rattle.scan.proofs.digits.Given as goal

abbrev pub invariant-loop-i : goal.invariant-loop-i
invariant-loop-i l = Scanned l.text l.at l.value l.i

abbrev pub decreases-loop-i : goal.decreases-loop-i
decreases-loop-i l = length l.text - l.i
