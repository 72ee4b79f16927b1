-- `tree::along_stack` meets its contract. The invariant: the places before i hold the cursors of the states there, and those past d stay.
-- Assumes nothing.
use Prim.Native.Nat.{ℕ, ◌<◌}
use mathlib.Core.Path.{◌≡◌}
use lib.ListN.{length, drop}
use Rattle.search.specs.Arrays.{at}
use Rattle.tree.proofs.along_stack.Given as goal

abbrev pub invariant-loop-i : goal.invariant-loop-i
invariant-loop-i l = (length l.walk ≡ length l.initial.walk) × ((j : ℕ) → j < l.i → at l.walk j ≡ at l.cursor (at l.stack j)) × (drop l.d l.walk ≡ drop l.d l.initial.walk)
