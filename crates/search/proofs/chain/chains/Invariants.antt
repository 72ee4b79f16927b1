-- `search::chain::chains` meets its contract. The invariant: the transitions at or above i are chained (`Chaining`), and each turn chains one more (`chain-turn`).
-- Assumes nothing.
use mathlib.Core.Path.{◌≡◌}
use lib.ListN.{length}
use Rattle.search.proofs.Chained.{Chaining}
use Rattle.search.proofs.chain.chains.Given as goal

abbrev pub invariant-loop-i : goal.invariant-loop-i
invariant-loop-i l = (length l.head ≡ 512) × (length l.link ≡ 2048) × Chaining l.keys l.m l.i l.head l.link
