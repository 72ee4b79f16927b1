-- `image::reading::states` meets its contract. The invariant: no row of a state passed holds, and its marks value and team stand at their places; no
-- later place was touched; the position, and the count of the bits taken, is that of the next state. So the first row that holds is that of the state at hand.
-- Assumes nothing.
use Prim.Native.Nat.{ℕ, ◌+◌, ◌-◌, ◌≤◌, ◌<◌}
use mathlib.Core.Path.{◌≡◌}
use Rattle.arrays.specs.Tables.{state_of}
use Rattle.rules.specs.Image.{state_at, state_place, state_rows}
use Rattle.rules.specs.Table.{NoneHolds}
use Rattle.arrays.specs.Tables.{Later}
use Rattle.image.proofs.reading.states.Given as goal

abbrev pub invariant-loop-i : goal.invariant-loop-i
invariant-loop-i l =
    (l.i ≤ l.n) × Later l.n l.initial.marks l.marks × Later l.n l.initial.teams l.teams × (l.at ≡ state_place l.i) × ((k : ℕ) → k < l.i → NoneHolds (state_rows l.octets k))
    × ((k : ℕ) → k < l.i → state_of l.marks l.teams k ≡ state_at l.octets (state_place k)) × (l.taken + state_place 0 ≡ l.initial.taken + state_place l.i)

abbrev pub decreases-loop-i : goal.decreases-loop-i
decreases-loop-i l = l.n - l.i
