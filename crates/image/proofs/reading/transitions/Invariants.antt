-- `image::reading::transitions` meets its contract. The invariant: no row of a transition passed holds, and it stands at its place of the
-- arrays; no later place was touched; the position, and the count of the bits taken, is that of the next transition. So the first row that holds is of the transition at hand.
-- Assumes nothing.
use Prim.Native.Nat.{ℕ, ◌+◌, ◌≤◌, ◌<◌}
use mathlib.Core.Path.{◌≡◌}
use Rattle.rules.specs.Image.{transition_at, transition_place, transition_rows}
use Rattle.rules.specs.Table.{NoneHolds}
use Rattle.arrays.specs.Tables.{transition_of, LaterFields, fields}
use Rattle.image.proofs.reading.transitions.Given as goal

abbrev pub invariant-loop-i : goal.invariant-loop-i
invariant-loop-i l =
    (l.i ≤ l.m) × LaterFields l.m (fields l.initial.from l.initial.to l.initial.low l.initial.high) (fields l.from l.to l.low l.high) × (l.at ≡ transition_place l.n l.i)
    × ((k : ℕ) → k < l.i → NoneHolds (transition_rows l.n (transition_at l.octets (transition_place l.n k))))
    × ((k : ℕ) → k < l.i → transition_of l.from l.to l.low l.high k ≡ transition_at l.octets (transition_place l.n k)) × (l.taken + transition_place l.n 0 ≡ l.initial.taken + transition_place l.n l.i)
