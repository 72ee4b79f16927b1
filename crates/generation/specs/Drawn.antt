-- What drawing transitions into arrays promises. Assumes nothing.
use Rattle.std.specs.Prelude.{List, ◌≡◌, ℕ, ◌+◌, ◌*◌, ◌≤◌, ◌<◌, length, set}
use Rattle.graph.specs.Graph.{Transition}
use Rattle.arrays.specs.Tables.{transition_of, LaterFields, Fields as Arrays, fields}
use Rattle.generated.specs.Generated.{transition_drawn}
use Rattle.generator.specs.Ring.{Ring}

-- four arrays with the places of a plan
pub record Room (f : Arrays) : Type 0 where
  pub from : 2048 ≤ length f.from
  pub to : 2048 ≤ length f.to
  pub low : 2048 ≤ length f.low
  pub high : 2048 ≤ length f.high

-- a transition stored at place i of them
abbrev pub stored : ℕ → Transition → Arrays → Arrays
stored i t f = fields (set f.from i t.from) (set f.to i t.to) (set f.low i t.low) (set f.high i t.high)

-- transition i drawn into its place, by the ring of whatever seed it is
abbrev pub Added : ℕ → ℕ → List ℕ → List ℕ → Arrays → Arrays → Type 0
Added n i ring ring' before after = (s : ℕ) → Ring s (4 * i) ring → (after ≡ stored i (transition_drawn s n i) before) × Ring s (4 * (i + 1)) ring'

-- the first m transitions of seed s in arrays, and every later place as it was
pub record Drawn (s n m : ℕ) (before after : Arrays) : Type 0 where
  pub each : (i : ℕ) → i < m → transition_of after.from after.to after.low after.high i ≡ transition_drawn s n i
  pub later : LaterFields m before after
