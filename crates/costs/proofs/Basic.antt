-- What the definitions say of P1's arrays, computed, with no theorem in between: one fact for each way to misread them that must-fail/ tries.
-- Assumes nothing.
use mathlib.Core.List.{List, [], ◌∷◌}
use mathlib.Core.Path.{◌≡◌, refl}
use Prim.Native.Nat.{ℕ, ◌+◌, ◌*◌}
use lib.ListN.{replicate}
use Rattle.graph.specs.declared.Asked.TheVariants.{One, LeastCountFor}
use Rattle.graph.specs.declared.Which.TheVariants.{LeastCount}
use Rattle.graph.specs.Graph.{transition, to}
use Rattle.graph.specs.Route.{Cost, total}
use Rattle.graph.specs.Figure.{number, ENDLESS}
use Rattle.graph.specs.Known.{P1}
use Rattle.rules.specs.Image.{tabulate}
use Rattle.costs.specs.Arrays.{low_weight, high_weight, leaving_weight, count_close}
use Rattle.arrays.specs.Tables.{cost_of}
use Rattle.costs.specs.Scaled.{divided}

-- 0→1 5..20, 1→2 3..15, 1→3 2..30, 2→3 4..25; states 1 and 2 are counted
abbrev marks : List ℕ
marks = 4 ∷ 1 ∷ 1 ∷ 2 ∷ []

abbrev sources : List ℕ
sources = 0 ∷ 1 ∷ 1 ∷ 2 ∷ []

abbrev lowest : List ℕ
lowest = 5 ∷ 3 ∷ 2 ∷ 4 ∷ []

abbrev highest : List ℕ
highest = 20 ∷ 15 ∷ 30 ∷ 25 ∷ []

-- ---- weights and closes

-- an open high adds nothing, and one of a second less all of it
pub open_nothing : high_weight (2047 ∷ 2046 ∷ []) 0 ≡ 0
open_nothing = refl

pub below_open : high_weight (2047 ∷ 2046 ∷ []) 1 ≡ 2046
below_open = refl

-- a transition weighs what the state that it leaves counts: 0→1 nothing, 1→3 one
pub leaving_uncounted : leaving_weight 0 (tabulate 4 (count_close (One LeastCount) 1 marks (replicate 4 0))) sources 0 ≡ 0
unfolding tabulate
leaving_uncounted = refl

pub leaving_counted : leaving_weight 0 (tabulate 4 (count_close (One LeastCount) 1 marks (replicate 4 0))) sources 2 ≡ 1
unfolding tabulate
leaving_counted = refl

-- the last state is counted too
pub last_counted : count_close (One LeastCount) 1024 marks (replicate 4 0) 1 ≡ 1024
last_counted = refl

-- by the class of a team, it is the state's own team that decides: states of the teams 0, 9, 10 and 3, and wards named by 5
pub class_counted : tabulate 4 (count_close (LeastCountFor 5) 1 marks (0 ∷ 9 ∷ 10 ∷ 3 ∷ [])) ≡ 0 ∷ 1 ∷ 0 ∷ 1 ∷ []
unfolding tabulate
class_counted = refl

-- ---- P1's routes over the filled arrays

abbrev delays_in : (ℕ → ℕ) → Cost
delays_in weight = cost_of (tabulate 4 weight) (replicate 4 0)

abbrev closes : ℕ → List ℕ
closes scale = tabulate 4 (count_close (One LeastCount) scale marks (replicate 4 0))

abbrev marked : ℕ → ℕ → Cost
marked scale extra = cost_of (tabulate 4 (leaving_weight extra (closes scale) sources)) (closes scale)

-- 7 seconds by two transitions, over 12 by three
pub least-delay_found : total P1.plan (delays_in (low_weight 1024 1 lowest)) 0 (0 ∷ 2 ∷ []) ≡ 7 * 1024 + 2
unfolding tabulate transition to
least-delay_found = refl

pub least-delay_rival : total P1.plan (delays_in (low_weight 1024 1 lowest)) 0 (0 ∷ 1 ∷ 3 ∷ []) ≡ 12 * 1024 + 3
unfolding tabulate transition to
least-delay_rival = refl

pub greatest-delay_found : total P1.plan (delays_in (high_weight highest)) 0 (0 ∷ 1 ∷ 3 ∷ []) ≡ 60
unfolding tabulate transition to
greatest-delay_found = refl

pub least-count_found : total P1.plan (marked 1024 1) 0 (0 ∷ 2 ∷ []) ≡ 1 * 1024 + 2
unfolding tabulate transition to
least-count_found = refl

pub greatest-count_found : total P1.plan (marked 1 0) 0 (0 ∷ 1 ∷ 3 ∷ []) ≡ 2
unfolding tabulate transition to
greatest-count_found = refl

-- a walk from one counted state to another: both count
pub both_counted : total P1.plan (marked 1 0) 1 (1 ∷ []) ≡ 2
unfolding tabulate transition to
both_counted = refl

-- ---- figures read back

pub seven : divided (number (7 * 1024 + 2)) ≡ number 7
seven = refl

-- 512 transitions of 0 seconds are still nothing
pub zero-seconds : divided (number 512) ≡ number 0
zero-seconds = refl

pub other-kinds : divided ENDLESS ≡ ENDLESS
other-kinds = refl
