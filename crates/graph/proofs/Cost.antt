-- The costs are what 01 says in its own words, and what they come to at most.
--
-- A delay is the sum of the durations of the transitions. A count is the number of states on the walk, first and last
-- included, of which p says yes: each transition of a walk departs from the state before it, so counting the states
-- departed from, and then the last one, counts each visit once. Each is by recursion on the transitions. So is the
-- bound: where a transition costs at most h and the last state adds at most h', k transitions cost at most k * h + h'.
-- Assumes nothing.
use Prim.Native.Nat.{ℕ, ◌+◌, ◌*◌, ◌≤◌, ◌<◌, zero-le}
use mathlib.Core.Path.{◌≡◌, refl, sym, ap, ap₂}
use mathlib.Core.Bool.{Bool, true, false}
use mathlib.Core.List.{List, [], ◌∷◌}
use native.Mathlib.Nat.{add-zero, le_refl}
use native.Mathlib.Omega.{arith}
use lib.ListN.{length}
use Rattle.graph.specs.Graph.{Graph, count, to}
use Rattle.graph.specs.Walk.{WalkTo}
use Rattle.graph.specs.declared.Duration.{Duration}
use Rattle.graph.specs.Route.{Cost, total, seconds, delays, counts, one, delay, number-on}

-- "the sum of its lows", or of its highs
pub delay-is : (g : Graph) (duration : ℕ → Duration) (s : ℕ) (ts : List ℕ)
    → total g (delays duration) s ts ≡ delay (λ t. seconds (duration t)) ts
delay-is g duration s [] = refl
delay-is g duration s (t ∷ ts) = ap (λ (x : ℕ). seconds (duration t) + x) (delay-is g duration (to g t) ts)

-- "the number of counted states on it, first and last included, one for each visit"
pub count-is : (g : Graph) (p : ℕ → Bool) (pass stop : ℕ → Type 0) (s : ℕ) (ts : List ℕ) → WalkTo g pass stop s ts
    → total g (counts g p) s ts ≡ number-on g p s ts
count-is g p pass stop s [] w = sym (add-zero (one (p s)))
count-is g p pass stop s (t ∷ ts) w = ap₂ (λ (x y : ℕ). one (p x) + y) w.1.source (count-is g p pass stop (to g t) ts w.2)

-- k transitions cost at most k times the dearest, and the close
pub total-le : (g : Graph) (c : Cost) (h h' : ℕ) (pass stop : ℕ → Type 0) → ((t : ℕ) → t < count g → c.step t ≤ h)
    → ((s : ℕ) → c.close s ≤ h')
    → (s : ℕ) (ts : List ℕ) → WalkTo g pass stop s ts → total g c s ts ≤ length ts * h + h'
total-le g c h h' pass stop a b s [] w = omega (arith, b s)
total-le g c h h' pass stop a b s (t ∷ ts) w = omega (arith, a t w.1.listed, total-le g c h h' pass stop a b (to g t) ts w.2)

-- and just their number, where each costs 1 and the last state nothing
pub total-length : (g : Graph) (c : Cost) (pass stop : ℕ → Type 0) → ((t : ℕ) → t < count g → c.step t ≡ 1)
    → ((s : ℕ) → c.close s ≡ 0)
    → (s : ℕ) (ts : List ℕ) → WalkTo g pass stop s ts → total g c s ts ≡ length ts
total-length g c pass stop one none s [] w = none s
total-length g c pass stop one none s (t ∷ ts) w =
    omega (arith, one t w.1.listed, total-length g c pass stop one none (to g t) ts w.2)

pub one-le : (b : Bool) → one b ≤ 1
one-le true = le_refl 1
one-le false = zero-le
