-- `search::route::follow` meets its contract. The invariant: of whatever arrays and closes a route from s can be read off, what is written is `Tracing`; each turn is
-- `traced-turn`, and at a final state it is the route. A route is shorter than the places, so the measure is what is left of them. Assumes nothing.
use Prim.Native.Nat.{ℕ, ◌-◌, ◌<◌}
use mathlib.Core.List.{List}
use mathlib.Core.Path.{◌≡◌}
use lib.ListN.{length}
use Rattle.search.specs.Arrays.{arrays}
use Rattle.search.specs.Route.{Readable}
use Rattle.search.proofs.Tracing.{Tracing}
use Rattle.search.proofs.route.follow.Given as goal

abbrev pub invariant-loop-t : goal.invariant-loop-t
invariant-loop-t l = (length l.walk ≡ length l.initial.walk) × (l.x < 512) × (l.k < 512)
    × ((n m : ℕ) (from close : List ℕ) (r : Readable (arrays n m l.marks from l.to) l.out.head l.out.link l.weight close l.value l.s) → Tracing r l.x l.k l.initial.walk l.walk)

abbrev pub decreases-loop-t : goal.decreases-loop-t
decreases-loop-t l = length l.initial.walk - l.k
