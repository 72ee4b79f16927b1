-- `hunt::hunt` meets its contract, in whatever graph the states were entered. The invariant of the state loop: no dead end is known, and every state passed was
-- looked at; of the transition loop: every transition of the state that was passed leads to a final state, or to one that has a transition.
-- Assumes nothing.
use Prim.Native.Nat.{ℕ, ◌-◌, ◌<◌}
use mathlib.Core.List.{List}
use mathlib.Core.Path.{◌≡◌}
use Rattle.std.specs.Prelude.{None}
use Rattle.search.specs.Arrays.{arrays, at}
use Rattle.search.proofs.Chained.{Followed}
use Rattle.hunt.specs.Hunted.{Entered}
use Rattle.hunt.proofs.Looking.{Onward, Looked}
use Rattle.hunt.proofs.hunt.Given as goal

abbrev pub invariant-transitions : goal.invariant-transitions
invariant-transitions l = (l.dead ≡ None)
    × ((m : ℕ) (from : List ℕ) → Entered (arrays l.n m l.marks from l.to) l.out.head l.out.link l.rank l.via → Followed from m (Onward (arrays l.n m l.marks from l.to) l.out.head) l.s l.t)

abbrev pub decreases-transitions : goal.decreases-transitions
decreases-transitions l = 2048 - l.t

abbrev pub invariant-states : goal.invariant-states
invariant-states l = (l.dead ≡ None)
    × ((x : ℕ) → x < l.s → (m : ℕ) (from : List ℕ) → Entered (arrays l.n m l.marks from l.to) l.out.head l.out.link l.rank l.via → 0 < at l.rank x → Looked (arrays l.n m l.marks from l.to) l.out.head l.via x)
