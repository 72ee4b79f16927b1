-- `reach::explore::reach` meets its contract: what the search found, and after its end what the hunt found. Assumes nothing.
use native.Mathlib.Nat.{le_refl}
use Rattle.search.proofs.Places.{zeros}
use Rattle.reach.proofs.Hunting.{ranked_entered, reached_dead, reached-end}
use Rattle.std.proofs.lemmas.Option.{none-some}
use Rattle.std.specs.Prelude.{None}
use Rattle.reach.proofs.explore.reach.Goals as goal

pub explore-explored-requires-clause-sized : goal.explore-explored-requires-clause-sized
explore-explored-requires-clause-sized c = (
  record { rank = le_refl 512; cursor = le_refl 512; stack = le_refl 512; order = le_refl 512; via = le_refl 512 },
  zeros 512,
)

pub returns-in-Some : goal.returns-in-Some
returns-in-Some c = λ m from w.
    let r = (rw c.in-Ends.is at (c.explore-explored.ensures m from w)).0 in
    reached_dead r (rw c.in-Some.is at (c.hunt.ensures m from (ranked_entered r w)))

pub returns-in-None : goal.returns-in-None
returns-in-None c = λ m from w.
    let (r, started) = rw c.in-Ends.is at (c.explore-explored.ensures m from w) in
    reached-end r started None (λ x. none-some x) (rw c.in-None.is at (c.hunt.ensures m from (ranked_entered r w)))
