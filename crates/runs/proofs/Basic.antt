-- A small list. Proof files are checked in the order of their names, so a wrong definition is refused here first. Assumes nothing.
use mathlib.Core.List.{[], ◌∷◌}
use mathlib.Core.Path.{◌≡◌, refl}
use Rattle.rules.specs.Calls.{mark, team, unjoin, run}
use Rattle.rules.specs.Limits.{all, within}
use Rattle.runs.specs.Turns.{answered}

-- on a fresh plan of one state, marks by 7, 12 and accepted, a team by 18, an unjoin by 10: each answer in its call's place, and the places behind them as they were
pub in_their_places : answered 1 (mark 1 0 ∷ mark 0 8 ∷ mark 0 7 ∷ team 0 32 ∷ unjoin 0 ∷ []) (1 ∷ 2 ∷ 3 ∷ 4 ∷ 5 ∷ 6 ∷ 7 ∷ []) ≡ 7 ∷ 12 ∷ 256 ∷ 18 ∷ 10 ∷ 6 ∷ 7 ∷ []
unfolding run within all
in_their_places = refl
