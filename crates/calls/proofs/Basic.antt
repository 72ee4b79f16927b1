-- Small slices: the calls that they stand for, and slices that are no calls. Proof files are checked in the order of their names, so a wrong
-- definition is refused here first. Assumes nothing.
use mathlib.Core.Bool.{true, false}
use mathlib.Core.List.{[], ◌∷◌}
use mathlib.Core.Path.{◌≡◌, refl}
use lib.ListN.{replicate}
use Rattle.arrays.specs.Tables.{transition}
use Rattle.rules.specs.Image.{tabulate}
use Rattle.rules.specs.Calls.{mark, team, join, unjoin, read, import}
use Rattle.rules.specs.Limits.{all}
use Rattle.rules.specs.Refusal.{code}
use Rattle.rules.specs.Table.{first}
use Rattle.calls.specs.Rows.{replay_rows}
use Rattle.calls.specs.Slices.{calls_in, are_calls}

-- one call of each kind; the read's octets are the second and the third, the import's the last two
pub each-kind : calls_in (0 ∷ 1 ∷ 2 ∷ 3 ∷ 4 ∷ 5 ∷ [])
    (0 ∷ 4 ∷ 0 ∷ 0 ∷ 1 ∷ 2 ∷ 3 ∷ 4 ∷ 5 ∷ 0 ∷ 0 ∷ 0 ∷ 1 ∷ 3 ∷ 0 ∷ 0 ∷ 2 ∷ 4 ∷ 0 ∷ 0 ∷ 6 ∷ 31 ∷ 0 ∷ 0 ∷ []) (9 ∷ 8 ∷ 7 ∷ 6 ∷ [])
    ≡ mark 0 4 ∷ join (transition 1 2 3 4) ∷ unjoin 5 ∷ read (8 ∷ 7 ∷ []) ∷ import (7 ∷ 6 ∷ []) ∷ team 6 31 ∷ []
unfolding calls_in tabulate
each-kind = refl

-- a read and an import of all four octets, and a team, whose numbers are no part's
pub a_list : are_calls (3 ∷ 4 ∷ 5 ∷ []) (0 ∷ 4 ∷ 0 ∷ 0 ∷ 0 ∷ 4 ∷ 0 ∷ 0 ∷ 6 ∷ 5 ∷ 0 ∷ 0 ∷ []) (9 ∷ 8 ∷ 7 ∷ 6 ∷ []) ≡ true
unfolding are_calls tabulate all
a_list = refl

-- three arguments; an unknown kind; a part that ends outside; one that ends before it starts
pub three-arguments : are_calls (3 ∷ []) (0 ∷ 4 ∷ 0 ∷ []) (9 ∷ 8 ∷ 7 ∷ 6 ∷ []) ≡ false
unfolding are_calls tabulate all
three-arguments = refl

pub kind_6 : are_calls (6 ∷ []) (0 ∷ 4 ∷ 0 ∷ 0 ∷ []) (9 ∷ 8 ∷ 7 ∷ 6 ∷ []) ≡ false
unfolding are_calls tabulate all
kind_6 = refl

pub end-outside : (are_calls (3 ∷ []) (0 ∷ 5 ∷ 0 ∷ 0 ∷ []) (9 ∷ 8 ∷ 7 ∷ 6 ∷ []) ≡ false) × (are_calls (4 ∷ []) (0 ∷ 5 ∷ 0 ∷ 0 ∷ []) (9 ∷ 8 ∷ 7 ∷ 6 ∷ []) ≡ false)
unfolding are_calls tabulate all
end-outside = (refl, refl)

pub ends-first : are_calls (3 ∷ []) (2 ∷ 1 ∷ 0 ∷ 0 ∷ []) (9 ∷ 8 ∷ 7 ∷ 6 ∷ []) ≡ false
unfolding are_calls tabulate all
ends-first = refl

-- the rows: 4, and 11 for the answers, for the walks and for the figures, each where nothing before it holds
pub list-rows : (code (first (replay_rows 0 (3 ∷ []) [] [] [])) ≡ 4) × (code (first (replay_rows 513 [] [] [] [])) ≡ 4)
    × (code (first (replay_rows 1 (3 ∷ []) [] (replicate 2048 0) (replicate 16 0))) ≡ 11)
    × (code (first (replay_rows 1 (3 ∷ []) (0 ∷ []) (replicate 2047 0) (replicate 16 0))) ≡ 11)
    × (code (first (replay_rows 1 (3 ∷ []) (0 ∷ []) (replicate 2048 0) (replicate 15 0))) ≡ 11)
    × (code (first (replay_rows 512 (3 ∷ []) (0 ∷ []) (replicate 2048 0) (replicate 16 0))) ≡ 256)
list-rows = (refl, refl, refl, refl, refl, refl)
