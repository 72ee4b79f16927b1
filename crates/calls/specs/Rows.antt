-- The rows of the call that makes a list of calls. Assumes nothing.
use Rattle.std.specs.Prelude.{Bool, true, false, List, [], ◌∷◌, ◌++◌, ℕ, length}
use Rattle.rules.specs.Refusal.{Result, code}
use Rattle.rules.specs.Rules.{buffer_row, fresh_rows}
use Rattle.rules.specs.Table.{Row, first}

-- a call of ours that 01 does not name: 4, as a fresh; then 11 for fewer places than there are calls for the answers, for fewer than 2,048 for the walks, and
-- for fewer than 16 for the figures' numbers. The calls of the list have rows of their own, and a refusal of one of them is its answer
abbrev pub replay_rows : ℕ → List ℕ → List ℕ → List ℕ → List ℕ → List Row
replay_rows n kinds answers walks out =
    fresh_rows n ++ (buffer_row answers (length kinds) ∷ buffer_row walks 2048 ∷ buffer_row out 16 ∷ [])

unfoldable pub replay_rule : ℕ → List ℕ → List ℕ → List ℕ → List ℕ → Result (Unit {0})
replay_rule n kinds answers walks out = first (replay_rows n kinds answers walks out)

-- what a list is answered before it is made: 255 where there is no room for a plan, 254 where the slices are no list of calls, and otherwise the rule's number
abbrev pub asked : Bool → Bool → Result (Unit {0}) → ℕ
asked false are o = 255
asked true false o = 254
asked true true o = code o
