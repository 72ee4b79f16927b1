-- What is said of the four figures together, in the record's order: "least delay, greatest delay, least count, greatest count in turn".
-- Assumes nothing.
use Rattle.std.specs.Prelude.{ℕ, Bool, true, false, ◌&&◌, List, ◌++◌}
use Rattle.graph.specs.declared.Which.{Which}
use Rattle.graph.specs.declared.Which.TheVariants.{LeastDelay, GreatestDelay, LeastCount, GreatestCount}

-- the place of a figure in that order
abbrev pub place : Which → ℕ
place LeastDelay = 0
place GreatestDelay = 1
place LeastCount = 2
place GreatestCount = 3

-- something for each figure, from the four in their order
abbrev pub four : {A : Type 0} → A → A → A → A → Which → A
four a b c d LeastDelay = a
four a b c d GreatestDelay = b
four a b c d LeastCount = c
four a b c d GreatestCount = d

-- a list for each figure, in turn
abbrev pub in_turn : {A : Type 0} → (Which → List A) → List A
in_turn f = f LeastDelay ++ f GreatestDelay ++ f LeastCount ++ f GreatestCount

-- a test of every figure
abbrev pub every : (Which → Bool) → Bool
every p = p LeastDelay && (p GreatestDelay && (p LeastCount && p GreatestCount))

-- whether it is a least figure
abbrev pub is_least : Which → Bool
is_least LeastDelay = true
is_least GreatestDelay = false
is_least LeastCount = true
is_least GreatestCount = false
