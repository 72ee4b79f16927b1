-- The table of refused calls as rows. Each call has its rows, in the order that document 01 gives under its table; the first one that holds refuses the
-- call, and a call of which none holds is accepted. So a ground of refusal is written once, as a row. Assumes nothing.
use Rattle.std.specs.Prelude.{Bool, true, false, List, [], ◌∷◌, ◌++◌, ◌⊎◌, ◌≡◌, ℕ, zero, suc}
use Rattle.rules.specs.declared.Refusal.{Refusal}
use Rattle.rules.specs.Refusal.{Result, accepted, refused}

-- a row of the table for a call, and whether what stands under "when" holds of it
abbrev pub Row : Type 0
Row = Refusal × Bool

-- "the table below and the order under it decide .. whether it is refused, and by which number"; a call that is accepted comes to a
abbrev pub by_table : {A : Type 0} → List Row → A → Result A
by_table [] a = accepted a
by_table ((r, true) ∷ rows) a = refused r
by_table ((r, false) ∷ rows) a = by_table rows a

-- the answer alone
abbrev pub first : List Row → Result (Unit {0})
first rows = by_table rows tt

-- "by number": the rows of items, from item i on, k of them
unfoldable pub by_number : (ℕ → List Row) → ℕ → ℕ → List Row
by_number rows i zero = []
by_number rows i (suc k) = rows i ++ by_number rows (suc i) k

-- "line by line": the rows of the items of a list, in turn
unfoldable pub each : {A : Type 0} → (A → List Row) → List A → List Row
each rows [] = []
each rows (a ∷ items) = rows a ++ each rows items

-- a row of that refusal holds
abbrev pub Holds : Refusal → List Row → Type 0
Holds r [] = ⊥
Holds r ((s, b) ∷ rows) = ((s ≡ r) × (b ≡ true)) ⊎ Holds r rows

-- no row holds
abbrev pub NoneHolds : List Row → Type 0
NoneHolds [] = Unit {0}
NoneHolds ((s, b) ∷ rows) = (b ≡ false) × NoneHolds rows
