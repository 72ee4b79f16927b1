-- What the depth-first search leaves behind, and what the starts reach: the arrays of the search are those of `Table` in turns. Assumes nothing.
use Rattle.std.specs.Prelude.{◌⊎◌, ◌≡◌, ℕ, suc, ◌≤◌, ◌<◌}
use Rattle.reach.specs.declared.Reach.{Reach}
use Rattle.reach.specs.declared.Reach.TheVariants.{NoStart, Looped, DeadEnd, Ends}
use Rattle.search.specs.Arrays.{Arrays, at, StartIn, FinalIn, Leaves}
use Rattle.turns.specs.declared.Table.{Table}
use Rattle.turns.specs.Search.{Sized, Grown, Origin, Searching, Loop}
use Rattle.hunt.specs.Hunted.{DeadEndAt, NoDeadEnd}

module _ (A : Arrays) where
  -- the search is over: every start was entered, and all that was entered was left; the rank falls along the transitions
  pub record Ranked (a : Table) (done : ℕ) : Type 0 where
    pub count : done ≤ A.n
    pub starts : (s : ℕ) → s < A.n → StartIn A.marks s → 0 < at a.rank s
    pub onward : (s : ℕ) → s < A.n → 0 < at a.rank s → (t : ℕ) → Leaves A s t
        → FinalIn A.marks (at A.to t) ⊎ ((0 < at a.rank (at A.to t)) × (at a.rank (at A.to t) < at a.rank s))
    pub listed : (i : ℕ) → i < done → (at a.order i < A.n) × (at a.rank (at a.order i) ≡ suc i)
    pub placed : (s : ℕ) → s < A.n → 0 < at a.rank s → (i : ℕ) × (i < done) × (at a.rank s ≡ suc i) × (at a.order i ≡ s)
    pub origin : (s : ℕ) → s < A.n → 0 < at a.rank s → Origin A a s

  -- what the search from all starts found: no start; a loop; or neither
  abbrev pub Explored : Table → Reach → Type 0
  Explored a NoStart = (s : ℕ) → s < A.n → StartIn A.marks s → ⊥
  Explored a (Looped d j) = Loop A a d j
  Explored a (DeadEnd s) = ⊥
  Explored a (Ends done) = Ranked a done × ((s : ℕ) × (s < A.n) × StartIn A.marks s)

  -- and after the hunt for a dead end
  abbrev pub Reached : Table → Reach → Type 0
  Reached a NoStart = (s : ℕ) → s < A.n → StartIn A.marks s → ⊥
  Reached a (Looped d j) = Loop A a d j
  Reached a (DeadEnd s) = ((done : ℕ) × Ranked a done) × DeadEndAt A a.rank s
  Reached a (Ends done) = Ranked a done × ((s : ℕ) × (s < A.n) × StartIn A.marks s) × NoDeadEnd A a.rank

  -- what the search from one start makes of it
  abbrev pub Descended : Table → ℕ → Reach → Table → Type 0
  Descended a s NoStart a' = ⊥
  Descended a s (Looped d j) a' = Loop A a' d j
  Descended a s (DeadEnd x) a' = ⊥
  Descended a s (Ends done) a' = Searching A a' 0 done × Sized a' × Grown a a' × (0 < at a'.rank s)
