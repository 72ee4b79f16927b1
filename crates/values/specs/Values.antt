-- The best values, the least or the greatest, filled in the order in which the search left the states. `least` says which of the two is meant. Assumes nothing.
use Rattle.std.specs.Prelude.{Bool, true, false, List, ◌⊎◌, ◌≡◌, ℕ, suc, ◌+◌, ◌*◌, ◌≤◌, ◌<◌, length}
use Rattle.graph.specs.Graph.{Graph}
use Rattle.graph.specs.Route.{Cost}
use Rattle.graph.specs.Figure.{Figure, IsLeast, IsGreatest}
use Rattle.search.specs.Arrays.{Arrays, at, StartIn, FinalIn, UnfinishedIn, Leaves}
use Rattle.search.specs.Chain.{Linked}
use Rattle.search.specs.Sizes.{heaviest}
use Rattle.search.specs.Route.{Accounts}
use Rattle.best_step.specs.Steps.{Before}
use Rattle.turns.specs.declared.Table.{Table}
use Rattle.hunt.specs.Hunted.{NoDeadEnd}
use Rattle.reach.specs.Explored.{Ranked}

-- the figure f is the least, or the greatest
abbrev pub IsBest : Bool → Graph → Cost → Figure → Type 0
IsBest true = IsLeast
IsBest false = IsGreatest

module _ (A : Arrays) (order : List ℕ) where
  -- the first `done` states of the order: different states, final starts among them, each with transitions, which lead to final states and to earlier ones
  pub record Ordered (done : ℕ) : Type 0 where
    pub below : (i : ℕ) → i < done → at order i < A.n
    pub apart : (i j : ℕ) → i < j → j < done → at order i ≡ at order j → ⊥
    pub leaves : (i : ℕ) → i < done → (t : ℕ) × Leaves A (at order i) t
    pub earlier : (i : ℕ) → i < done → (t : ℕ) → Leaves A (at order i) t → FinalIn A.marks (at A.to t) ⊎ ((j : ℕ) × (j < i) × (at order j ≡ at A.to t))

-- the values of the unfinished ones of the first `done` states are the best over their transitions, and some transition accounts for each; a final state has its close, also
-- where it is a start: the value there is for walks that arrive, and not what beginning there costs
pub record Valued (least : Bool) (A : Arrays) (order weight close : List ℕ) (done : ℕ) (value : List ℕ) : Type 0 where
  pub sized : 512 ≤ length value
  pub at-final : (s : ℕ) → s < A.n → FinalIn A.marks s → at value s ≡ at close s
  pub over : (i : ℕ) → i < done → UnfinishedIn A.marks (at order i) → (t : ℕ) → Leaves A (at order i) t → Before least (at value (at order i)) (at weight t + at value (at A.to t))
  pub accounted : (i : ℕ) → i < done → UnfinishedIn A.marks (at order i) → (t : ℕ) × Leaves A (at order i) t × Accounts A.to weight value (at order i) t
  pub most : (s : ℕ) → at value s ≤ suc done * heaviest

-- what values can be filled in from: a linked graph, weights that can be added, and an order of `done` states
pub record Fillable (A : Arrays) (head link order weight : List ℕ) (done : ℕ) : Type 0 where
  pub linked : Linked A head link
  pub few : done ≤ 512
  pub light : (t : ℕ) → at weight t ≤ heaviest
  pub ordered : Ordered A order done

-- the search is over: it came to its end, with `done` states left, and entered no dead end
pub record Over (A : Arrays) (head link : List ℕ) (a : Table) (done : ℕ) : Type 0 where
  pub linked : Linked A head link
  pub ranked : Ranked A a done
  pub started : (s : ℕ) × (s < A.n) × StartIn A.marks s
  pub no_dead_end : NoDeadEnd A a.rank
