-- What the hunt for a dead end goes by, and what it answers. Document 01: "It considers only states that unfinished walks reach." Assumes nothing.
use Rattle.std.specs.Prelude.{List, ℕ, ◌<◌, Option, Some, None}
use Rattle.search.specs.Arrays.{Arrays, at, UnfinishedIn, Leaves}
use Rattle.search.specs.Chain.{Linked}
use Rattle.turns.specs.Search.{Rooted}

module _ (A : Arrays) where
  -- a state with a rank that no transition leaves; and that there is none
  abbrev pub DeadEndAt : List ℕ → ℕ → Type 0
  DeadEndAt rank s = (s < A.n) × (0 < at rank s) × ((t : ℕ) → Leaves A s t → ⊥)

  abbrev pub NoDeadEnd : List ℕ → Type 0
  NoDeadEnd rank = (s : ℕ) → s < A.n → 0 < at rank s → (t : ℕ) × Leaves A s t

  -- what the hunt goes by: each state with a rank was entered as a start, final or not, or, unfinished, by a transition from another one; and where it leads on, there is a rank
  pub record Entered (head link rank via : List ℕ) : Type 0 where
    pub linked : Linked A head link
    pub rooted : (s : ℕ) → s < A.n → 0 < at rank s → Rooted A rank via s
    pub onward : (s t : ℕ) → s < A.n → 0 < at rank s → Leaves A s t → UnfinishedIn A.marks (at A.to t) → 0 < at rank (at A.to t)

  -- what the hunt answers: a dead end, or that there is none
  abbrev pub Hunted : List ℕ → Option ℕ → Type 0
  Hunted rank (Some s) = DeadEndAt rank s
  Hunted rank None = NoDeadEnd rank
