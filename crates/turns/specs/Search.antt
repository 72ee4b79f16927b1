-- What the depth-first search keeps, and what a turn makes of it. The search goes through the starts, final ones too, and the unfinished states that they reach: a final
-- start is entered as the first state of a walk alone (document 02, E5: "Its first state may be final").
--
-- The rank of a state: 0 before the search enters it; 513 and its place on the stack while it is there; 1 and its place in the order of leaving
-- once it is left. The cursor of a state is its first transition that is not passed yet; it stays while the search is behind that transition, so
-- the cursors of the states on the stack are the walk along it. Assumes nothing.
use Rattle.std.specs.Prelude.{cond, List, ◌⊎◌, ◌≡◌, ℕ, suc, ◌+◌, ◌-◌, ◌≤◌, ◌<◌, eqb, ltb, length}
use Rattle.turns.specs.declared.Table.{Table}
use Rattle.turns.specs.declared.Course.{Course}
use Rattle.turns.specs.declared.Course.TheVariants.{On, Back}
use Rattle.search.specs.Arrays.{Arrays, at, StartIn, FinalIn, UnfinishedIn, Leaves}
use Rattle.search.specs.Chain.{none, Linked}
use Rattle.search.specs.Sizes.{sum_to}

pub record Sized (a : Table) : Type 0 where
  pub rank : 512 ≤ length a.rank
  pub cursor : 512 ≤ length a.cursor
  pub stack : 512 ≤ length a.stack
  pub order : 512 ≤ length a.order
  pub via : 512 ≤ length a.via

-- what was entered stays so
abbrev pub Grown : Table → Table → Type 0
Grown a a' = (s : ℕ) → 0 < at a.rank s → 0 < at a'.rank s

abbrev pub table : List ℕ → List ℕ → List ℕ → List ℕ → List ℕ → Table
table rank cursor stack order via = record { rank = rank; cursor = cursor; stack = stack; order = order; via = via }

-- where a state stands: not entered, left as the i-th, or the i-th on the stack
abbrev pub Placed : Table → ℕ → ℕ → ℕ → Type 0
Placed a d done s =
    (at a.rank s ≡ 0) ⊎ ((i : ℕ) × (i < done) × (at a.rank s ≡ suc i) × (at a.order i ≡ s))
    ⊎ ((i : ℕ) × (i < d) × (at a.rank s ≡ 513 + i) × (at a.stack i ≡ s))

module _ (A : Arrays) where
  -- how a state was entered: as a start, final or not, or, unfinished, by a transition from a state that was entered
  abbrev pub Rooted : List ℕ → List ℕ → ℕ → Type 0
  Rooted rank via s = ((at via s ≡ none) × StartIn A.marks s)
      ⊎ ((at via s < A.m) × (at A.to (at via s) ≡ s) × (0 < at rank (at A.from (at via s))) × UnfinishedIn A.marks s)

  abbrev pub Origin : Table → ℕ → Type 0
  Origin a s = Rooted a.rank a.via s

  -- the search with d states on the stack and `done` states left
  pub record Searching (a : Table) (d done : ℕ) : Type 0 where
    pub depth : d ≤ A.n
    pub count : done ≤ A.n
    pub placed : (s : ℕ) → s < A.n → Placed a d done s
    -- the stack is a walk from a start, by the cursors; all but its first state are unfinished
    pub stacked : (i : ℕ) → i < d → (at a.stack i < A.n) × (at a.rank (at a.stack i) ≡ 513 + i)
    pub root : 0 < d → StartIn A.marks (at a.stack 0)
    pub path : (i : ℕ) → suc i < d → Leaves A (at a.stack i) (at a.cursor (at a.stack i))
        × (at A.to (at a.cursor (at a.stack i)) ≡ at a.stack (suc i)) × UnfinishedIn A.marks (at a.stack (suc i))
    -- the states that were left, in their order
    pub behind : (i : ℕ) → i < done → (at a.order i < A.n) × (at a.rank (at a.order i) ≡ suc i)
    -- of each state that was entered, the transitions before the cursor lead to final states and to states left earlier
    pub next : (s : ℕ) → s < A.n → 0 < at a.rank s
        → (at a.cursor s ≤ none) × (at a.cursor s < none → Leaves A s (at a.cursor s))
    pub passed : (s : ℕ) → s < A.n → 0 < at a.rank s → (t : ℕ) → Leaves A s t → t < at a.cursor s
        → FinalIn A.marks (at A.to t)
        ⊎ ((0 < at a.rank (at A.to t)) × (at a.rank (at A.to t) < 513) × (at a.rank (at A.to t) < at a.rank s))
    pub ended : (s : ℕ) → s < A.n → 0 < at a.rank s → at a.rank s < 513 → at a.cursor s ≡ none
    pub origin : (s : ℕ) → s < A.n → 0 < at a.rank s → Origin a s

  -- .. in a linked graph
  pub record Underway (head link : List ℕ) (a : Table) (d done : ℕ) : Type 0 where
    pub linked : Linked A head link
    pub sized : Sized a
    pub search : Searching a d done

  -- the step from the top of the stack leads to the state at place j of it, an unfinished one: the walk along the stack goes on forever
  pub record Loop (a : Table) (d j : ℕ) : Type 0 where
    pub below : j < d
    pub depth : d ≤ A.n
    pub root : StartIn A.marks (at a.stack 0)
    pub stacked : (i : ℕ) → i < d → (at a.stack i < A.n) × (at a.rank (at a.stack i) ≡ 513 + i)
    pub unfinished : (i : ℕ) → suc i < d → UnfinishedIn A.marks (at a.stack (suc i))
    pub leaves : (i : ℕ) → i < d → Leaves A (at a.stack i) (at a.cursor (at a.stack i))
    pub path : (i : ℕ) → suc i < d → at A.to (at a.cursor (at a.stack i)) ≡ at a.stack (suc i)
    pub back : (i : ℕ) → suc i ≡ d → at A.to (at a.cursor (at a.stack i)) ≡ at a.stack j
    pub back-unfinished : UnfinishedIn A.marks (at a.stack j)

-- what is left to do at a state: it is entered, its transitions are passed, and it is left
abbrev pub to_do : ℕ → ℕ → ℕ
to_do rank cursor = cond (eqb rank 0) 3000 (cond (ltb rank 513) 0 (2049 - cursor))

abbrev pub work_in : Table → ℕ
work_in a = sum_to 512 (λ s. to_do (at a.rank s) (at a.cursor s))

module _ (A : Arrays) where
  -- what a turn of the search makes of it: the search goes on with another depth and number left, and less to do; or it has found a loop
  abbrev pub Turned : Table → ℕ → Course → Table → Type 0
  Turned a d (On d' done') a' = Searching A a' d' done' × Sized a' × Grown a a' × (work_in a' < work_in a)
  Turned a d (Back j) a' = Loop A a' d j
