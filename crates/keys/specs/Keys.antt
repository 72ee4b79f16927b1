-- What the least search keeps of its keys. A key is a bound from above on what a route from the state costs: `far` where none is known yet.
-- Assumes nothing.
use Rattle.std.specs.Prelude.{Bool, true, false, List, ◌⊎◌, ◌≡◌, ℕ, ◌+◌, ◌≤◌, ◌<◌, length, set}
use Rattle.graph.specs.Graph.{start_mark}
use Rattle.search.specs.Arrays.{Arrays, at, FinalIn, UnfinishedIn, Leaves, Bounded}
use Rattle.search.specs.Chain.{Chains}
use Rattle.search.specs.Sizes.{far, heaviest, sum_to}
use Rattle.best_step.specs.declared.Step.{Step}
use Rattle.best_step.specs.Steps.{BestStep}

-- the weights and closes of a search: none of the m transitions weighs nothing
pub record Weighed (m : ℕ) (weight close : List ℕ) : Type 0 where
  pub some : (t : ℕ) → t < m → 1 ≤ at weight t
  pub most : (t : ℕ) → at weight t ≤ heaviest
  pub close-most : (s : ℕ) → at close s ≤ heaviest

module _ (A : Arrays) (weight close : List ℕ) where
  -- a final state has its close for a key; and at an unfinished state with a key some transition accounts for no more than the key
  pub record Keys (key : List ℕ) : Type 0 where
    pub sized : 512 ≤ length key
    pub most : (s : ℕ) → s < A.n → at key s ≤ far
    pub at-final : (s : ℕ) → s < A.n → FinalIn A.marks s → at key s ≡ at close s
    pub accounted : (s : ℕ) → s < A.n → UnfinishedIn A.marks s → at key s < far
        → (t : ℕ) × Leaves A s t × (at weight t + at key (at A.to t) ≤ at key s)

  -- keys over a graph within the limits
  pub record Keyed (key : List ℕ) : Type 0 where
    pub bounded : Bounded A
    pub weighed : Weighed A.m weight close
    pub keys : Keys key

  -- .. and with the chains of its transitions by the states that they lead to
  pub record Spreading (head link key : List ℕ) : Type 0 where
    pub keyed : Keyed key
    pub chains : Chains A.to A.m head link

-- none of the first i transitions can lower a key to less than the bound
abbrev pub Settled : Arrays → List ℕ → ℕ → ℕ → List ℕ → Type 0
Settled A weight i bound key = (t : ℕ) → t < i → UnfinishedIn A.marks (at A.from t)
    → (at key (at A.from t) ≤ at weight t + at key (at A.to t)) ⊎ (bound ≤ at weight t + at key (at A.to t))

-- a pass over the first i transitions: it lowered a key, as r says, and with it the sum of the keys; or they are as they were, and settled
pub record Passing (A : Arrays) (weight close : List ℕ) (bound i : ℕ) (before : List ℕ) (r : Bool) (after : List ℕ) : Type 0 where
  pub keys : Keys A weight close after
  pub fell : r ≡ true → sum_to A.n (at after) < sum_to A.n (at before)
  pub kept : r ≡ false → (after ≡ before) × Settled A weight i bound after

-- the key of an unfinished state lowered to x, or the keys as they were
abbrev pub Offered : List ℕ → ℕ → ℕ → List ℕ → List ℕ → Type 0
Offered marks s x key key' = (key' ≡ key) ⊎ ((x < at key s) × UnfinishedIn marks s × (key' ≡ set key s x))

-- the transition t relaxed: the key of the unfinished state that it leaves lowered to what the way by t costs (r says yes), or the keys as they
-- were, since that would be no less than the key or the bound
abbrev pub Relaxed : List ℕ → List ℕ → List ℕ → List ℕ → ℕ → ℕ → List ℕ → Bool → List ℕ → Type 0
Relaxed marks from to weight bound t key r key' =
    ((r ≡ true) × (at weight t + at key (at to t) < at key (at from t)) × UnfinishedIn marks (at from t)
    × (key' ≡ set key (at from t) (at weight t + at key (at to t))))
    ⊎ ((r ≡ false) × (key' ≡ key) × (UnfinishedIn marks (at from t)
    → (at key (at from t) ≤ at weight t + at key (at to t)) ⊎ (bound ≤ at weight t + at key (at to t))))

-- keys that a least figure can be read off: the step is the best first step, and none can be lowered to less than what it costs
pub record Ready (A : Arrays) (weight close : List ℕ) (step : Step) (key : List ℕ) : Type 0 where
  pub keyed : Keyed A weight close key
  pub first : BestStep true A.m A.from A.to weight key (λ x. start_mark (at A.marks x)) step
  pub settled : Settled A weight A.m step.cost key
