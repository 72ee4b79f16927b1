-- Routes read off values: at each state a transition that accounts for the value. Assumes nothing.
use Rattle.std.specs.Prelude.{Bool, true, List, ◌∷◌, ◌≡◌, ℕ, zero, suc, ◌+◌, ◌≤◌, ◌<◌, take, drop}
use Rattle.graph.specs.Route.{delay}
use Rattle.search.specs.Arrays.{Arrays, at, FinalIn, UnfinishedIn, Leaves}
use Rattle.search.specs.Chain.{Linked}
use Rattle.search.specs.Sizes.{far, heaviest}

-- t accounts for the value of s
abbrev pub Accounts : List ℕ → List ℕ → List ℕ → ℕ → ℕ → Type 0
Accounts to weight value s t = at value s ≡ at weight t + at value (at to t)

-- the sums that are taken: of what each of m transitions weighs and the value behind it
abbrev pub Addable : ℕ → List ℕ → List ℕ → List ℕ → Type 0
Addable m to weight value = (t : ℕ) → t < m → (at to t < 512) × (at weight t ≤ heaviest) × (at value (at to t) ≤ far)

-- the i-th state of the walk from s by the transitions ts
abbrev pub along : List ℕ → ℕ → List ℕ → ℕ → ℕ
along to s ts zero = s
along to s ts (suc i) = at to (at ts i)

module _ (A : Arrays) where
  -- a walk from s by the first k of ts: the i-th transition leaves the i-th state; no state stands twice
  pub record Steps (s : ℕ) (ts : List ℕ) (k : ℕ) : Type 0 where
    pub below : (i : ℕ) → i ≤ k → along A.to s ts i < A.n
    pub leaves : (i : ℕ) → i < k → Leaves A (along A.to s ts i) (at ts i)
    pub apart : (i j : ℕ) → i < j → j ≤ k → along A.to s ts i ≡ along A.to s ts j → ⊥

  module _ (weight close value : List ℕ) where
    -- values that lead on: within the states where `inside` says yes, some transition accounts for the value, and each that does leads to a
    -- final state, or to a state within of lower rank
    pub record Leading (inside : ℕ → Bool) (rank : ℕ → ℕ) : Type 0 where
      pub at-final : (s : ℕ) → s < A.n → FinalIn A.marks s → at value s ≡ at close s
      pub accounted : (s : ℕ) → s < A.n → inside s ≡ true → UnfinishedIn A.marks s → (t : ℕ) × Leaves A s t × Accounts A.to weight value s t
      pub onward : (s : ℕ) → s < A.n → inside s ≡ true → UnfinishedIn A.marks s → (t : ℕ) → Leaves A s t → Accounts A.to weight value s t
          → UnfinishedIn A.marks (at A.to t) → (inside (at A.to t) ≡ true) × (rank (at A.to t) < rank s)

    -- the route from s that was written to the front of the places, k transitions: it costs the value of s, and each state before its last is unfinished, with no higher
    -- rank than s
    pub record Traced (rank : ℕ → ℕ) (s k : ℕ) (before after : List ℕ) : Type 0 where
      pub steps : Steps s after k
      pub unfinished : (i : ℕ) → i < k → UnfinishedIn A.marks (along A.to s after i)
      pub under : (i : ℕ) → i < k → rank (along A.to s after i) ≤ rank s
      pub ends : FinalIn A.marks (along A.to s after k)
      pub costs : delay (at weight) (take k after) + at close (along A.to s after k) ≡ at value s
      pub fits : k < A.n
      pub later : drop k after ≡ drop k before

    -- the route that begins with the transition t, k transitions at the front of the places: the first is t, and the rest is the route from where that leads
    pub record TracedBy (rank : ℕ → ℕ) (t k : ℕ) (before after : List ℕ) : Type 0 where
      pub rest : List ℕ
      pub more : ℕ
      pub number_of : k ≡ suc more
      pub written : after ≡ t ∷ rest
      pub traced : Traced rank (at A.to t) more (drop 1 before) rest

-- what a route from s can be read off: a linked graph, numbers that can be added, and values that lead on from s
pub record Readable (A : Arrays) (head link weight close value : List ℕ) (s : ℕ) : Type 0 where
  pub linked : Linked A head link
  pub below : s < A.n
  pub weights : (t : ℕ) → t < A.m → at weight t ≤ heaviest
  pub values : (x : ℕ) → x < A.n → at value x ≤ far
  pub inside : ℕ → Bool
  pub rank : ℕ → ℕ
  pub leading : Leading A weight close value inside rank
  pub within : UnfinishedIn A.marks s → inside s ≡ true
