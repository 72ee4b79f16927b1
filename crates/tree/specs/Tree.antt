-- The tree that the search leaves behind: each state that was entered, with the transition that led there, up to a start. Assumes nothing.
use Rattle.std.specs.Prelude.{List, ◌⊎◌, ◌≡◌, ℕ, zero, suc, ◌+◌, ◌≤◌, ◌<◌, drop}
use Rattle.search.specs.Arrays.{at}
use Rattle.search.specs.Chain.{none}

-- up the tree the rank rises: the transition that led to a state with a rank, where there is one, leaves a state of a higher rank
abbrev pub Rising : ℕ → ℕ → List ℕ → List ℕ → List ℕ → Type 0
Rising n m from rank via = (s : ℕ) → s < n → 0 < at rank s → (at rank s ≤ n)
    × ((at via s ≡ none) ⊎ ((at via s < m) × (at from (at via s) < n) × (at rank s < at rank (at from (at via s)))))

-- the state i transitions up from s
abbrev pub up : List ℕ → List ℕ → ℕ → ℕ → ℕ
up from via s zero = s
up from via s (suc i) = at from (at via (up from via s i))

-- s has a rank in such a tree
pub record Climbable (n m : ℕ) (from rank via : List ℕ) (s : ℕ) : Type 0 where
  pub below : s < n
  pub states : n ≤ 512
  pub count : m ≤ 2048
  pub entered : 0 < at rank s
  pub rising : Rising n m from rank via

-- k transitions lead up from s, and then none does
pub record Climbs (n m : ℕ) (from rank via : List ℕ) (s k : ℕ) : Type 0 where
  pub below : (i : ℕ) → i ≤ k → (up from via s i < n) × (0 < at rank (up from via s i)) × (i + at rank s ≤ at rank (up from via s i))
  pub listed : (i : ℕ) → i < k → (at via (up from via s i) < m) × (at rank (up from via s i) < at rank (up from via s (suc i)))
  pub root : at via (up from via s k) ≡ none
  pub fits : k < n

-- they stand at the front of the places, the last one first
pub record Climbed (from via : List ℕ) (s k : ℕ) (before after : List ℕ) : Type 0 where
  pub written : (j i : ℕ) → j + suc i ≡ k → at after j ≡ at via (up from via s i)
  pub later : drop k after ≡ drop k before
