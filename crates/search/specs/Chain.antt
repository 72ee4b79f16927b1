-- Transitions by state: chains through arrays. The key of a transition is the state that it leaves, or the one that it leads to. Assumes nothing.
use Rattle.std.specs.Prelude.{List, ◌≡◌, ℕ, suc, ◌≤◌, ◌<◌}
use Rattle.search.specs.Arrays.{Arrays, at, Bounded}

-- no transition: the number after the last that a plan may have
abbrev pub none : ℕ
none = 2048

-- t is the first transition at or above i, of m, whose key is s; none where there is none
pub record First (keys : List ℕ) (m i s t : ℕ) : Type 0 where
  pub most : t ≤ none
  pub listed : t < none → (i ≤ t) × (t < m) × (at keys t ≡ s)
  pub none_before : (k : ℕ) → i ≤ k → k < m → k < t → at keys k ≡ s → ⊥

-- head holds the first transition of each state, and link the next one after each transition with the same key
pub record Chains (keys : List ℕ) (m : ℕ) (head link : List ℕ) : Type 0 where
  pub heads : (s : ℕ) → s < 512 → First keys m 0 s (at head s)
  pub links : (t : ℕ) → t < m → First keys m (suc t) (at keys t) (at link t)

-- a graph within the limits, with the chains of its transitions by the states that they leave
pub record Linked (A : Arrays) (head link : List ℕ) : Type 0 where
  pub bounded : Bounded A
  pub chains : Chains A.from A.m head link
