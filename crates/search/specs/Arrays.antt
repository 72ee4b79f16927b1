-- A graph that stands in arrays. Assumes nothing.
use Rattle.std.specs.Prelude.{true, false, List, ◌≡◌, ℕ, ◌≤◌, ◌<◌, get_or}
use Rattle.graph.specs.Graph.{Graph, states, count, marks_of, from, to, start_mark, final_mark}

-- what stands at a place
abbrev pub at : List ℕ → ℕ → ℕ
at xs i = get_or xs i 0

-- no number of a list is k or more; past its end stand zeros
abbrev pub Below : ℕ → List ℕ → Type 0
Below k xs = (i : ℕ) → at xs i < k

-- the state s is marked start; it is final; it is unfinished
abbrev pub StartIn : List ℕ → ℕ → Type 0
StartIn marks s = start_mark (at marks s) ≡ true

abbrev pub FinalIn : List ℕ → ℕ → Type 0
FinalIn marks s = final_mark (at marks s) ≡ true

abbrev pub UnfinishedIn : List ℕ → ℕ → Type 0
UnfinishedIn marks s = final_mark (at marks s) ≡ false

-- the arrays of a graph with n states and m transitions: the marks values, and where the transitions lead from and to
pub record Arrays : Type 0 where
  pub n : ℕ
  pub m : ℕ
  pub marks : List ℕ
  pub from : List ℕ
  pub to : List ℕ

abbrev pub arrays : ℕ → ℕ → List ℕ → List ℕ → List ℕ → Arrays
arrays n m marks from to = record { n = n; m = m; marks = marks; from = from; to = to }

-- the transition t leaves s
pub record Leaves (A : Arrays) (s t : ℕ) : Type 0 where
  pub listed : t < A.m
  pub source : at A.from t ≡ s

-- some states, and transitions between them, within the limits of a plan
pub record Bounded (A : Arrays) : Type 0 where
  pub some : 1 ≤ A.n
  pub states : A.n ≤ 512
  pub count : A.m ≤ 2048
  pub leaves : (t : ℕ) → t < A.m → at A.from t < A.n
  pub arrives : (t : ℕ) → t < A.m → at A.to t < A.n

-- the graph g stands in the arrays: its marks values, and where its transitions lead from and to
pub record StandsIn (A : Arrays) (g : Graph) : Type 0 where
  pub as_many : states g ≡ A.n
  pub as_long : count g ≡ A.m
  pub marked : (s : ℕ) → s < A.n → marks_of g s ≡ at A.marks s
  pub leaves : (t : ℕ) → t < A.m → from g t ≡ at A.from t
  pub arrives : (t : ℕ) → t < A.m → to g t ≡ at A.to t
