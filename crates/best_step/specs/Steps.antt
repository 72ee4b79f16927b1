-- The best step, the least or the greatest, over transitions in arrays. `least` says which of the two is meant. Assumes nothing.
use Rattle.std.specs.Prelude.{Bool, true, false, List, ◌≡◌, ℕ, ◌+◌, ◌≤◌, ◌<◌}
use Rattle.search.specs.Arrays.{at}
use Rattle.search.specs.Chain.{none}
use Rattle.search.specs.Sizes.{far}
use Rattle.best_step.specs.declared.Step.{Step}

-- x is as good as y, or better: no more than y, or no less
abbrev pub Before : Bool → ℕ → ℕ → Type 0
Before true x y = x ≤ y
Before false x y = y ≤ x

-- whether x is better than y, as r says
pub record Better (least : Bool) (x y : ℕ) (r : Bool) : Type 0 where
  pub yes : r ≡ true → Before least x y × (x ≡ y → ⊥)
  pub no : r ≡ false → Before least y x

-- what every number up to `far` is as good as, or better
abbrev pub last : Bool → ℕ
last true = far
last false = 0

-- what a transition weighs with the value behind it
abbrev pub weighs : List ℕ → List ℕ → List ℕ → ℕ → ℕ
weighs to weight value t = at weight t + at value (at to t)

-- the step is the best of the transitions out of the states of which `inside` says yes; none where each of them weighs more than `far`.
-- With the starts for `inside` it is how a best walk begins: "Its first state may be final" (document 02, E5), so a start's own value is asked nowhere
pub record BestStep (least : Bool) (m : ℕ) (from to weight value : List ℕ) (inside : ℕ → Bool) (step : Step) : Type 0 where
  pub found : step.transition < none → (step.transition < m) × (inside (at from step.transition) ≡ true) × (step.cost ≡ weighs to weight value step.transition)
  pub missing : none ≤ step.transition → (step.cost ≡ last least) × ((t : ℕ) → t < m → inside (at from t) ≡ true → far < weighs to weight value t)
  pub over : (t : ℕ) → t < m → inside (at from t) ≡ true → Before least step.cost (weighs to weight value t)
