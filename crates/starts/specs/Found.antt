-- The states marked start among those that an array of marks values holds, and what their count tells. Assumes nothing.
use Rattle.std.specs.Prelude.{ℕ, ◌≤◌, List, [], ◌∷◌, ◌≡◌, length, get_or}
use Rattle.graph.specs.Graph.{start_mark}
use Rattle.rules.specs.Aldebaran.{passing}

-- those among the first k, by number
abbrev pub starts_in : List ℕ → ℕ → List ℕ
starts_in marks k = passing (λ (i : ℕ). start_mark (get_or marks i 0)) k

-- their count, at most k, and the only one where it is 1
pub record Found (starts : List ℕ) (k count last : ℕ) : Type 0 where
  pub counted : count ≡ length starts
  pub few : count ≤ k
  pub within : last ≤ k
  pub only : count ≡ 1 → starts ≡ last ∷ []
