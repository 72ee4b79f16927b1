-- What stands in the arrays of a cost. Document 01, "Routes and figures", second paragraph.
-- Assumes nothing.
use Rattle.std.specs.Prelude.{Bool, List, ◌≡◌, ℕ, ◌+◌, ◌*◌, ◌≤◌, ◌<◌, get_or, replicate}
use Rattle.graph.specs.declared.Asked.{Asked}
use Rattle.graph.specs.declared.Asked.TheVariants.{One, LeastCountFor, GreatestCountFor}
use Rattle.graph.specs.Class.{same_class}
use Rattle.graph.specs.Graph.{counted_mark}
use Rattle.graph.specs.Route.{limit, seconds, one}

-- the first k places of an array hold f 0 up to f (k - 1), and later places are zero
pub record Filled (k : ℕ) (f : ℕ → ℕ) (xs : List ℕ) : Type 0 where
  pub each : (i : ℕ) → i < k → get_or xs i 0 ≡ f i
  pub later : (i : ℕ) → k ≤ i → get_or xs i 0 ≡ 0

-- no transition weighs anything, and no state adds anything where it is the last
abbrev pub no_weight : List ℕ
no_weight = replicate 2048 0

abbrev pub no_close : List ℕ
no_close = replicate 512 0

-- the weight of the transition t for a delay: "the sum of its lows for a least figure ..
abbrev pub low_weight : ℕ → ℕ → List ℕ → ℕ → ℕ
low_weight scale extra low t = scale * get_or low t 0 + extra

-- .. and of its highs for a greatest one"; an open high adds nothing
abbrev pub high_weight : List ℕ → ℕ → ℕ
high_weight high t = seconds (limit (get_or high t 0))

-- .. and for a count, whether a state with this marks value and team counts: by the counted mark, or by the class of a team
abbrev pub counts_in : Asked → ℕ → ℕ → Bool
counts_in (One which) value team = counted_mark value
counts_in (LeastCountFor named) value team = same_class team named
counts_in (GreatestCountFor named) value team = same_class team named

-- "first and last included": the close of the state s, where it is the last
abbrev pub count_close : Asked → ℕ → List ℕ → List ℕ → ℕ → ℕ
count_close asked scale marks teams s = scale * one (counts_in asked (get_or marks s 0) (get_or teams s 0))

-- and a transition weighs what the state that it leaves would add: it counts that state
abbrev pub leaving_weight : ℕ → List ℕ → List ℕ → ℕ → ℕ
leaving_weight extra close from t = get_or close (get_or from t 0) 0 + extra
