-- Open transitions in the arrays of a plan, and what the hunt for one answers. Document 02, E2: "when an unfinished walk from a start can take a transition with
-- an open high". Assumes nothing.
use Rattle.std.specs.Prelude.{true, false, List, ◌≡◌, ℕ, ◌<◌, Option, Some, None}
use Rattle.graph.specs.declared.Which.{Which}
use Rattle.graph.specs.declared.Which.TheVariants.{GreatestDelay}
use Rattle.graph.specs.Route.{limit, is_open}
use Rattle.reach.specs.declared.Reach.{Reach}
use Rattle.reach.specs.declared.Reach.TheVariants.{NoStart, Looped, DeadEnd, Ends}
use Rattle.search.specs.Arrays.{at}

module _ (m : ℕ) (from high rank : List ℕ) where
  -- t is an open transition out of a state with a rank
  pub record OpenAt (t : ℕ) : Type 0 where
    pub listed : t < m
    pub entered : 0 < at rank (at from t)
    pub unlimited : is_open (limit (at high t)) ≡ true

  -- none of the first k is one
  abbrev pub NoneOpen : ℕ → Type 0
  NoneOpen k = (t : ℕ) → t < k → 0 < at rank (at from t) → is_open (limit (at high t)) ≡ false

  -- the first of the m transitions that is one; or that none is
  abbrev pub FirstOpen : Option ℕ → Type 0
  FirstOpen (Some t) = NoneOpen t × OpenAt t
  FirstOpen None = NoneOpen m

-- the search came to its end: all that the starts reach has a rank
abbrev pub Ended : Reach → Type 0
Ended NoStart = ⊥
Ended (Looped d j) = ⊥
Ended (DeadEnd s) = Unit {0}
Ended (Ends done) = Unit {0}

-- the first open transition, where the figure is ENDLESS by it; or that it is ENDLESS by none
abbrev pub Answered : Which → Reach → ℕ → List ℕ → List ℕ → List ℕ → Option ℕ → Type 0
Answered which found m from high rank (Some t) = (which ≡ GreatestDelay) × Ended found × FirstOpen m from high rank (Some t)
Answered which found m from high rank None = which ≡ GreatestDelay → Ended found → NoneOpen m from high rank m
