-- What a figure of a plan is searched over, by which figure it is and which states count. Assumes nothing.
use Rattle.std.specs.Prelude.{Bool, ℕ, ◌≤◌, ◌<◌}
use Rattle.graph.specs.declared.Which.{Which}
use Rattle.graph.specs.declared.Which.TheVariants.{LeastDelay, GreatestDelay, LeastCount, GreatestCount}
use Rattle.graph.specs.declared.Asked.{Asked}
use Rattle.graph.specs.Class.{figure_of, counting}
use Rattle.graph.specs.Figure.{cost_over}
use Rattle.graph.specs.Graph.{Graph}
use Rattle.graph.specs.Route.{Cost, HasEndlessWalk, HasOpenWalk}
use Rattle.costs.specs.Scaled.{Scaled, scale}
use Rattle.arrays.specs.declared.Plan.{Plan}
use Rattle.plan.specs.View.{view}
use Rattle.search.specs.declared.chain.Chain.{Chain}
use Rattle.search.specs.Arrays.{Arrays, arrays, at}
use Rattle.search.specs.Chain.{Chains}
use Rattle.search.specs.Weights.{Weights, cost_in, Light}

-- a least figure is searched over the scaled costs and 1 more a transition, a greatest one over the costs themselves
abbrev pub times_for : Which → ℕ
times_for LeastDelay = scale
times_for GreatestDelay = 1
times_for LeastCount = scale
times_for GreatestCount = 1

abbrev pub extra_for : Which → ℕ
extra_for LeastDelay = 1
extra_for GreatestDelay = 0
extra_for LeastCount = 1
extra_for GreatestCount = 0

-- the weights are a cost of the plan, scaled, and small enough to be added up along a route
pub record WeighsAs (times extra : ℕ) (p : Plan) (c : Cost) (w : Weights) : Type 0 where
  pub scaled : Scaled times extra (view p) c (cost_in w)
  pub light : Light w
  pub some : (t : ℕ) → t < p.transitions → extra ≤ at w.weight t

-- they are the figure's, over any yes-or-no on states
abbrev pub WeighsOver : Which → (ℕ → Bool) → Plan → Weights → Type 0
WeighsOver which test p w = WeighsAs (times_for which) (extra_for which) p (cost_over which test (view p)) w

-- they are those of what is asked for
abbrev pub Weighs : Asked → Plan → Weights → Type 0
Weighs asked p w = WeighsOver (figure_of asked) (counting asked (view p)) p w

-- no open transition decides it: a walk takes one that is open for it only beside an endless walk
abbrev pub NoneOpen : Asked → Graph → Type 0
NoneOpen asked g = HasOpenWalk g (cost_over (figure_of asked) (counting asked g) g) → HasEndlessWalk g

-- the arrays of a plan that the searches see
abbrev pub arrays_of : Plan → Arrays
arrays_of p = arrays p.states p.transitions p.marks p.from p.to

-- the chains of a plan's transitions out of the states
abbrev pub OutOf : Plan → Chain → Type 0
OutOf p c = Chains p.from p.transitions c.head c.link
