-- The figures by computation, for any plan: list the walks of so many transitions and look among them.
--
-- This says what a figure IS in a form that can be computed, and not how to find one fast: the lists grow with the
-- power of the transitions. After its first step, a route that visits no state twice has fewer transitions than the plan has states, and n
-- transitions in a row without an answer visit some state twice. So a first step and n more are enough to look at. proofs/Least.antt and
-- proofs/Greatest.antt show that what is computed here is what Figure.antt says. Assumes nothing.
use Rattle.std.specs.Prelude.{ℕ, zero, suc, min, max, Bool, true, false, not, cond, ◌&&◌, ◌||◌, List, [], ◌∷◌, ◌++◌, map, eqb, ltb}
use Rattle.graph.specs.Graph.{Graph, states, count, start, final, from, to}
use Rattle.graph.specs.Route.{Cost, total}
use Rattle.graph.specs.declared.Which.{Which}
use Rattle.graph.specs.declared.Which.TheVariants.{LeastDelay, GreatestDelay, LeastCount, GreatestCount}
use Rattle.graph.specs.Figure.{Figure, number, NONE, STRANDED, ENDLESS, cost_for}

module _ {A : Type 0} where
  -- the list where the test says yes, and none of it where it says no
  abbrev pub given : Bool → List A → List A
  given true xs = xs
  given false xs = []

  -- f 0, f 1, .., f (n - 1), one after the other
  abbrev pub gather : (ℕ → List A) → ℕ → List A
  gather f zero = []
  gather f (suc n) = gather f n ++ f n

  abbrev pub nonempty : List A → Bool
  nonempty [] = false
  nonempty (x ∷ xs) = true

-- does the test accept some number below n
unfoldable pub any : (ℕ → Bool) → ℕ → Bool
any p zero = false
any p (suc n) = any p n || p n

-- does every transition lead to a state of the plan
unfoldable pub closed : Graph → Bool
unfolding any
closed g = not (any (λ t. not (ltb (to g t) (states g))) (count g))

-- does a transition leave s
unfoldable pub leaving : Graph → ℕ → Bool
unfolding any
leaving g s = any (λ t. eqb (from g t) s) (count g)

-- "A dead end is an unfinished state that no transition leaves."
unfoldable pub dead_end : Graph → ℕ → Bool
unfolding leaving
dead_end g s = not (final g s) && not (leaving g s)

-- a transition out of s, and one of the lists from where it leads
unfoldable pub onward : Graph → (ℕ → List (List ℕ)) → ℕ → List (List ℕ)
onward g rest s = gather (λ t. given (eqb (from g t) s) (map (λ ts. t ∷ ts) (rest (to g t)))) (count g)

-- the walks of k transitions from s, through unfinished states to one where `stop` says yes
unfoldable pub walks : Graph → (ℕ → Bool) → ℕ → ℕ → List (List ℕ)
unfolding onward
walks g stop zero s = given (stop s) ([] ∷ [])
walks g stop (suc k) s = given (not (final g s)) (onward g (λ x. walks g stop k x) s)

-- those with a first step from a start, final or not, before them, each with its start
unfoldable pub begun : Graph → (ℕ → Bool) → ℕ → List (ℕ × List ℕ)
unfolding walks onward
begun g stop k = gather (λ s. given (start g s) (map (λ ts. (s, ts)) (onward g (walks g stop k) s))) (states g)

-- a start alone, where `alone` says yes; and those with a first step and fewer than n transitions after it
unfoldable pub within : Graph → (ℕ → Bool) → (ℕ → Bool) → List (ℕ × List ℕ)
unfolding begun
within g alone stop = gather (λ s. given (start g s && alone s) ((s, []) ∷ [])) (states g) ++ gather (begun g stop) (states g)

-- what the routes of a first step and fewer than n transitions cost
unfoldable pub costs : Graph → Cost → List ℕ
unfolding within
costs g c = map (λ r. total g c r.0 r.1) (within g (λ s. false) (final g))

-- the smallest or largest of a list, for `pick` the smaller or larger of two; NONE of no number
abbrev pub fold : (ℕ → ℕ → ℕ) → ℕ → List ℕ → ℕ
fold pick x [] = x
fold pick x (y ∷ ys) = pick y (fold pick x ys)

abbrev pub extreme : (ℕ → ℕ → ℕ) → List ℕ → Figure
extreme pick [] = NONE
extreme pick (x ∷ xs) = number (fold pick x xs)

-- does an open transition leave s; and is s unfinished too
unfoldable pub opens : Graph → Cost → ℕ → Bool
unfolding any
opens g c s = any (λ t. eqb (from g t) s && c.unlimited t) (count g)

unfoldable pub ringing : Graph → Cost → ℕ → Bool
unfolding opens
ringing g c s = not (final g s) && opens g c s

-- is a state marked start; is there an endless walk, one that takes an open transition, one to a dead end
unfoldable pub any_start : Graph → Bool
unfolding any
any_start g = any (start g) (states g)

unfoldable pub any_endless : Graph → Bool
unfolding begun
any_endless g = nonempty (begun g (λ s. not (final g s)) (states g))

unfoldable pub any_open : Graph → Cost → Bool
unfolding within ringing
any_open g c = nonempty (within g (opens g c) (ringing g c))

unfoldable pub any_stranded : Graph → Bool
unfolding within dead_end
any_stranded g = nonempty (within g (λ s. not (leaving g s)) (dead_end g))

-- "the smallest .. over all routes; NONE if there is no route"
unfoldable pub least : Graph → Cost → Figure
unfolding costs
least g c = extreme min (costs g c)

-- "first that applies"
unfoldable pub greatest : Graph → Cost → Figure
unfolding any_start any_endless any_open any_stranded costs
greatest g c = cond (not (any_start g)) NONE (cond (any_endless g || any_open g c) ENDLESS (cond (any_stranded g) STRANDED (extreme max (costs g c))))

-- each of the four figures
unfoldable pub figure_for : Which → Graph → Figure
unfolding least greatest
figure_for LeastDelay g = least g (cost_for LeastDelay g)
figure_for GreatestDelay g = greatest g (cost_for GreatestDelay g)
figure_for LeastCount g = least g (cost_for LeastCount g)
figure_for GreatestCount g = greatest g (cost_for GreatestCount g)
