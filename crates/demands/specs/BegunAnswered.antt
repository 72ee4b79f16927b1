-- Calls that begin answered, document 02, E5: what the quotations make of a start that is final. The request's words stand above the field that carries them, and with
-- them demand 3's on routes in 01's own words, the sum of lows or highs and the number of states that count (`comes_to`). "Switchboards now put a caller back into the
-- plan from a desk that has already picked up." says why. "The report's procedures are matched from then on for plans where no state is both start and final." is
-- `apart` of `Premises`, under which demand 2 holds. Assumes nothing.
use Rattle.std.specs.Prelude.{true, false, List, ◌↔◌, ◌⊎◌, ◌≡◌, ℕ, suc, ◌≤◌, ◌<◌, length, get_or, take}
use Rattle.graph.specs.declared.Asked.{Asked}
use Rattle.graph.specs.declared.Asked.TheVariants.{One}
use Rattle.graph.specs.declared.Which.{Which}
use Rattle.graph.specs.declared.Which.TheVariants.{GreatestDelay, LeastCount, GreatestCount}
use Rattle.graph.specs.Class.{figure_of, counting}
use Rattle.graph.specs.Figure.{number, NONE, STRANDED, ENDLESS, comes_to}
use Rattle.graph.specs.Graph.{Graph, high, Departs, Final, Unfinished, NoneDeparts, DeadEnd}
use Rattle.graph.specs.Known.{P2, P3}
use Rattle.graph.specs.Walk.{Begins, Walk, visits, arrival, reached, DifferentButEnds}
use Rattle.graph.specs.Which.{is_least}
use Rattle.std.specs.Prelude.{Ok}
use Rattle.rules.specs.declared.Quote.{Quote}
use Rattle.rules.specs.Quotations.{meant}
use Rattle.arrays.specs.declared.Plan.{Plan}
use Rattle.plan.specs.View.{view}
use Rattle.demands.specs.Calculator.{Calculator}

-- a walk of the plan that has a transition. Nothing is asked of its first state but that it is a start; `between` is asked of each state between its first and last, and
-- `last` of its last
pub record Going (g : Graph) (between last : ℕ → Type 0) (s : ℕ) (ts : List ℕ) : Type 0 where
  pub walk : Walk g s ts
  pub some : 1 ≤ length ts
  pub middle : (i : ℕ) → suc i < length ts → between (get_or (visits g s ts) (suc i) 0)
  pub ends : last (arrival g s ts)

-- "a route has at least one transition. Its first state may be final, and no state between its first and last may be.", and its last is
abbrev pub AnsweredRoute : Graph → ℕ → List ℕ → Type 0
AnsweredRoute g = Going g (Unfinished g) (Final g)

-- "An endless .. walk .. likewise may begin at a final start": the states after the first are unfinished
pub record GoesOn (g : Graph) : Type 0 where
  pub first : ℕ
  pub taken : ℕ → ℕ
  pub begins : Begins g first
  pub departs : (i : ℕ) → Departs g (reached g first taken i) (taken i)
  pub unfinished : (i : ℕ) → Unfinished g (reached g first taken (suc i))

-- "or stranded walk", the same; "and a start without transitions is a dead end", final or not
abbrev pub Strands : Graph → Type 0
Strands g = (s : ℕ) × ((Begins g s × NoneDeparts g s) ⊎ ((ts : List ℕ) × Going g (Unfinished g) (DeadEnd g) s ts))

-- "or one that takes an open high", the same: out of a start, final or not, or out of an unfinished state that a walk came to
pub record TakesOpen (g : Graph) : Type 0 where
  pub ring : ℕ
  pub from_state : ℕ
  pub there : Begins g from_state ⊎ ((s : ℕ) × (ts : List ℕ) × Going g (Unfinished g) (Unfinished g) s ts × (arrival g s ts ≡ from_state))
  pub departs : Departs g from_state ring
  pub no-limit : high g ring ≡ 2047

-- what is shown of the plan g beside the number x: the route ts
pub record AnsweredShown (asked : Asked) (g : Graph) (x : ℕ) (ts : List ℕ) : Type 0 where
  pub first : ℕ
  pub route : AnsweredRoute g first ts
  -- (demand 3) "A figure that is a number equals the delay or count of the route shown."
  pub comes_to_lem : comes_to (figure_of asked) (counting asked g) g first ts ≡ x
  -- "A shown route may end where it began,": no state stands on it twice but for that
  pub once : DifferentButEnds (visits g first ts)
  -- "and such a state counts twice if counted."
  pub twice : (figure_of asked ≡ LeastCount) ⊎ (figure_of asked ≡ GreatestCount) → arrival g first ts ≡ first → counting asked g first ≡ true → 2 ≤ x

pub record BegunAnswered (c : Calculator) : Type 0 where
  -- "The trade's rule becomes that a route has at least one transition. Its first state may be final, and no state between its first and last may be.": such a route is
  -- shown beside every number,
  pub shown : {asked : Asked} {p : Plan} {before after : List ℕ} (q : Quote) (x : ℕ) → c.quotes asked p before after (Ok q) → meant q.figure ≡ number x
      → AnsweredShown asked (view p) x (take q.k after)
  -- and all of them are looked at, those from a final start too: (demand 3) "Every other route of that plan has at least as much if the figure is a least one,
  pub at_least : {asked : Asked} {p : Plan} {before after : List ℕ} (q : Quote) (x : ℕ) → is_least (figure_of asked) ≡ true → c.quotes asked p before after (Ok q)
      → meant q.figure ≡ number x → (s : ℕ) (ts : List ℕ) → AnsweredRoute (view p) s ts → x ≤ comes_to (figure_of asked) (counting asked (view p)) (view p) s ts
  -- and at most as much if it is a greatest one."
  pub at_most : {asked : Asked} {p : Plan} {before after : List ℕ} (q : Quote) (x : ℕ) → is_least (figure_of asked) ≡ false → c.quotes asked p before after (Ok q)
      → meant q.figure ≡ number x → (s : ℕ) (ts : List ℕ) → AnsweredRoute (view p) s ts → comes_to (figure_of asked) (counting asked (view p)) (view p) s ts ≤ x
  -- (demand 3) "A least figure is NONE exactly when no start leads to an answer"
  pub least-none : {asked : Asked} {p : Plan} {before after : List ℕ} (q : Quote) → is_least (figure_of asked) ≡ true → c.quotes asked p before after (Ok q)
      → (meant q.figure ≡ NONE) ↔ ((s : ℕ) (ts : List ℕ) → AnsweredRoute (view p) s ts → ⊥)
  -- "An endless .. walk .. likewise may begin at a final start": it makes a greatest figure ENDLESS,
  pub endless-walk : {asked : Asked} {p : Plan} {before after : List ℕ} (q : Quote) → is_least (figure_of asked) ≡ false → c.quotes asked p before after (Ok q)
      → GoesOn (view p) → meant q.figure ≡ ENDLESS
  -- ".. or one that takes an open high, likewise may": it makes the greatest delay so,
  pub open_walk : {p : Plan} {before after : List ℕ} (q : Quote) → c.quotes (One GreatestDelay) p before after (Ok q) → TakesOpen (view p)
      → meant q.figure ≡ ENDLESS
  -- and nothing else does
  pub endless_else : {asked : Asked} {p : Plan} {before after : List ℕ} (q : Quote) → c.quotes asked p before after (Ok q) → meant q.figure ≡ ENDLESS
      → GoesOn (view p) ⊎ ((figure_of asked ≡ GreatestDelay) × TakesOpen (view p))
  -- "An .. stranded walk .. likewise may begin at a final start": where none goes on so, it makes a greatest figure STRANDED, and nothing else does
  pub stranded-walk : {asked : Asked} {p : Plan} {before after : List ℕ} (q : Quote) → is_least (figure_of asked) ≡ false → c.quotes asked p before after (Ok q)
      → Strands (view p) → (meant q.figure ≡ ENDLESS → ⊥) → meant q.figure ≡ STRANDED
  pub stranded_else : {asked : Asked} {p : Plan} {before after : List ℕ} (q : Quote) → c.quotes asked p before after (Ok q) → meant q.figure ≡ STRANDED
      → Strands (view p)
  -- "and a start without transitions is a dead end.": no greatest figure is then a number
  pub dead_end_lem : {asked : Asked} {p : Plan} {before after : List ℕ} (q : Quote) (x s : ℕ) → is_least (figure_of asked) ≡ false → c.quotes asked p before after (Ok q)
      → Begins (view p) s → NoneDeparts (view p) s → meant q.figure ≡ number x → ⊥
  -- "P2 gets P3's figures."
  pub one_state : {p : Plan} {before after : List ℕ} (which : Which) (q : Quote) → view p ≡ P2.plan → c.quotes (One which) p before after (Ok q)
      → meant q.figure ≡ P3.figures which
