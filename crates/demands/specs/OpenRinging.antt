-- Open-ended ringing, document 02, E2: what a high of 2,047 does to the quotations. The request's words stand above the field that carries them. "Wards now have phones
-- that ring until picked up." says why. Assumes nothing.
use Rattle.std.specs.Prelude.{List, [], ◌∷◌, ◌++◌, ◌↔◌, ◌⊎◌, ◌≡◌, ℕ, ◌≤◌, ◌<◌, length, get_or, take}
use Rattle.bounds.specs.Chain.{chain}
use Rattle.graph.specs.declared.Asked.{Asked}
use Rattle.graph.specs.declared.Asked.TheVariants.{One}
use Rattle.graph.specs.declared.Which.TheVariants.{LeastDelay, GreatestDelay, GreatestCount}
use Rattle.graph.specs.Class.{figure_of}
use Rattle.graph.specs.Figure.{number, STRANDED, ENDLESS, LoopShown}
use Rattle.graph.specs.Graph.{Graph, high, Departs}
use Rattle.graph.specs.Known.{all_but_open}
use Rattle.graph.specs.Route.{Route, HasEndlessWalk, EndsUnanswered, SameButHighs, delay}
use Rattle.graph.specs.Walk.{UnfinishedWalk, visits, arrival, Different}
use Rattle.std.specs.Prelude.{Ok}
use Rattle.rules.specs.declared.Quote.{Quote}
use Rattle.rules.specs.Quotations.{meant}
use Rattle.arrays.specs.declared.Plan.{Plan}
use Rattle.plan.specs.View.{view}
use Rattle.demands.specs.Calculator.{Calculator}

-- "an unfinished walk from a start can take a transition with an open high": the walk, and a transition out of where it arrives, which may lead anywhere
pub record Rings (g : Graph) : Type 0 where
  pub first : ℕ
  pub walk : List ℕ
  pub ring : ℕ
  pub unfinished : UnfinishedWalk g first walk
  pub departs : Departs g (arrival g first walk) ring
  pub no-limit : high g ring ≡ 2047

-- the walk ts, k transitions long, with its j, is one shown for that
pub record RingShown (g : Graph) (ts : List ℕ) (k j : ℕ) : Type 0 where
  pub rings : Rings g
  -- "A walk shown for that ends with the transition,
  pub ends_with : ts ≡ rings.walk ++ (rings.ring ∷ [])
  -- j equals k,
  pub place : j ≡ k
  -- and its first k states still differ."
  pub differ : Different (take k (visits g rings.first ts))

pub record OpenRinging (c : Calculator) : Type 0 where
  -- "A high of 2,047 shall mean no limit, so a duration taken from a plan is either a number or open.": where the greatest delay is a number, no route has an open high,
  pub none_open : {p : Plan} {before after : List ℕ} (q : Quote) (x : ℕ) → c.quotes (One GreatestDelay) p before after (Ok q) → meant q.figure ≡ number x
      → (s : ℕ) (ts : List ℕ) → Route (view p) s ts → (i : ℕ) → i < length ts → high (view p) (get_or ts i 0) ≡ 2047 → ⊥
  -- so that its highs are summed as they stand
  pub sum_of_highs : {p : Plan} {before after : List ℕ} (q : Quote) (x : ℕ) → c.quotes (One GreatestDelay) p before after (Ok q) → meant q.figure ≡ number x
      → (delay (high (view p)) (take q.k after) ≡ x) × ((s : ℕ) (ts : List ℕ) → Route (view p) s ts → delay (high (view p)) ts ≤ x)
  -- one second less is a limit: 0→1 0..2046
  pub one_less : {p : Plan} {before after : List ℕ} (q : Quote) → view p ≡ all_but_open.plan → c.quotes (One GreatestDelay) p before after (Ok q)
      → meant q.figure ≡ number 2046
  -- "Greatest delay is then ENDLESS also when an unfinished walk from a start can take a transition with an open high."
  pub endless_also : {p : Plan} {before after : List ℕ} (q : Quote) → c.quotes (One GreatestDelay) p before after (Ok q) → Rings (view p)
      → meant q.figure ≡ ENDLESS
  -- "A walk shown for that ends with the transition, j equals k, and its first k states still differ.": what is shown is that or a loop, with its j below k,
  pub shown_for_that : {p : Plan} {before after : List ℕ} (q : Quote) → c.quotes (One GreatestDelay) p before after (Ok q) → meant q.figure ≡ ENDLESS
      → LoopShown (view p) (take q.k after) q.j ⊎ RingShown (view p) (take q.k after) q.k q.j
  -- and it is that where no walk is endless
  pub shown-alone : {p : Plan} {before after : List ℕ} (q : Quote) → c.quotes (One GreatestDelay) p before after (Ok q) → meant q.figure ≡ ENDLESS
      → (HasEndlessWalk (view p) → ⊥) → RingShown (view p) (take q.k after) q.k q.j
  -- "Both counts and the least delay pay no heed to it.": quoted of two plans that differ in highs alone they are the same,
  pub no_heed : {asked : Asked} {p p' : Plan} {before after before' after' : List ℕ} (q q' : Quote) → (figure_of asked ≡ GreatestDelay → ⊥)
      → SameButHighs (view p) (view p') → c.quotes asked p before after (Ok q) → c.quotes asked p' before' after' (Ok q')
      → meant q.figure ≡ meant q'.figure
  -- and a greatest count is ENDLESS by an endless walk alone, of which a loop is shown
  pub by_a_loop : {asked : Asked} {p : Plan} {before after : List ℕ} (q : Quote) → figure_of asked ≡ GreatestCount → c.quotes asked p before after (Ok q)
      → meant q.figure ≡ ENDLESS → HasEndlessWalk (view p) × LoopShown (view p) (take q.k after) q.j
  -- "For the greatest delay an open ring then counts as going on forever unanswered.": it is ENDLESS exactly when a call can go on so, and STRANDED exactly when none can
  -- but one can end unanswered
  pub forever : {p : Plan} {before after : List ℕ} (q : Quote) → c.quotes (One GreatestDelay) p before after (Ok q)
      → (meant q.figure ≡ ENDLESS) ↔ (HasEndlessWalk (view p) ⊎ Rings (view p))
  pub stranded : {p : Plan} {before after : List ℕ} (q : Quote) → c.quotes (One GreatestDelay) p before after (Ok q)
      → (meant q.figure ≡ STRANDED) ↔ ((HasEndlessWalk (view p) → ⊥) × (Rings (view p) → ⊥) × EndsUnanswered (view p))
  -- "P10's steps become 2046..2046 and its delays 1,045,506."
  pub least_of_P10 : {p : Plan} {before after : List ℕ} (q : Quote) → view p ≡ chain → c.quotes (One LeastDelay) p before after (Ok q)
      → meant q.figure ≡ number 1045506
  pub greatest_of_P10 : {p : Plan} {before after : List ℕ} (q : Quote) → view p ≡ chain → c.quotes (One GreatestDelay) p before after (Ok q)
      → meant q.figure ≡ number 1045506
