-- The graph that a plan value stands for, place by place, and what its limits give the searches: the arrays are bounded, the graph stands in them, and
-- no duration is above 2,047. Assumes nothing.
use mathlib.Core.Bool.{true}
use mathlib.Core.Path.{◌≡◌, ap}
use Prim.Native.Nat.{ℕ, ◌≤◌, ◌<◌}
use native.Mathlib.Omega.{arith}
use lib.ListN.{get_or}
use Rattle.arrays.specs.Tables.{state_of, transition_of}
use Rattle.graph.specs.Graph.{State, Transition, marked, states, marks_of, team_of, transition, from, to, low, high}
use Rattle.arrays.specs.declared.Plan.{Plan}
use Rattle.plan.specs.View.{view}
use Rattle.plan.specs.Laws.{states-view, count-view}
use Rattle.rules.specs.Limits.{within, transition_ok}
use Rattle.rules.proofs.ReadWrite.{limited, Bounded, bounded}
use Rattle.rules.proofs.Tabulated.{get_d_tabulate, all-at}
use Rattle.search.specs.Arrays.{StandsIn, Bounded as BoundedIn}
use Rattle.search.specs.declared.chain.Chain.{Chain}
use Rattle.search.specs.Chain.{Linked}
use Rattle.figures.specs.Figures.{arrays_of, OutOf}

module _ (p : Plan) where
  pub marks-view : (s : ℕ) → s < p.states → marks_of (view p) s ≡ get_or p.marks s 0
  unfolding marks_of view
  marks-view s h = ap (λ (x : State). x.marks) (get_d_tabulate p.states (state_of p.marks p.teams) s (marked 0) h)

  pub teams-view : (s : ℕ) → s < p.states → team_of (view p) s ≡ get_or p.teams s 0
  unfolding team_of view
  teams-view s h = ap (λ (x : State). x.team) (get_d_tabulate p.states (state_of p.marks p.teams) s (marked 0) h)

  transition-view : (t : ℕ) → t < p.transitions → transition (view p) t ≡ transition_of p.from p.to p.low p.high t
  unfolding transition view
  transition-view t h = get_d_tabulate p.transitions (transition_of p.from p.to p.low p.high) t _ h

  pub from_view : (t : ℕ) → t < p.transitions → from (view p) t ≡ get_or p.from t 0
  unfolding from
  from_view t h = ap (λ (x : Transition). x.from) (transition-view t h)

  pub to-view : (t : ℕ) → t < p.transitions → to (view p) t ≡ get_or p.to t 0
  unfolding to
  to-view t h = ap (λ (x : Transition). x.to) (transition-view t h)

  pub low_view : (t : ℕ) → t < p.transitions → low (view p) t ≡ get_or p.low t 0
  unfolding low
  low_view t h = ap (λ (x : Transition). x.low) (transition-view t h)

  pub high_view : (t : ℕ) → t < p.transitions → high (view p) t ≡ get_or p.high t 0
  unfolding high
  high_view t h = ap (λ (x : Transition). x.high) (transition-view t h)

  -- the graph stands in the arrays
  pub stands : StandsIn (arrays_of p) (view p)
  stands = record {
    as_many = states-view p;
    as_long = count-view p;
    marked = marks-view;
    leaves = from_view;
    arrives = to-view;
  }

  -- ---- a plan within the limits

  module _ (w : within (view p) ≡ true) where
    each : (t : ℕ) → t < p.transitions → Bounded p.states (transition_of p.from p.to p.low p.high t)
    unfolding view
    each t h =
        let f = transition_of p.from p.to p.low p.high in
        rw (states-view p) at (bounded (states (view p)) (f t) (all-at (transition_ok (states (view p))) p.transitions f (limited (view p) w).each-transition t h))

    pub bounded_in : BoundedIn (arrays_of p)
    bounded_in = record {
      some = rw (states-view p) at (limited (view p) w).least;
      states = rw (states-view p) at (limited (view p) w).most;
      count = rw (count-view p) at (limited (view p) w).transitions;
      leaves = λ t h. (each t h).from;
      arrives = λ t h. (each t h).to;
    }

    pub lows-most : (t : ℕ) → t < p.transitions → get_or p.low t 0 ≤ 2047
    lows-most t h = omega (arith, (each t h).low, (each t h).high)

    pub highs-most : (t : ℕ) → t < p.transitions → get_or p.high t 0 ≤ 2047
    highs-most t h = (each t h).high

    -- the states that transitions leave and lead to are places of an array
    pub from_small : (t : ℕ) → t < p.transitions → get_or p.from t 0 < 512
    from_small t h = omega (arith, bounded_in.leaves t h, bounded_in.states)

    -- with the chains out of the states, a search can go through it
    pub linked_in : (c : Chain) → OutOf p c → Linked (arrays_of p) c.head c.link
    linked_in c h = record { bounded = bounded_in; chains = h }
