-- The weights that costs fills in are the figure's: each transition of the plan weighs its duration, or what the state that it leaves counts, scaled, over any
-- yes-or-no on states; and none is too
-- heavy for a search. Then what the search answers over them is what a quotation says of the figure (costs' `least_answered`, `greatest_answered`). An open
-- transition that the hunt found is the greatest delay's (`open_said`), and where it found none it is none of the figure's (`none_beside`).
-- Assumes nothing.
use Rattle.std.specs.Prelude.{None}
use mathlib.Core.Bool.{Bool, true, false}
use mathlib.Core.List.{List}
use mathlib.Core.Logic.{◌⊎◌, inl, inr}
use mathlib.Core.Path.{◌≡◌, refl, sym, ap, subst, ◌∙◌}
use Prim.Native.Nat.{ℕ, ◌+◌, ◌*◌, ◌≤◌, ◌<◌}
use native.Mathlib.Nat.{mul-zero, le_refl}
use native.Mathlib.Omega.{arith}
use lib.ListN.{length, get_or}
use Rattle.costs.specs.Arrays.{Filled, counts_in, low_weight, high_weight, leaving_weight, count_close, no_close}
use Rattle.arrays.proofs.Lists.{below_or_not}
use Rattle.costs.specs.Scaled.{scale, divided}
use Rattle.costs.proofs.Filled.{zeros, weights_some, weights_most, closes_most}
use Rattle.costs.proofs.Quoted.{greatest-quoted, least_answered, greatest_answered}
use Rattle.graph.specs.declared.Duration.{Duration}
use Rattle.graph.specs.declared.Duration.TheVariants.{Seconds}
use Rattle.graph.specs.declared.Asked.{Asked}
use Rattle.graph.specs.declared.Asked.TheVariants.{One, LeastCountFor, GreatestCountFor}
use Rattle.graph.specs.declared.Which.{Which}
use Rattle.graph.specs.declared.Which.TheVariants.{LeastDelay, GreatestDelay, LeastCount, GreatestCount}
use Rattle.graph.specs.Figure.{Figure, IsLeast, IsGreatest, cost_over}
use Rattle.graph.specs.Class.{same_class, in_class_of, counting}
use Rattle.graph.specs.Graph.{Closed, states, counted, counted_mark, low, high}
use Rattle.graph.specs.Route.{limit, seconds, is_open, delays, highs, counts, one, HasEndlessWalk, HasOpenWalk}
use Rattle.graph.specs.Which.{is_least}
use Rattle.graph.proofs.Bound.{seconds-le}
use Rattle.graph.proofs.Cost.{one-le}
use Rattle.graph.proofs.Open.{none_open}
use Rattle.keys.specs.Keys.{Weighed}
use Rattle.arrays.specs.declared.Plan.{Plan}
use Rattle.plan.specs.View.{view}
use Rattle.plan.specs.Laws.{states-view, count-view}
use Rattle.open_search.specs.Open.{Answered}
use Rattle.open_search.proofs.Opening.{open_beside-endless}
use Rattle.reach.specs.declared.Reach.{Reach}
use Rattle.reach.specs.Explored.{Reached}
use Rattle.rules.specs.Limits.{within}
use Rattle.rules.specs.Quotations.{says_over}
use Rattle.search.specs.Quoted.{Quoted}
use Rattle.search.specs.Weights.{Weights, cost_in}
use Rattle.search.specs.Sizes.{heaviest}
use Rattle.search.proofs.Held.{held-closed}
use Rattle.turns.specs.declared.Table.{Table}
use Rattle.figures.specs.Figures.{extra_for, WeighsAs, WeighsOver, arrays_of}
use Rattle.figures.proofs.Held.{marks-view, teams-view, from_view, low_view, high_view, stands, bounded_in, lows-most, highs-most}

-- a state of the plan counts where its marks value and its team in the arrays do
counting-view : (asked : Asked) (p : Plan) (s : ℕ) → s < p.states → counting asked (view p) s ≡ counts_in asked (get_or p.marks s 0) (get_or p.teams s 0)
unfolding counted in_class_of
counting-view (One which) p s h = ap counted_mark (marks-view p s h)
counting-view (LeastCountFor named) p s h = ap (λ (team : ℕ). same_class team named) (teams-view p s h)
counting-view (GreatestCountFor named) p s h = ap (λ (team : ℕ). same_class team named) (teams-view p s h)

module _ (p : Plan) (w : within (view p) ≡ true) (times extra : ℕ) (few : times ≤ scale) (small : extra ≤ 1) (r : Weights) where
  -- durations, over what each adds: the lows, or the highs
  pub delays_weigh : (duration : ℕ → Duration) (x : ℕ → ℕ) → ((t : ℕ) → t < p.transitions → seconds (duration t) ≡ x t)
      → ((t : ℕ) → t < p.transitions → x t ≤ 2047)
      → Filled p.transitions (λ t. times * x t + extra) r.weight × (r.close ≡ no_close)
      → WeighsAs times extra p (delays duration) r
  delays_weigh duration x is most (filled, none) =
      let zero-close : (s : ℕ) → get_or r.close s 0 ≡ 0 = λ s. ap (λ (l : List ℕ). get_or l s 0) none ∙ zeros 512 s in
      record {
        scaled = record {
          step = λ t h.
              let l : t < p.transitions = rw (count-view p) at h in
              filled.each t l ∙ ap (λ (x : ℕ). times * x + extra) (sym (is t l));
          close = λ s h. zero-close s ∙ sym (mul-zero times);
        };
        light = record {
          weights = λ t. omega (arith, weights_most p.transitions times extra 2047 x r.weight few most filled t);
          closes = λ s. omega (arith, zero-close s);
        };
        some = weights_some p.transitions times extra 2047 x r.weight few most filled;
      }

  -- the closes of what is asked for are not too heavy
  pub closes_light : (asked : Asked) → Filled p.states (count_close asked times p.marks p.teams) r.close → (s : ℕ) → get_or r.close s 0 ≤ scale
  closes_light asked closed s =
      omega (
        arith,
        closes_most p.states times extra 1 (λ i. one (counts_in asked (get_or p.marks i 0) (get_or p.teams i 0))) r.close few
            (λ i h. one-le (counts_in asked (get_or p.marks i 0) (get_or p.teams i 0))) closed s,
      )

  -- counts, over any yes-or-no on states that the closes hold: a transition leaves a state of the plan
  counts_weigh : (test : ℕ → Bool) → ((s : ℕ) → s < p.states → get_or r.close s 0 ≡ times * one (test s)) → ((s : ℕ) → get_or r.close s 0 ≤ scale)
      → Filled p.transitions (leaving_weight extra r.close p.from) r.weight → WeighsAs times extra p (counts (view p) test) r
  counts_weigh test closed light filled =
      record {
        scaled = record {
          step = λ t h.
              let l : t < p.transitions = rw (count-view p) at h in
              filled.each t l ∙ ap (λ (x : ℕ). x + extra) (closed (get_or p.from t 0) ((bounded_in p w).leaves t l))
              ∙ ap (λ (s : ℕ). times * one (test s) + extra) (sym (from_view p t l));
          close = λ s h. closed s (rw (states-view p) at h);
        };
        light = record {
          weights = λ t. weights t (below_or_not t p.transitions);
          closes = λ s. omega (arith, light s);
        };
        some = λ t h. omega (arith, filled.each t h);
      }
    where
      weights : (t : ℕ) → (t < p.transitions) ⊎ (p.transitions ≤ t) → get_or r.weight t 0 ≤ heaviest
      weights t (inl l) = omega (arith, filled.each t l, light (get_or p.from t 0), small)
      weights t (inr l) = omega (arith, filled.later t l)

  -- so with those of what is asked for
  pub asked_weigh : (asked : Asked) → Filled p.states (count_close asked times p.marks p.teams) r.close
      → Filled p.transitions (leaving_weight extra r.close p.from) r.weight → WeighsAs times extra p (counts (view p) (counting asked (view p))) r
  asked_weigh asked closed filled =
      counts_weigh (counting asked (view p)) (λ s h. closed.each s h ∙ ap (λ (b : Bool). times * one b) (sym (counting-view asked p s h))) (closes_light asked closed) filled

-- the lows, scaled
pub lows_weigh : (p : Plan) (w : within (view p) ≡ true) (r : Weights) → Filled p.transitions (low_weight scale 1 p.low) r.weight × (r.close ≡ no_close)
    → (test : ℕ → Bool) → WeighsOver LeastDelay test p r
lows_weigh p w r filled test = delays_weigh p w scale 1 (le_refl scale) (le_refl 1) r (λ t. Seconds (low (view p) t)) (λ t. get_or p.low t 0) (low_view p) (lows-most p w) filled

-- the highs, where they are numbers
pub highs_weigh : (p : Plan) (w : within (view p) ≡ true) (r : Weights) → Filled p.transitions (high_weight p.high) r.weight × (r.close ≡ no_close)
    → (test : ℕ → Bool) → WeighsOver GreatestDelay test p r
highs_weigh p w r (filled, none) test =
    delays_weigh p w 1 0 (omega arith) (omega arith) r (λ t. limit (high (view p) t)) (high_weight p.high)
    (λ t h. ap (λ (x : ℕ). seconds (limit x)) (high_view p t h)) (λ t h. omega (arith, seconds-le (get_or p.high t 0) (highs-most p w t h)))
    (record { each = λ i h. filled.each i h ∙ once (high_weight p.high i); later = filled.later }, none)
  where
    once : (x : ℕ) → x ≡ 1 * x + 0
    once x = omega arith

-- a least figure's transitions each weigh something
is_least_extra : (which : Which) → is_least which ≡ true → extra_for which ≡ 1
is_least_extra LeastDelay e = refl
is_least_extra LeastCount e = refl
is_least_extra GreatestDelay e = absurd (let z : ◌≡◌ {A = ℕ} 0 1 = cc in omega arith)
is_least_extra GreatestCount e = absurd (let z : ◌≡◌ {A = ℕ} 0 1 = cc in omega arith)

-- what the least search asks of a least figure's weights
pub weighed : (which : Which) (test : ℕ → Bool) (p : Plan) (r : Weights) → is_least which ≡ true → WeighsOver which test p r → Weighed p.transitions r.weight r.close
weighed which test p r e x = record {
  some = λ t h. rw (is_least_extra which e) at (x.some t h);
  most = x.light.weights;
  close-most = x.light.closes;
}

-- ---- what is said of the figure

module _ (p : Plan) (w : within (view p) ≡ true) (r : Weights) (f : Figure) (k j : ℕ) (before after : List ℕ) (room : p.states ≤ length before)
    (as_long : length after ≡ length before) (test : ℕ → Bool) where
  closed : Closed (view p)
  closed = held-closed (stands p) (bounded_in p w)

  enough : states (view p) ≤ length before
  enough = omega (arith, states-view p)

  -- what a search found over the weights
  abbrev pub Found : (Figure → Type 0) → Type 0
  Found Is = Quoted Is (view p) (cost_in r) f k j before after

  pub least-said : (which : Which) → is_least which ≡ true → WeighsOver which test p r → Found (IsLeast (view p) (cost_in r)) → says_over which test (view p) (divided f) k j before after
  least-said LeastDelay e x q = least_answered (view p) closed _ (cost_in r) f k j before after q.shown q.fits enough q.later as_long (omega (arith, states-view p, (bounded_in p w).states)) x.scaled q.right
  least-said LeastCount e x q = least_answered (view p) closed _ (cost_in r) f k j before after q.shown q.fits enough q.later as_long (omega (arith, states-view p, (bounded_in p w).states)) x.scaled q.right
  least-said GreatestDelay e x q = absurd (let z : ◌≡◌ {A = ℕ} 0 1 = cc in omega arith)
  least-said GreatestCount e x q = absurd (let z : ◌≡◌ {A = ℕ} 0 1 = cc in omega arith)

  -- over weights none is open, so a transition that is open for the figure must change nothing
  pub greatest-said : (which : Which) → is_least which ≡ false → WeighsOver which test p r → (HasOpenWalk (view p) (cost_over which test (view p)) → HasEndlessWalk (view p))
      → Found (IsGreatest (view p) (cost_in r)) → says_over which test (view p) f k j before after
  greatest-said GreatestDelay e x beside q = greatest_answered (view p) closed _ (cost_in r) f k j before after q.shown q.fits enough q.later as_long x.scaled (λ t h. refl) beside q.right
  greatest-said GreatestCount e x beside q = greatest_answered (view p) closed _ (cost_in r) f k j before after q.shown q.fits enough q.later as_long x.scaled (λ t h. refl) beside q.right
  greatest-said LeastDelay e x beside q = absurd (let z : ◌≡◌ {A = ℕ} 0 1 = cc in omega arith)
  greatest-said LeastCount e x beside q = absurd (let z : ◌≡◌ {A = ℕ} 0 1 = cc in omega arith)

-- ---- open transitions

-- the greatest delay, from an open transition
pub open_said : (p : Plan) → within (view p) ≡ true → (test : ℕ → Bool) (which : Which) → which ≡ GreatestDelay → (f : Figure) (k j : ℕ) (before after : List ℕ)
    → p.states ≤ length before → length after ≡ length before
    → Quoted (IsGreatest (view p) (highs (view p))) (view p) (highs (view p)) f k j before after → says_over which test (view p) f k j before after
open_said p w test which e f k j before after room as_long q =
    subst (λ (x : Which). says_over x test (view p) f k j before after) (sym e)
    (greatest-quoted (view p) (held-closed (stands p) (bounded_in p w)) (highs (view p)) f k j before after q.shown q.fits (omega (arith, states-view p)) q.later as_long q.right)

-- a high in the array is open where the transition's is
pub opens : (p : Plan) (t : ℕ) → t < p.transitions → (highs (view p)).unlimited t ≡ is_open (limit (get_or p.high t 0))
opens p t h = ap (λ (x : ℕ). is_open (limit x)) (high_view p t h)

-- where the hunt found none for the figure, a walk takes an open transition only beside an endless one
pub none_beside : (p : Plan) → within (view p) ≡ true → (test : ℕ → Bool) (which : Which) (a : Table) (found : Reach) → Reached (arrays_of p) a found
    → Answered which found p.transitions p.from p.high a.rank None
    → HasOpenWalk (view p) (cost_over which test (view p)) → HasEndlessWalk (view p)
none_beside p w test LeastDelay a found reached answered u = absurd (none_open (view p) (cost_over LeastDelay test (view p)) (λ t h. refl) u)
none_beside p w test GreatestDelay a found reached answered u =
    open_beside-endless (bounded_in p w) a (stands p) (highs (view p)) p.high (opens p) found reached (answered refl) u
none_beside p w test LeastCount a found reached answered u = absurd (none_open (view p) (cost_over LeastCount test (view p)) (λ t h. refl) u)
none_beside p w test GreatestCount a found reached answered u = absurd (none_open (view p) (cost_over GreatestCount test (view p)) (λ t h. refl) u)
