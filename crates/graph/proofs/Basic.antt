-- What the definitions say of small plans, with no theorem in between: one fact for each way to misread them that
-- must-fail/ tries.
--
-- Costs are computed. A route or a walk that is claimed is written out; one that is denied is followed from its start
-- until a condition on a state fails. Assumes nothing.
use Prim.Native.Nat.{ℕ, zero, suc, ◌<◌}
use mathlib.Core.Path.{◌≡◌, refl, sym, ◌∙◌, ap, subst}
use mathlib.Core.Bool.{true, false, true≢false, false≢true}
use mathlib.Core.Logic.{◌⊎◌, inl, inr}
use mathlib.Core.List.{List, [], ◌∷◌, ◌++◌}
use native.Mathlib.Nat.{not-suc-le-zero, le_of_suc-le-suc}
use native.Mathlib.Omega.{arith}
use lib.Dec.{T, ltb, lit<}
use lib.ListN.{length, get_or}
use Rattle.graph.specs.Graph.{Graph, Transition, count, start, final, counted, from, to, low, high, Departs, Unfinished}
use Rattle.graph.specs.Walk.{Begins, AfterStart, Walk, Different, arrival, UnfinishedFrom, reached}
use Rattle.graph.specs.Route.{Route, HasEndlessWalk, StrandedFrom, StrandedWalk, EndsUnanswered, Cost, total, limit, is_open, highs, OpenWalk, HasOpenWalk}
use Rattle.graph.specs.Figure.{Figure, number, NONE, STRANDED, ENDLESS, NoStart, IsLeast, IsGreatest, LoopShown, OpenShown, Shown}
use Rattle.graph.specs.Figure.{cost_for, kind, value}
use Rattle.graph.specs.declared.Which.{Which}
use Rattle.graph.specs.declared.Which.TheVariants.{LeastDelay, GreatestDelay, LeastCount, GreatestCount}
use Rattle.graph.specs.declared.Duration.TheVariants.{Seconds, Open}
use Rattle.graph.specs.Known.{join, P1, P2, P3, P4, P6, P7, P8, P9, unreached_dead_end, reached_dead_end}
use Rattle.graph.specs.Known.{plan, counted_ends, open_unreached, open_answered, open_at-once, answered_returns, answered_loop}
use Rattle.graph.specs.Known.{answered_stranded, answered_open}

-- transition t, a numeral, departs from s
departs : (g : Graph) (s t : ℕ) → T (ltb t (count g)) → from g t ≡ s → Departs g s t
departs g s t l e = record { listed = lit< l; source = e }

-- ---- walks

-- "a start state": state 1 is none
pub not_from_there : Walk P1.plan 1 (2 ∷ []) → ⊥
unfolding start
not_from_there (b, w) = false≢true b

-- "transitions of the plan": P1 has those numbered 0 to 3
pub no_such_transition : Walk P1.plan 0 (4 ∷ []) → ⊥
no_such_transition (b, w) = not_below w.1.listed
  where
    not_below : 4 < 4 → ⊥
    not_below h = omega arith

-- "each departing where the one before arrived": transition 0 arrives at 1, and 3 departs from 2
pub not_departing : Walk P1.plan 0 (0 ∷ 3 ∷ []) → ⊥
unfolding from to
not_departing (b, w) = omega (arith, w.2.1.source)

-- ---- costs

-- "first and last included": both states of the route are counted
pub both_ends : total counted_ends.plan (cost_for LeastCount counted_ends.plan) 0 (0 ∷ []) ≡ 2
unfolding start counted from to
both_ends = refl

-- "of its highs for a greatest one": 0→1 1..9
pub of_highs : total P6.plan (cost_for GreatestDelay P6.plan) 0 (0 ∷ []) ≡ 9
unfolding low high to
of_highs = refl

-- ---- routes

-- "a route has at least one transition" (document 02, E5): P2's start, which is final, is none alone
pub not_alone : Route P2.plan 0 [] → ⊥
not_alone (b, w) = w

-- "no state between its first and last may be": 0→1 and 1→1, but state 1 is final
pub no_walking_on : Route P8.plan 0 (0 ∷ 1 ∷ []) → ⊥
unfolding final to
no_walking_on (b, w) = true≢false w.1.0

-- "whose last state is final": 0→2, a dead end
pub no-answer-there : Route reached_dead_end.plan 0 (1 ∷ []) → ⊥
unfolding final to
no-answer-there (b, w) = false≢true w.1

-- ---- walks without an answer

-- 0→0 and 0→1, state 0 a start: P4 and P9 are such plans
abbrev loop : ℕ → ℕ → Graph
loop m d = plan (4 ∷ m ∷ []) (join 0 0 d d ∷ join 0 1 1 1 ∷ [])

-- 0→0, over and over: how long it lasts makes no difference
pub loop-endless : (m d : ℕ) → HasEndlessWalk (loop m d)
unfolding start final from to high
loop-endless m d =
    (0, λ i. 0, (refl, (departs (loop m d) 0 0 tt refl, record { departs = λ i. rw (stays i) (departs (loop m d) 0 0 tt refl); unfinished = λ i. rw (stays i) refl })))
  where
    stays : (i : ℕ) → reached (loop m d) (to (loop m d) 0) (λ i. 0) i ≡ 0
    stays zero = refl
    stays (suc i) = refl

pub zero-loop-endless : HasEndlessWalk P4.plan
zero-loop-endless = loop-endless 2 0

-- of the marks 4, 2, 0 only the first is a start
only_0 : (ts : List Transition) (s : ℕ) → Begins (plan (4 ∷ 2 ∷ 0 ∷ []) ts) s → s ≡ 0
unfolding start
only_0 ts zero b = refl
only_0 ts (suc zero) b = absurd (false≢true b)
only_0 ts (suc (suc zero)) b = absurd (false≢true b)
only_0 ts (suc (suc (suc s))) b = absurd (false≢true b)

-- 2→2, which no start reaches: from 0 there is only 0→1, and 1 is final
pub unreached_not_endless : HasEndlessWalk P7.plan → ⊥
unfolding final from to
unreached_not_endless (s, taken, (b, (d, e))) = first s (taken 0) (only_0 P7.plan.transitions s b) d (e.unfinished 0)
  where
    first : (s t : ℕ) → s ≡ 0 → Departs P7.plan s t → Unfinished P7.plan (to P7.plan t) → ⊥
    first s zero q d u = true≢false u
    first s (suc zero) q d u = omega (arith, d.source)
    first s (suc (suc t)) q d u = not-suc-le-zero (le_of_suc-le-suc (le_of_suc-le-suc d.listed))

-- state 2, a dead end that nothing reaches: from 0 there is only 0→1, and 1 is final
pub unreached_not_stranded : EndsUnanswered unreached_dead_end.plan → ⊥
unfolding final from to
unreached_not_stranded (s, ts, w) =
    first ts (subst (λ (x : ℕ). StrandedWalk unreached_dead_end.plan x ts) (only_0 unreached_dead_end.plan.transitions s w.0) w)
  where
    at_1 : (ts : List ℕ) → StrandedFrom unreached_dead_end.plan 1 ts → ⊥
    at_1 [] w = true≢false w.unfinished
    at_1 (t ∷ ts) w = true≢false w.0

    first : (ts : List ℕ) → StrandedWalk unreached_dead_end.plan 0 ts → ⊥
    first [] (b, w) = w 0 (departs unreached_dead_end.plan 0 0 tt refl)
    first (zero ∷ ts) (b, w) = at_1 ts w.1
    first (suc t ∷ ts) (b, w) = not-suc-le-zero (le_of_suc-le-suc w.0.listed)

-- ---- walks that take an open transition (document 02, E2)

-- 0→0 without limit
abbrev open_loop : Graph
open_loop = plan (4 ∷ []) (join 0 0 0 2047 ∷ [])

-- "A high of 2,047 shall mean no limit", and one of 2,046 does not
pub high_2047 : limit 2047 ≡ Open
high_2047 = refl

pub high_2046 : limit 2046 ≡ Seconds 2046
high_2046 = refl

-- 0→1 2047..2047, at once and into a final state: an open transition may lead anywhere
pub takes_one : OpenWalk open_at-once.plan (cost_for GreatestDelay open_at-once.plan) 0 (0 ∷ [])
unfolding start final from high
takes_one = record { before = []; last = 0; ends_with = refl; unfinished = (refl, tt); departs = departs open_at-once.plan 0 0 tt refl; unlimited = refl }

-- "Both counts and the least delay pay no heed to it"
pub delay_only : (which : Which) → (which ≡ GreatestDelay → ⊥) → HasOpenWalk open_at-once.plan (cost_for which open_at-once.plan) → ⊥
delay_only LeastDelay other (s, ts, w) = false≢true w.unlimited
delay_only GreatestDelay other u = other refl
delay_only LeastCount other (s, ts, w) = false≢true w.unlimited
delay_only GreatestCount other (s, ts, w) = false≢true w.unlimited

-- its low of 2,047 is 2,047 seconds
pub low_2047 : total open_at-once.plan (cost_for LeastDelay open_at-once.plan) 0 (0 ∷ []) ≡ 2047
unfolding low
low_2047 = refl

-- 0→1, where 1 is final, is all that leaves the start: the other transition is not taken, open or not
module _ (a b x y l h : ℕ) where
  abbrev beside : Graph
  beside = plan (4 ∷ 2 ∷ 0 ∷ []) (join 0 1 a b ∷ join (suc x) y l h ∷ [])

  not_taken : is_open (limit b) ≡ false → HasOpenWalk beside (highs beside) → ⊥
  unfolding final from to high
  not_taken e (s, ts, w) = first s w.before (only_0 beside.transitions s w.unfinished.0) w.unfinished.1 w.last w.departs w.unlimited
    where
      at_1 : (us : List ℕ) → UnfinishedFrom beside 1 us → ⊥
      at_1 [] u = true≢false u
      at_1 (t ∷ us) u = true≢false u.0

      first : (s : ℕ) (us : List ℕ) → s ≡ 0 → AfterStart beside (λ x. Unit) (UnfinishedFrom beside) s us → (t : ℕ) → Departs beside (arrival beside s us) t
          → is_open (limit (high beside t)) ≡ true → ⊥
      first s [] q u zero d o = false≢true (sym e ∙ o)
      first s [] q u (suc zero) d o = omega (arith, d.source)
      first s [] q u (suc (suc t)) d o = not-suc-le-zero (le_of_suc-le-suc (le_of_suc-le-suc d.listed))
      first s (zero ∷ us) q u t d o = at_1 us u.1
      first s (suc zero ∷ us) q u t d o = omega (arith, u.0.source)
      first s (suc (suc v) ∷ us) q u t d o = not-suc-le-zero (le_of_suc-le-suc (le_of_suc-le-suc u.0.listed))

-- "from a start": one that leaves 2, which no start reaches
pub unreached_not_open : HasOpenWalk open_unreached.plan (cost_for GreatestDelay open_unreached.plan) → ⊥
unreached_not_open = not_taken 2 3 1 1 1 2047 refl

-- "an unfinished walk": one that leaves 1, a final state that the walk arrived at
pub answered_not_open : HasOpenWalk open_answered.plan (cost_for GreatestDelay open_answered.plan) → ⊥
answered_not_open = not_taken 1 2 0 2 5 2047 refl

-- ---- "first that applies"

-- P9: 0→0 goes on forever, and 0→1 ends in a dead end
pub P9-endless : HasEndlessWalk P9.plan
P9-endless = loop-endless 0 1

pub P9-stranded : EndsUnanswered P9.plan
unfolding start final from to
P9-stranded = (0, 1 ∷ [], (refl, (departs P9.plan 0 1 tt refl, record { unfinished = refl; none-departs = none-departs })))
  where
    none-departs : (t : ℕ) → Departs P9.plan 1 t → ⊥
    none-departs zero d = omega (arith, d.source)
    none-departs (suc zero) d = omega (arith, d.source)
    none-departs (suc (suc t)) d = not-suc-le-zero (le_of_suc-le-suc (le_of_suc-le-suc d.listed))

pub P9-start : start P9.plan 0 ≡ true
unfolding start
P9-start = refl

-- "NONE if no state is marked start": P9 has a start, though none that leads to an answer
pub P9-started : NoStart P9.plan → ⊥
P9-started none = none 0 P9-start

pub endless-first : (c : Cost) → IsGreatest P9.plan c ENDLESS
endless-first c = (P9-started, inl P9-endless)

-- "NONE if there is no route": P3 has a start, and no route
P3-no-route : (s : ℕ) (ts : List ℕ) → Route P3.plan s ts → ⊥
P3-no-route s [] (b, w) = w
P3-no-route s (t ∷ ts) (b, w) = not-suc-le-zero w.0.listed

pub none-without-route : (c : Cost) → IsLeast P3.plan c NONE
none-without-route c = P3-no-route

-- ---- what is shown

one_place : Different (0 ∷ [])
one_place i j l h e = omega arith

-- for ENDLESS 0→0, back where it began, and for STRANDED the start alone
pub loop-shown : (c : Cost) → Shown P4.plan c ENDLESS (0 ∷ []) 0
unfolding start final from to
loop-shown c = inl (0, (refl, (departs P4.plan 0 0 tt refl, refl)), lit< tt, refl, one_place)

pub start-shown : (c : Cost) → Shown P3.plan c STRANDED [] 0
unfolding start final
start-shown c = (0, (refl, λ t d. not-suc-le-zero d.listed), one_place, refl)

-- "visits no state twice": 0→0, 0→1 is a route of 1 second
pub not_twice : Shown P4.plan (cost_for LeastDelay P4.plan) (number 1) (0 ∷ 1 ∷ []) 0 → ⊥
unfolding from to
not_twice (s, r, q, d, z) = omega (arith, d 0 1 (lit< tt) (lit< tt) (sym r.1.0.source))

-- "a route that attains the figure": P6's first transition has a low of 1, and so no delay of 3
pub attains : Shown P6.plan (cost_for LeastDelay P6.plan) (number 3) (0 ∷ []) 0 → ⊥
unfolding low
attains (s, r, q, d, z) = let e : ◌≡◌ {A = ℕ} 1 3 = q in omega arith

-- "no state twice": 0→0, 0→1, where 1 is a dead end
pub not_twice-stranded : (c : Cost) → Shown P9.plan c STRANDED (0 ∷ 1 ∷ []) 0 → ⊥
unfolding from to
not_twice-stranded c (s, w, d, z) = d 0 1 (lit< tt) (lit< tt) (sym w.1.0.source)

-- "a place j below k"
pub not_at_k : LoopShown P4.plan [] 0 → ⊥
not_at_k (s, w, l, q, d) = not-suc-le-zero l

-- "the state after k transitions is the state after j": 0→1 does not come back
pub comes_back : LoopShown P9.plan (1 ∷ []) 0 → ⊥
unfolding from to
comes_back (s, w, l, q, d) = let e : ◌≡◌ {A = ℕ} 1 0 = q ∙ sym w.1.0.source in omega arith

-- "the first k states differ": 0→0, 0→0
pub not_past-first : LoopShown P4.plan (0 ∷ 0 ∷ []) 0 → ⊥
unfolding from to
not_past-first (s, w, l, q, d) = d 0 1 (lit< tt) (lit< tt) (sym w.1.0.source)

-- "A walk shown for that ends with the transition, j equals k"
pub open_shown : Shown open_at-once.plan (cost_for GreatestDelay open_at-once.plan) ENDLESS (0 ∷ []) 1
open_shown = inr (0, takes_one, refl, one_place)

pub not_before_k : Shown open_at-once.plan (cost_for GreatestDelay open_at-once.plan) ENDLESS (0 ∷ []) 0 → ⊥
unfolding final to
not_before_k (inl (s, (b, w), l, q, d)) = true≢false w.1
not_before_k (inr (s, w, q, d)) = omega arith

-- "its first k states still differ": 0→0, and 0→0 without limit
pub not_round-first : OpenShown open_loop (cost_for GreatestDelay open_loop) (0 ∷ 0 ∷ []) 2 → ⊥
unfolding from to
not_round-first (s, w, q, d) = again w.before w.last w.ends_with w.unfinished.1
  where
    again : (us : List ℕ) (t : ℕ) → ◌≡◌ {A = List ℕ} (0 ∷ 0 ∷ []) (us ++ (t ∷ [])) → AfterStart open_loop (λ x. Unit) (UnfinishedFrom open_loop) s us → ⊥
    again [] t e u = omega (arith, ap length e)
    again (v ∷ us) t e u = d 0 1 (lit< tt) (lit< tt) (sym (rw (sym (ap (λ (l : List ℕ). get_or l 0 0) e)) at u.0.source))

-- "For NONE: k is 0."
pub none-empty : (c : Cost) (t : ℕ) (ts : List ℕ) → Shown P4.plan c NONE (t ∷ ts) 0 → ⊥
none-empty c t ts (e, z) = omega (arith, e)

-- "Only ENDLESS has a j."
pub only_endless : (g : Graph) (c : Cost) (f : Figure) (ts : List ℕ) (j : ℕ) → Shown g c f ts j → (f ≡ ENDLESS) ⊎ (j ≡ 0)
only_endless g c (number k) ts j (s, r, q, d, z) = inr z
only_endless g c STRANDED ts j (s, w, d, z) = inr z
only_endless g c ENDLESS ts j w = inl refl
only_endless g c NONE ts j (e, z) = inr z

-- ---- calls that begin answered (document 02, E5)

-- "a start without transitions is a dead end", final as it is, shown with k at 0; that it is no route stands above (`not_alone`)
pub answered_start : EndsUnanswered P2.plan
unfolding start final
answered_start = (0, [], (refl, λ t d. not-suc-le-zero d.listed))

-- "Its first state may be final": 0→0, where 0 is start and final
returning : Route answered_returns.plan 0 (0 ∷ [])
unfolding start final from to
returning = (refl, (departs answered_returns.plan 0 0 tt refl, refl))

-- "such a state counts twice if counted"
pub counts_twice : total answered_returns.plan (cost_for LeastCount answered_returns.plan) 0 (0 ∷ []) ≡ 2
unfolding start counted from to
counts_twice = refl

-- "A shown route may end where it began"
pub returns_shown : Shown answered_returns.plan (cost_for LeastDelay answered_returns.plan) (number 3) (0 ∷ []) 0
unfolding low to
returns_shown = (0, returning, refl, (λ i j l h e. (omega arith, omega arith)), refl)

-- but it goes no further: 0→0, 0→0
pub returns_once : Route answered_returns.plan 0 (0 ∷ 0 ∷ []) → ⊥
unfolding final to
returns_once (b, w) = true≢false w.1.0

-- "An endless or stranded walk, or one that takes an open high, likewise may begin at a final start". 0→1, and 1→1 for ever ..
pub answered_goes_on : HasEndlessWalk answered_loop.plan
unfolding start final from to
answered_goes_on = (
  0,
  taken,
  (refl, (departs answered_loop.plan 0 0 tt refl, record { departs = λ i. rw (stays i) (departs answered_loop.plan 1 1 tt refl); unfinished = λ i. rw (stays i) refl })),
)
  where
    taken : ℕ → ℕ
    taken zero = 0
    taken (suc i) = 1

    stays : (i : ℕ) → reached answered_loop.plan 1 (λ i. 1) i ≡ 1
    stays zero = refl
    stays (suc i) = refl

two-places : Different (0 ∷ 1 ∷ [])
two-places zero zero l h e = omega arith
two-places zero (suc zero) l h e = let z : ◌≡◌ {A = ℕ} 0 1 = e in omega arith
two-places zero (suc (suc j)) l h e = omega arith
two-places (suc i) j l h e = omega arith

-- .. is shown once round 1→1: the place come back to is that of 1, and not that of the start
pub answered_endless : (c : Cost) → Shown answered_loop.plan c ENDLESS (0 ∷ 1 ∷ []) 1
unfolding start final from to
answered_endless c =
    inl (0, (refl, (departs answered_loop.plan 0 0 tt refl, (refl, departs answered_loop.plan 1 1 tt refl, refl))), lit< tt, refl, two-places)

-- 0→1, a dead end
pub answered_ends : (c : Cost) → Shown answered_stranded.plan c STRANDED (0 ∷ []) 0
unfolding start final from to
answered_ends c = (0, (refl, (departs answered_stranded.plan 0 0 tt refl, record { unfinished = refl; none-departs = none-departs })), two-places, refl)
  where
    none-departs : (t : ℕ) → Departs answered_stranded.plan 1 t → ⊥
    none-departs zero d = omega (arith, d.source)
    none-departs (suc t) d = not-suc-le-zero (le_of_suc-le-suc d.listed)

-- 0→1 without limit
pub answered_takes-one : OpenWalk answered_open.plan (cost_for GreatestDelay answered_open.plan) 0 (0 ∷ [])
unfolding start final from high
answered_takes-one = record { before = []; last = 0; ends_with = refl; unfinished = (refl, tt); departs = departs answered_open.plan 0 0 tt refl; unlimited = refl }

-- ---- the record

-- "0 number, 1 NONE, 2 STRANDED, 3 ENDLESS"
pub kinds : (kind (number 7) ≡ 0) × (kind NONE ≡ 1) × (kind STRANDED ≡ 2) × (kind ENDLESS ≡ 3)
kinds = (refl, refl, refl, refl)

-- "zero unless the kind is 0"
pub zero-beside_a_kind : (value (number 7) ≡ 7) × (value NONE ≡ 0) × (value STRANDED ≡ 0) × (value ENDLESS ≡ 0)
zero-beside_a_kind = (refl, refl, refl, refl)
