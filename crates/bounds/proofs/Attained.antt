-- The least delay of the ring is 1,048,064 seconds.
--
-- From each state departs one transition, numbered as the state is, so a call that sets out from state 0 goes all the way round and is answered where it began: 512 transitions of
-- 2,047 seconds. By a certificate (graph/proofs/Certificate.antt): the value of state s is 2,047 seconds for each of the 512 - s transitions that are still to come, and 0 at state 0, which a
-- walk arrives at answered. Each transition accounts for what the value falls by, so no route costs less than its first step and the value behind it, and the choice at each state
-- is the one that there is. Assumes nothing.
use mathlib.Core.Bool.{true, true≢false}
use mathlib.Core.Logic.{◌⊎◌, inl, inr}
use mathlib.Core.Path.{◌≡◌, refl, sym, ap, ◌∙◌, subst}
use Prim.Native.Nat.{ℕ, zero, suc, ◌+◌, ◌-◌, ◌*◌, ◌%◌, ◌≤◌, ◌<◌, zero-le}
use native.Mathlib.Nat.{eq-or-lt_of_le, le_of_suc-le-suc, le_refl}
use native.Mathlib.Omega.{arith}
use borrow.Author.Tests.{lt-ltb}
use lib.Dec.{lit<}
use Rattle.graph.specs.declared.Which.TheVariants.{LeastDelay}
use Rattle.graph.specs.Compute.{figure_for}
use Rattle.graph.specs.Figure.{number, IsFigure, IsLeast}
use Rattle.graph.specs.Graph.{State, Transition, marked, states, count, marks_of, start, final, transition, from, to, low, Departs, Final, Unfinished}
use Rattle.graph.specs.Route.{lows}
use Rattle.graph.specs.Walk.{Begins}
use Rattle.graph.proofs.Certificate.{LeastValues, Choice, Choices, least-number}
use Rattle.graph.proofs.Walks.{start-below, final-below}
use Rattle.rules.specs.Limits.{all, within, state_ok, transition_ok}
use Rattle.rules.proofs.Figures.{least-one}
use Rattle.rules.proofs.ReadWrite.{within-limits}
use Rattle.rules.proofs.Tabulated.{length-tabulate, get_d_tabulate, all-tabulate}
use Rattle.bounds.specs.Ring.{ring, ring_marks, ring_transition}

-- ---- the ring's states and transitions

ring-states : states ring ≡ 512
unfolding ring
ring-states = length-tabulate 512 (λ s. marked (ring_marks s))

ring-count : count ring ≡ 512
unfolding ring
ring-count = length-tabulate 512 ring_transition

from_is : (t : ℕ) → t < 512 → from ring t ≡ t
unfolding from transition ring
from_is t h = ap (λ (x : Transition). x.from) (get_d_tabulate 512 ring_transition t _ h)

to_is : (t : ℕ) → t < 512 → to ring t ≡ suc t % 512
unfolding to transition ring
to_is t h = ap (λ (x : Transition). x.to) (get_d_tabulate 512 ring_transition t _ h)

low_is : (t : ℕ) → t < 512 → low ring t ≡ 2047
unfolding low transition ring
low_is t h = ap (λ (x : Transition). x.low) (get_d_tabulate 512 ring_transition t _ h)

marks-are : (s : ℕ) → s < 512 → marks_of ring s ≡ ring_marks s
unfolding marks_of ring
marks-are s h = ap (λ (x : State). x.marks) (get_d_tabulate 512 (λ s. marked (ring_marks s)) s _ h)

-- state 0 is start and final, and no other is
begins_0 : Begins ring 0
unfolding start
begins_0 = rw (marks-are 0 (lit< tt)) refl

final_0 : Final ring 0
unfolding final
final_0 = rw (marks-are 0 (lit< tt)) refl

begins-alone : (s : ℕ) → Begins ring s → s ≡ 0
unfolding start
begins-alone zero b = refl
begins-alone (suc s) b =
    let h : suc s < 512 = omega (arith, start-below ring (suc s) b, ring-states) in
    absurd (true≢false (sym b ∙ rw (marks-are (suc s) h) refl))

final-alone : (s : ℕ) → Final ring (suc s) → ⊥
unfolding final
final-alone s f =
    let h : suc s < 512 = omega (arith, final-below ring (suc s) f, ring-states) in
    true≢false (sym f ∙ rw (marks-are (suc s) h) refl)

-- where a transition leads: the last to state 0, each other to the next state
abbrev Leads : ℕ → Type 0
Leads t = ((t ≡ 511) × (to ring t ≡ 0)) ⊎ ((t < 511) × (to ring t ≡ suc t))

next : (t : ℕ) → t < 512 → Leads t
next t h = go (eq-or-lt_of_le (le_of_suc-le-suc h))
  where
    go : (t ≡ 511) ⊎ (t < 511) → Leads t
    go (inl e) = inl (e, omega (arith, to_is t h))
    go (inr l) = inr (l, omega (arith, to_is t h))

-- from each state one departs, of its number
departs-own : (s : ℕ) → s < 512 → Departs ring s s
departs-own s h = record { listed = omega (arith, ring-count); source = from_is s h }

own : (s t : ℕ) → Departs ring s t → (t ≡ s) × (t < 512)
own s t d =
    let h : t < 512 = omega (arith, d.listed, ring-count) in
    (sym (from_is t h) ∙ d.source, h)

-- ---- the values

abbrev InRing : ℕ → Type 0
InRing s = s < 512

-- the seconds from s to the answer at state 0
abbrev rest : ℕ → ℕ
rest zero = 0
rest (suc s) = 2047 * (511 - s)

-- the transitions that are still to come, at most
abbrev rank : ℕ → ℕ
rank s = 512 - s

accounts : (s t : ℕ) → Departs ring (suc s) t → rest (suc s) ≡ low ring t + rest (to ring t)
accounts s t d = let (e, h) = own (suc s) t d in go e h (next t h)
  where
    go : t ≡ suc s → t < 512 → Leads t → rest (suc s) ≡ low ring t + rest (to ring t)
    go e h (inl (last, z)) = rw (z, low_is t h) (let x : 2047 * (511 - s) ≡ 2047 + 0 = omega arith in x)
    go e h (inr (l, z)) = rw (z, low_is t h) (let x : 2047 * (511 - s) ≡ 2047 + 2047 * (511 - t) = omega arith in x)

values : LeastValues ring (lows ring) InRing rest
values = record { at-final = at-final; over = over }
  where
    at-final : (s : ℕ) → Final ring s → InRing s × (rest s ≤ 0)
    at-final zero f = (lit< tt, zero-le)
    at-final (suc s) f = absurd (final-alone s f)

    over : (s t : ℕ) → Unfinished ring s → Departs ring s t → InRing (to ring t) → InRing s × (rest s ≤ low ring t + rest (to ring t))
    over zero t u d h = absurd (true≢false (sym final_0 ∙ u))
    over (suc s) t u d h = (omega (arith, own (suc s) t d), omega (arith, accounts s t d))

choices : Choices ring (lows ring) InRing rest rank
choices = record { at-final = at-final; choice = choice }
  where
    at-final : (s : ℕ) → Final ring s → rest s ≡ 0
    at-final zero f = refl
    at-final (suc s) f = absurd (final-alone s f)

    onward : (s : ℕ) → s < 512 → Leads s → Unfinished ring (to ring s)
        → InRing (to ring s) × (rank (to ring s) < rank s)
    onward s h (inl (e, z)) u = absurd (true≢false (sym (rw z final_0) ∙ u))
    onward s h (inr (l, z)) u = (omega arith, omega arith)

    choice : (s : ℕ) → InRing s → Unfinished ring s → Choice ring (lows ring) InRing rest rank s
    choice zero i u = absurd (true≢false (sym final_0 ∙ u))
    choice (suc s) i u = record {
      next = suc s;
      departs = departs-own (suc s) i;
      accounts = accounts s (suc s) (departs-own (suc s) i);
      onward = onward (suc s) i (next (suc s) i);
    }

-- ---- the figure

first_step : low ring 0 + rest (to ring 0) ≡ 1048064
first_step = rw (low_is 0 (lit< tt), to_is 0 (lit< tt)) refl

-- "no figure passes 1,048,064" (document 02, E8), and this plan's least delay is that
pub ring-attains : IsFigure LeastDelay ring (number 1048064)
ring-attains =
    subst (λ (k : ℕ). IsLeast ring (lows ring) (number k)) first_step
    (least-number ring (lows ring) InRing rest rank values choices 0 0 begins_0 (departs-own 0 (lit< tt)) (omega (arith, to_is 0 (lit< tt))) best)
  where
    best : (x u : ℕ) → Begins ring x → Departs ring x u → InRing (to ring u) → low ring 0 + rest (to ring 0) ≤ low ring u + rest (to ring u)
    best x u b d i =
        let z : u ≡ 0 = (own x u d).0 ∙ begins-alone x b in
        rw z (le_refl (low ring 0 + rest (to ring 0)))

-- the ring is a plan
pub ring-within : within ring ≡ true
unfolding ring
ring-within =
    within-limits ring
    (record {
      least = omega (arith, ring-states);
      most = omega (arith, ring-states);
      transitions = omega (arith, ring-count);
      each-state = all-tabulate state_ok 512 (λ s. marked (ring_marks s)) state-ok;
      each-transition = ap (λ (n : ℕ). all (transition_ok n) ring.transitions) ring-states ∙ all-tabulate (transition_ok 512) 512 ring_transition transition-ok;
    })
  where
    state-ok : (s : ℕ) → s < 512 → state_ok (marked (ring_marks s)) ≡ true
    state-ok zero h = refl
    state-ok (suc s) h = refl

    transition-ok : (t : ℕ) → t < 512 → transition_ok 512 (ring_transition t) ≡ true
    transition-ok t h =
        let below : suc t % 512 < 512 = omega arith in
        rw (lt-ltb t 512 h, lt-ltb (suc t % 512) 512 below) refl

-- so its least delay by computation, which is what is quoted and what the record holds, is that number
pub ring-figure : figure_for LeastDelay ring ≡ number 1048064
unfolding figure_for
ring-figure = sym (least-one ring ring-within (lows ring) (number 1048064) ring-attains)
