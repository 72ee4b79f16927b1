-- Both delays of P10 are 1,045,506 seconds.
--
-- From each state but the last departs one transition, numbered as the state is, to the next one, and only the last is final; so a call that sets out from state 0 takes all
-- 511. By a certificate, as the ring's (Attained.antt): the value of state s is 2,046 seconds for each of the 511 - s transitions that are still to come. It is the same for the
-- lows and for the highs, none of which is open, so it is said once of a cost of 2,046 a step (`Even`). Assumes nothing.
use mathlib.Core.Bool.{Bool, true, false, cond, true≢false}
use mathlib.Core.Logic.{◌⊎◌, inl, inr}
use mathlib.Core.Path.{◌≡◌, refl, sym, ap, ◌∙◌, subst}
use Prim.Native.Nat.{ℕ, zero, suc, ◌+◌, ◌-◌, ◌*◌, ◌≤◌, ◌<◌}
use native.Mathlib.Nat.{eq-or-lt_of_le, le_of_suc-le-suc, le_refl}
use native.Mathlib.Omega.{arith}
use borrow.Author.Tests.{lt-ltb, eqb-true}
use lib.Dec.{eqb, lit<}
use Rattle.graph.specs.declared.Which.TheVariants.{LeastDelay, GreatestDelay}
use Rattle.graph.specs.Compute.{figure_for}
use Rattle.graph.specs.Figure.{number, IsLeast, IsGreatest}
use Rattle.graph.specs.Graph.{State, Transition, start_mark, final_mark, marked, states, count, marks_of, start, final, transition, from, to, low, high, Departs, Final, Unfinished}
use Rattle.graph.specs.Route.{Cost, lows, highs}
use Rattle.graph.specs.Walk.{Begins}
use Rattle.graph.proofs.Certificate.{Choice, Choices, least-number, greatest-number}
use Rattle.graph.proofs.Walks.{start-below, final-below}
use Rattle.rules.specs.Limits.{all, within, state_ok, transition_ok}
use Rattle.rules.proofs.Figures.{least-one, greatest-one}
use Rattle.rules.proofs.ReadWrite.{within-limits}
use Rattle.rules.proofs.Tabulated.{length-tabulate, get_d_tabulate, all-tabulate}
use Rattle.bounds.specs.Chain.{chain, chain_marks, chain_transition}

-- ---- its states and transitions

chain-states : states chain ≡ 512
unfolding chain
chain-states = length-tabulate 512 (λ s. marked (chain_marks s))

chain-count : count chain ≡ 511
unfolding chain
chain-count = length-tabulate 511 chain_transition

from_is : (t : ℕ) → t < 511 → from chain t ≡ t
unfolding from transition chain
from_is t h = ap (λ (x : Transition). x.from) (get_d_tabulate 511 chain_transition t _ h)

to_is : (t : ℕ) → t < 511 → to chain t ≡ suc t
unfolding to transition chain
to_is t h = ap (λ (x : Transition). x.to) (get_d_tabulate 511 chain_transition t _ h)

low_is : (t : ℕ) → t < 511 → low chain t ≡ 2046
unfolding low transition chain
low_is t h = ap (λ (x : Transition). x.low) (get_d_tabulate 511 chain_transition t _ h)

high_is : (t : ℕ) → t < 511 → high chain t ≡ 2046
unfolding high transition chain
high_is t h = ap (λ (x : Transition). x.high) (get_d_tabulate 511 chain_transition t _ h)

marks-are : (s : ℕ) → s < 512 → marks_of chain s ≡ chain_marks s
unfolding marks_of chain
marks-are s h = ap (λ (x : State). x.marks) (get_d_tabulate 512 (λ s. marked (chain_marks s)) s _ h)

begins_0 : Begins chain 0
unfolding start
begins_0 = rw (marks-are 0 (lit< tt)) refl

begins-alone : (s : ℕ) → Begins chain s → s ≡ 0
unfolding start
begins-alone zero b = refl
begins-alone (suc s) b =
    let h : suc s < 512 = omega (arith, start-below chain (suc s) b, chain-states) in
    absurd (no (eqb s 510) (sym (ap start_mark (marks-are (suc s) h)) ∙ b))
  where
    no : (x : Bool) → start_mark (cond x 2 0) ≡ true → ⊥
    no true e = true≢false (sym e)
    no false e = true≢false (sym e)

final_511 : Final chain 511
unfolding final
final_511 = rw (marks-are 511 (lit< tt)) refl

final-alone : (s : ℕ) → Final chain s → s ≡ 511
unfolding final
final-alone zero f = absurd (true≢false (sym f ∙ rw (marks-are 0 (lit< tt)) refl))
final-alone (suc s) f =
    let h : suc s < 512 = omega (arith, final-below chain (suc s) f, chain-states) in
    go (eqb s 510) refl (sym (ap final_mark (marks-are (suc s) h)) ∙ f)
  where
    go : (x : Bool) → eqb s 510 ≡ x → final_mark (cond x 2 0) ≡ true → suc s ≡ 511
    go true e f = ap suc (eqb-true s 510 e)
    go false e f = absurd (true≢false (sym f))

-- an unfinished state is not the last
not_last : (s : ℕ) → s < 512 → Unfinished chain s → s < 511
not_last s h u = go (eq-or-lt_of_le (le_of_suc-le-suc h))
  where
    go : (s ≡ 511) ⊎ (s < 511) → s < 511
    go (inl e) = absurd (true≢false (sym (rw e final_511) ∙ u))
    go (inr l) = l

departs-own : (s : ℕ) → s < 511 → Departs chain s s
departs-own s h = record { listed = omega (arith, chain-count); source = from_is s h }

own : (s t : ℕ) → Departs chain s t → (t ≡ s) × (t < 511)
own s t d =
    let h : t < 511 = omega (arith, d.listed, chain-count) in
    (sym (from_is t h) ∙ d.source, h)

-- ---- the values

-- 2,046 a step, and no step open
record Even (c : Cost) : Type 0 where
  pub steps : (t : ℕ) → t < 511 → c.step t ≡ 2046
  pub limited : (t : ℕ) → t < 511 → c.unlimited t ≡ false
  pub closes : (s : ℕ) → c.close s ≡ 0

-- the states, and those that a transition leaves
abbrev There : ℕ → Type 0
There s = s < 512

abbrev Leaving : ℕ → Type 0
Leaving s = s < 511

abbrev rest : ℕ → ℕ
rest s = 2046 * (511 - s)

abbrev rank : ℕ → ℕ
rank s = 512 - s

module _ (c : Cost) (even : Even c) where
  accounts : (s t : ℕ) → Departs chain s t → rest s ≡ c.step t + rest (to chain t)
  accounts s t d =
      let (e, h) = own s t d in
      rw (even.steps t h, to_is t h) (let x : 2046 * (511 - s) ≡ 2046 + 2046 * (511 - suc t) = omega arith in x)

  last_rest : (s : ℕ) → Final chain s → rest s ≡ c.close s
  last_rest s f = rw (final-alone s f, even.closes 511) refl

  -- the one choice at each state, in a set that the next unfinished state is in
  chosen : (In : ℕ → Type 0) → ((s : ℕ) → In s → s < 512) → ((s : ℕ) → s < 511 → In s) → Choices chain c In rest rank
  chosen In below inside = record { at-final = last_rest; choice = choice }
    where
      choice : (s : ℕ) → In s → Unfinished chain s → Choice chain c In rest rank s
      choice s i u =
          let h : s < 511 = not_last s (below s i) u in
          record {
            next = s;
            departs = departs-own s h;
            accounts = accounts s s (departs-own s h);
            onward = λ v.
                let t = to_is s h in
                (inside (to chain s) (not_last (to chain s) (omega arith) v), omega arith);
          }

  first_step : c.step 0 + rest (to chain 0) ≡ 1045506
  first_step = rw (even.steps 0 (lit< tt), to_is 0 (lit< tt)) refl

  -- one start, and one transition out of it
  only : (x u : ℕ) → Begins chain x → Departs chain x u → u ≡ 0
  only x u b d = (own x u d).0 ∙ begins-alone x b

  least_of_chain : IsLeast chain c (number 1045506)
  least_of_chain =
      subst (λ (k : ℕ). IsLeast chain c (number k)) first_step
      (least-number chain c There rest rank (record { at-final = at-final; over = over }) (chosen There (λ s h. h) (λ s h. omega arith)) 0 0 begins_0 (departs-own 0 (lit< tt))
      (omega (arith, to_is 0 (lit< tt))) (λ x u b d i. rw (only x u b d) (le_refl (c.step 0 + rest (to chain 0)))))
    where
      at-final : (s : ℕ) → Final chain s → There s × (rest s ≤ c.close s)
      at-final s f = (omega (arith, final-alone s f), omega (arith, last_rest s f))

      over : (s t : ℕ) → Unfinished chain s → Departs chain s t → There (to chain t) → There s × (rest s ≤ c.step t + rest (to chain t))
      over s t u d i = (omega (arith, own s t d), omega (arith, accounts s t d))

  greatest_of_chain : IsGreatest chain c (number 1045506)
  greatest_of_chain =
      subst (λ (k : ℕ). IsGreatest chain c (number k)) first_step
      (greatest-number chain c Leaving rest rank (record { begins = begins; onward = onward }) (λ s t i d. even.limited t (own s t d).1) (record { at-final = at-final; over = over })
      (chosen Leaving (λ s h. omega arith) (λ s h. h)) 0 0 begins_0 (departs-own 0 (lit< tt)) (λ x u b d. rw (only x u b d) (le_refl (c.step 0 + rest (to chain 0))))
      (λ x i. (x, departs-own x i)))
    where
      begins : (s : ℕ) → Begins chain s → Leaving s
      begins s b = omega (arith, begins-alone s b)

      onward : (s t : ℕ) → Leaving s → Departs chain s t → Unfinished chain (to chain t) → Leaving (to chain t) × (rank (to chain t) < rank s)
      onward s t i d u =
          let (e, h) = own s t d in
          let there = to_is t h in
          (not_last (to chain t) (omega arith) u, omega arith)

      at-final : (s : ℕ) → Final chain s → c.close s ≤ rest s
      at-final s f = omega (arith, last_rest s f)

      over : (s t : ℕ) → Leaving s → Unfinished chain s → Departs chain s t → c.step t + rest (to chain t) ≤ rest s
      over s t i u d = omega (arith, accounts s t d)

-- ---- the figures

lows_even : Even (lows chain)
lows_even = record { steps = low_is; limited = λ t h. refl; closes = λ s. refl }

highs_even : Even (highs chain)
highs_even = record { steps = λ t h. rw (high_is t h) refl; limited = λ t h. rw (high_is t h) refl; closes = λ s. refl }

-- the chain is a plan
pub chain-within : within chain ≡ true
unfolding chain
chain-within =
    within-limits chain
    (record {
      least = omega (arith, chain-states);
      most = omega (arith, chain-states);
      transitions = omega (arith, chain-count);
      each-state = all-tabulate state_ok 512 (λ s. marked (chain_marks s)) state-ok;
      each-transition = ap (λ (n : ℕ). all (transition_ok n) chain.transitions) chain-states ∙ all-tabulate (transition_ok 512) 511 chain_transition transition-ok;
    })
  where
    marks-ok : (x : Bool) → state_ok (marked (cond x 2 0)) ≡ true
    marks-ok true = refl
    marks-ok false = refl

    state-ok : (s : ℕ) → s < 512 → state_ok (marked (chain_marks s)) ≡ true
    state-ok zero h = refl
    state-ok (suc s) h = marks-ok (eqb s 510)

    transition-ok : (t : ℕ) → t < 511 → transition_ok 512 (chain_transition t) ≡ true
    transition-ok t h =
        let here : t < 512 = omega arith in
        let there : suc t < 512 = omega arith in
        rw (lt-ltb t 512 here, lt-ltb (suc t) 512 there) refl

-- "P10's steps become 2046..2046 and its delays 1,045,506."
pub chain-least : figure_for LeastDelay chain ≡ number 1045506
unfolding figure_for
chain-least = sym (least-one chain chain-within (lows chain) (number 1045506) (least_of_chain (lows chain) lows_even))

pub chain-greatest : figure_for GreatestDelay chain ≡ number 1045506
unfolding figure_for
chain-greatest = sym (greatest-one chain chain-within (highs chain) (number 1045506) (greatest_of_chain (highs chain) highs_even))
