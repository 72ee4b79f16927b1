-- Every generated plan is within the limits, by arithmetic alone; nothing is used of the draws. There are as many states and transitions as were asked for. A state's marks value is
-- 4, 2, 6 or 0, since it is start or not, final or not, and never counted; its team is 0. A remainder by n is a state, since n is at least 1. Low is a remainder by 2,048, so it is at most
-- 2,047 and 2,048 − low is at least 1; high is low plus a remainder by that, so it is at least low and below low + (2,048 − low), which is 2,048. A rule that accepts has no row that
-- holds: then both counts are in order. Assumes nothing.
use mathlib.Core.Bool.{Bool, true, false, cond, not}
use mathlib.Core.List.{[], ◌∷◌}
use mathlib.Core.Path.{◌≡◌, refl, sym, ap, ◌∙◌}
use Prim.Native.Nat.{ℕ, ◌+◌, ◌-◌, ◌*◌, ◌%◌, ◌≤◌, ◌<◌}
use borrow.Author.Tests.{leb-true, le-leb, lt-ltb}
use native.Mathlib.Nat.{mod-lt}
use native.Mathlib.Omega.{arith}
use lib.Dec.{leb, ltb, eqb}
use lib.ListN.{length}
use Rattle.generator.specs.Words.{draw}
use Rattle.graph.specs.Graph.{Graph, Transition, marked, marks_from}
use Rattle.rules.specs.declared.Refusal.TheVariants.{TransitionCount}
use Rattle.rules.specs.Limits.{all, within, state_count_ok, transition_count_ok, state_ok, transition_ok, ends_ok, durations_ok}
use Rattle.rules.specs.Refusal.{accepted}
use Rattle.rules.specs.Rules.{fresh_rows}
use Rattle.rules.proofs.ReadWrite.{within-limits}
use Rattle.rules.proofs.Results.{not-false, and_true, both_true}
use Rattle.rules.proofs.Tables.{accepted_only, none-append}
use Rattle.rules.proofs.Tabulated.{length-tabulate, all-tabulate}
use Rattle.generated.specs.Generated.{transition_from, transition_drawn, marks_drawn, generated_graph, generate_rows, generate_rule}

-- the four marks values that a state may have
state-ok : (start final : Bool) → state_ok (marked (marks_from (cond start 1 0) (cond final 1 0) 0)) ≡ true
state-ok true true = refl
state-ok true false = refl
state-ok false true = refl
state-ok false false = refl

-- low, and what is added to it
low_below : (low : ℕ) → low % 2048 < 2048
low_below low = omega arith

high_below : (low x : ℕ) → low < 2048 → low + x % (2048 - low) < 2048
high_below low x h =
    let room : 0 < 2048 - low = omega arith in
    let more : x % (2048 - low) < 2048 - low = mod-lt x room in
    omega arith

-- whatever the four draws are
transition-ok : (n from to low high : ℕ) → 1 ≤ n → transition_ok n (transition_from n from to low high) ≡ true
transition-ok n from to low high h =
    let t : Transition = transition_from n from to low high in
    let above : low % 2048 ≤ low % 2048 + high % (2048 - low % 2048) = omega arith in
    let below : low % 2048 + high % (2048 - low % 2048) ≤ 2047 = omega (arith, high_below (low % 2048) high (low_below low)) in
    both_true (ends_ok n t) (durations_ok t)
    (both_true (ltb (from % n) n) (ltb (to % n) n) (lt-ltb (from % n) n (mod-lt from h)) (lt-ltb (to % n) n (mod-lt to h)))
    (both_true (leb t.low t.high) (leb t.high 2047) (le-leb t.low t.high above) (le-leb t.high 2047 below))

pub generated_within : (s n m : ℕ) → state_count_ok n ≡ true → transition_count_ok m ≡ true → within (generated_graph s n m) ≡ true
unfolding generated_graph transition_drawn
generated_within s n m h k =
    let (one, most) = and_true (leb 1 n) (leb n 512) h in
    let least : 1 ≤ n = leb-true 1 n one in
    let g : Graph = generated_graph s n m in
    let ns : length g.state_list ≡ n = length-tabulate n (λ i. marked (marks_drawn n i)) in
    let ms : length g.transitions ≡ m = length-tabulate m (transition_drawn s n) in
    within-limits g
    (record {
      least = omega (arith, least, ns);
      most = omega (arith, leb-true n 512 most, ns);
      transitions = omega (arith, leb-true m 2048 k, ms);
      each-state = all-tabulate state_ok n (λ i. marked (marks_drawn n i)) (λ i l. state-ok (eqb i 0) (eqb (i + 1) n));
      each-transition =
          ap (λ (x : ℕ). all (transition_ok x) g.transitions) ns
          ∙ all-tabulate (transition_ok n) m (transition_drawn s n) (λ i l. transition-ok n (draw s (4 * i)) (draw s (4 * i + 1)) (draw s (4 * i + 2)) (draw s (4 * i + 3)) least);
    })

pub rule-within : (s n m : ℕ) (g : Graph) → generate_rule s n m ≡ accepted g → within g ≡ true
unfolding generate_rule
rule-within s n m g e =
    let (none, same) = accepted_only (generate_rows n m) (generated_graph s n m) g e in
    let (states, transitions) = none-append (fresh_rows n) ((TransitionCount, not (transition_count_ok m)) ∷ []) none in
    ap within (sym same) ∙ generated_within s n m (not-false (state_count_ok n) states.0) (not-false (transition_count_ok m) transitions.0)
