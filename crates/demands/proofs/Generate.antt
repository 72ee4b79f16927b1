-- What generate makes, of whatever keeps the promises: its answer and every place of its plan value are its rule's, and the rule's plan is within the limits (generated/proofs/Limits.antt), so
-- that write accepts it and what it writes reads back (demand 2's sentence), and a list of calls from it is a run of the rules whose plan is within the limits. Then the impostor:
-- one that makes a fixed plan whatever the seed is. Assumes nothing.
use mathlib.Core.Bool.{true, false}
use mathlib.Core.List.{List, ◌++◌, map}
use mathlib.Core.Path.{◌≡◌, refl, sym, ap, ◌∙◌, subst}
use Prim.Native.Nat.{ℕ, ◌≤◌}
use borrow.Author.Tests.{le-ltb}
use native.Mathlib.Omega.{arith}
use lib.ListN.{length, drop}
use Rattle.generator.specs.Words.{word_after, words}
use Rattle.generated.specs.Generated.{transition_drawn, generated_graph, generate_rows, generate_rule}
use Rattle.generated.proofs.Limits.{rule-within}
use Rattle.graph.specs.Graph.{Graph, states, count, transition, low}
use Rattle.rules.specs.Answer.{Accepted, Answer, Written}
use Rattle.std.proofs.Common.{Ok, Err}
use Rattle.rules.specs.declared.Refusal.{Refusal}
use Rattle.rules.specs.declared.Refusal.TheVariants.{StateCount, TransitionCount}
use Rattle.rules.specs.Calls.{Call, run}
use Rattle.rules.specs.Image.{image, image_length, tabulate}
use Rattle.rules.specs.Limits.{within, state_count_ok, transition_count_ok}
use Rattle.rules.specs.Quotations.{says_asked, Stated, quote_rule}
use Rattle.rules.specs.Refusal.{accepted, refused, answer_of, said, code}
use Rattle.rules.specs.Rules.{write_rule, next}
use Rattle.rules.specs.Table.{first}
use Rattle.rules.proofs.Basic.{quote_done}
use Rattle.rules.proofs.Kept.{run-within}
use Rattle.rules.proofs.ReadWrite.{length-image}
use Rattle.rules.proofs.Results.{never, accepted_as, accepted-answer}
use Rattle.rules.proofs.Tables.{accepted_only}
use Rattle.rules.proofs.Tabulated.{length-tabulate}
use Rattle.plan.specs.declared.Edited.{Edited}
use Rattle.arrays.specs.declared.Plan.{Plan}
use Rattle.plan.specs.Promise.{next_value}
use Rattle.plan.specs.View.{view, no_plan}
use Rattle.plan.proofs.Promises.{obeyed-run, puts, write-then-read}
use Rattle.demands.specs.Calculator.{Calculator, Promises, Listed}
use Rattle.demands.specs.Generate.{Generates, SameEverywhere}
use Rattle.demands.proofs.Demands.{was-quoted, obeyed}

-- an answer that says a refusal is that refusal
refused-answer : (a : Answer) (k : Refusal) → said a ≡ refused k → a ≡ Err k
refused-answer (Ok _) k e = absurd (never tt k (sym e))
refused-answer (Err r) k e = let s : r ≡ k = cc in ap Err s

-- and two that say the same are the same
same_answer : (a b : Answer) → said a ≡ said b → a ≡ b
same_answer a (Ok _) e = accepted-answer a e
same_answer a (Err r) e = refused-answer a r e

-- the rule, by its counts
states-refused : (s n m : ℕ) → state_count_ok n ≡ false → generate_rule s n m ≡ refused StateCount
unfolding generate_rule
states-refused s n m h = rw h

transitions-refused : (s n m : ℕ) → state_count_ok n ≡ true → transition_count_ok m ≡ false → generate_rule s n m ≡ refused TransitionCount
unfolding generate_rule
transitions-refused s n m h k = rw (h, k)

rule-accepts : (s n m : ℕ) → state_count_ok n ≡ true → transition_count_ok m ≡ true → generate_rule s n m ≡ accepted (generated_graph s n m)
unfolding generate_rule
rule-accepts s n m h k = rw (h, k)

counts_of : (s n m : ℕ) → (states (generated_graph s n m) ≡ n) × (count (generated_graph s n m) ≡ m)
unfolding generated_graph
counts_of s n m = (length-tabulate n _, length-tabulate m (transition_drawn s n))

module _ (c : Calculator) (keeps : Promises c) where
  -- an accepted one was accepted by the rule
  by_rule : {s n m : ℕ} {e : Edited} → c.generates s n m e → e.answer ≡ Accepted → generate_rule s n m ≡ accepted (generated_graph s n m)
  unfolding generate_rule
  by_rule {s} {n} {m} {e} x a =
      let (g, o) = accepted_as (generate_rule s n m) (ap said (sym a) ∙ (keeps.generates x).answer) in
      o ∙ ap accepted (sym (accepted_only (generate_rows n m) (generated_graph s n m) g o).1)

  made : {s n m : ℕ} {e : Edited} → c.generates s n m e → e.answer ≡ Accepted → view e.plan ≡ generated_graph s n m
  made x a = (keeps.generates x).plan ∙ ap (next (view no_plan)) (by_rule x a)

  inside : {s n m : ℕ} {e : Edited} → c.generates s n m e → e.answer ≡ Accepted → within (generated_graph s n m) ≡ true
  inside {s} {n} {m} x a = rule-within s n m (generated_graph s n m) (by_rule x a)

  -- one that the rule refuses
  not_made : {s n m : ℕ} {e : Edited} (k : Refusal) → generate_rule s n m ≡ refused k → c.generates s n m e → (e.answer ≡ Err k) × (e.plan ≡ no_plan)
  not_made {s} {n} {m} {e} k r x = (refused-answer e.answer k ((keeps.generates x).answer ∙ ap answer_of r), (keeps.generates x).whole ∙ ap (next_value no_plan) r)

  -- a write of a generated plan
  written_whole : {s n m : ℕ} {e : Edited} {before after : List ℕ} {w : Written} → c.generates s n m e → e.answer ≡ Accepted
      → image_length n m ≤ length before → c.writes e.plan before after w
      → (w ≡ Ok (image_length n m)) × (after ≡ image (generated_graph s n m) ++ drop (image_length n m) before)
  unfolding write_rule
  written_whole {s} {n} {m} {e} {before} {after} {w} x a room y =
      let g : Graph = generated_graph s n m in
      let (ns, ms) = counts_of s n m in
      let l : length (image g) ≡ image_length n m = rw (ns, ms) at (length-image g) in
      let o : write_rule g before ≡ accepted (length (image g)) = rw (inside x a, ns, ms, le-ltb (length before) (image_length n m) room) (ap accepted (sym l)) in
      let (is, there) = puts (image g) (image g) (write_rule g before) before after w (rw (made x a) at (keeps.writes y)) refl o in
      (is ∙ ap Ok l, there ∙ ap {B = List ℕ} (λ (k : ℕ). image g ++ drop k before) l)

  -- a list of calls from a generated plan
  in_turn_lem : {s n m : ℕ} {e : Edited} {calls : List Call} {answers : List Answer} {last : Plan} → c.generates s n m e → e.answer ≡ Accepted
      → Listed c e.plan calls answers last
      → (map said answers ≡ (run (generated_graph s n m) calls).answers) × (view last ≡ (run (generated_graph s n m) calls).last)
  in_turn_lem {s} {n} {m} {e} {calls} x a o =
      let r = obeyed-run (obeyed c keeps o) in
      (r.0 ∙ ap (λ (g : Graph). (run g calls).answers) (made x a), r.1 ∙ ap (λ (g : Graph). (run g calls).last) (made x a))

  pub generates : Generates c
  generates = record {
    generated_plan = λ {s} {n} {m} {e} x a. (made x a, (keeps.generates x).whole ∙ ap (next_value no_plan) (by_rule x a));
    generated_within = λ x a. ap within (made x a) ∙ inside x a;
    writes_whole = written_whole;
    reads_whole = λ {s} {n} {m} {e} {back} {old} {before} {after} k x a w h y.
        let (is, same) = write-then-read e.plan old before after k back h (keeps.writes w) (keeps.edits y) in
        (is, same ∙ made x a);
    bad-states = λ {s} {n} {m} h x. not_made StateCount (states-refused s n m h) x;
    bad-transitions = λ {s} {n} {m} h k x. not_made TransitionCount (transitions-refused s n m h k) x;
    accepted_else = λ {s} {n} {m} {e} h k x. accepted-answer e.answer ((keeps.generates x).answer ∙ ap answer_of (rule-accepts s n m h k));
    listed = in_turn_lem;
    quoted = λ {s} {n} {m} {e} {calls} {answers} {last} {asked} {before} {after} {q} x a o named room y.
        let g : Graph = (run (generated_graph s n m) calls).last in
        let v : view last ≡ g = (in_turn_lem x a o).1 in
        let w : within g ≡ true = run-within calls (generated_graph s n m) (inside x a) in
        let (z, is) = was-quoted q
        ((keeps.quotes y).answer ∙ ap (λ (h : Graph). quote_rule asked h before) v ∙ quote_done g before asked w named (le-ltb (length before) (states g) room)) in
        (z, is, subst (λ (h : Graph). Stated (says_asked asked h) z before after) v ((keeps.quotes y).quoted z is));
  }

-- what is generated does not depend on who generates
pub same_everywhere : (c c' : Calculator) → Promises c → Promises c' → SameEverywhere c c'
same_everywhere c c' keeps keeps' s n m e e' x y =
    let a : e.answer ≡ e'.answer = same_answer e.answer e'.answer ((keeps.generates x).answer ∙ sym (keeps'.generates y).answer) in
    let p : e.plan ≡ e'.plan = (keeps.generates x).whole ∙ sym (keeps'.generates y).whole in
    let t : e.taken ≡ e'.taken = (keeps.generates x).taken ∙ sym (keeps'.generates y).taken in
    λ i. record { answer = a i; plan = p i; taken = t i }

-- 4 before 5, and the greatest counts
pub generate_numbers : (code (first (generate_rows 0 2049)) ≡ 4) × (code (first (generate_rows 513 2049)) ≡ 4) × (code (first (generate_rows 1 2049)) ≡ 5)
    × (code (first (generate_rows 512 2048)) ≡ 256)
generate_numbers = (refl, refl, refl, refl)

-- one that makes a fixed plan whatever the seed is: of one state and one transition, the seeds 1 and 2 have lows of 1,101 and 1,103
pub makes_a_fixed_plan : (c : Calculator) → Generates c → {e e' : Edited} → c.generates 1 1 1 e → c.generates 2 1 1 e' → e.plan ≡ e'.plan → ⊥
unfolding tabulate generated_graph transition_drawn word_after words low transition
makes_a_fixed_plan c d {e} {e'} x y same =
    let v : generated_graph 1 1 1 ≡ generated_graph 2 1 1 =
    sym (d.generated_plan x (d.accepted_else refl refl x)).0 ∙ ap view same ∙ (d.generated_plan y (d.accepted_else refl refl y)).0 in
    let z : ◌≡◌ {A = ℕ} 1101 1103 = ap (λ (g : Graph). low g 0) v in
    omega arith
