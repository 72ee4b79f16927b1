-- Every call keeps a plan within the limits: fresh makes one, each event that is accepted leaves one, and a refused one leaves the plan. So
-- every plan that a list of calls from a fresh plan comes to is within the limits. So is the plan of an image whose four figures were quoted.
-- Assumes nothing.
use mathlib.Core.Bool.{true, false}
use mathlib.Core.List.{List, [], ◌∷◌, ◌++◌}
use mathlib.Core.Path.{◌≡◌, refl, sym, ap, ap₂, ◌∙◌}
use Prim.Native.Nat.{ℕ, suc, ◌+◌, ◌-◌, ◌<◌, min}
use native.Mathlib.Omega.{arith}
use lib.Dec.{leb}
use lib.ListN.{length, take, drop, set, replicate, length-append, length-take, length-drop, length-set, length-replicate}
use borrow.Author.Tests.{leb-true, leb-false}
use Rattle.graph.specs.Class.{team_ok}
use Rattle.graph.specs.Graph.{Graph, State, Transition, state_with, marked, states, count, state}
use Rattle.rules.specs.declared.Format.{Format}
use Rattle.rules.specs.declared.Format.TheVariants.{Image, Text}
use Rattle.rules.specs.declared.FourQuotes.{FourQuotes}
use Rattle.rules.specs.Answer.{Quotations}
use Rattle.std.proofs.Common.{Ok}
use Rattle.rules.specs.declared.Refusal.TheVariants.{ListFull}
use Rattle.rules.specs.Refusal.{Result, accepted, refused}
use Rattle.rules.specs.Limits.{all, within, state_count_ok, marks_ok, state_ok, transition_ok}
use Rattle.rules.specs.Image.{transition_rows, image_rows, graph_in, read_image}
use Rattle.rules.specs.Rules.{fresh_graph, with_transition, without, next, buffer_row}
use Rattle.rules.specs.Quotations.{said_quotations, QuotesHeld, held_rows, held_rule}
use Rattle.rules.specs.Table.{NoneHolds}
use Rattle.rules.specs.Aldebaran.{text_rows, graph_in_text, import_text}
use Rattle.rules.specs.Calls.{Call, mark, team, join, unjoin, read, import, rows_of, effect_of, step, run, held_in}
use Rattle.rules.proofs.Results.{not-false, and_true, both_true, all_get_d, all_append, all_take, all_drop, all_set, all_replicate}
use Rattle.rules.proofs.Tables.{accepted_where, accepted_only, none-append}
use Rattle.rules.proofs.ReadWrite.{limited, within-limits, rows_ok, read-within}
use Rattle.rules.proofs.ImportExport.{import-within}

-- ---- each event

pub fresh-within : (n : ℕ) → state_count_ok n ≡ true → within (fresh_graph n) ≡ true
unfolding all
fresh-within n h =
    let s = and_true (leb 1 n) (leb n 512) h in
    let l : length (replicate n (marked 0)) ≡ n = length-replicate n (marked 0) in
    within-limits (fresh_graph n)
    (record {
      least = omega (arith, leb-true 1 n s.0);
      most = omega (arith, leb-true n 512 s.1);
      transitions = omega arith;
      each-state = all_replicate state_ok n (marked 0) refl;
      each-transition = refl;
    })

-- a state set to one within the limits: its marks value, or its team
set-within : (g : Graph) (s : ℕ) (x : State) → within g ≡ true → state_ok x ≡ true → within (record { state_list = set g.state_list s x; transitions = g.transitions }) ≡ true
set-within g s x w h =
    let l = limited g w in
    let k : length (set g.state_list s x) ≡ states g = length-set g.state_list s x in
    within-limits (record { state_list = set g.state_list s x; transitions = g.transitions })
    (record {
      least = omega (arith, l.least, k);
      most = omega (arith, l.most, k);
      transitions = l.transitions;
      each-state = all_set state_ok g.state_list s x l.each-state h;
      each-transition = ap (λ (n : ℕ). all (transition_ok n) g.transitions) k ∙ l.each-transition;
    })

-- the marks value and the team of a state of the plan
state-parts : (g : Graph) (s : ℕ) → within g ≡ true → leb (states g) s ≡ false → (marks_ok (state g s).marks ≡ true) × (team_ok (state g s).team ≡ true)
state-parts g s w h =
    and_true (marks_ok (state g s).marks) (team_ok (state g s).team)
    (all_get_d state_ok g.state_list s (marked 0) (limited g w).each-state (leb-false (states g) s h))

-- of each call, where none of its rows holds
effect-within : (g : Graph) (call : Call) → NoneHolds (rows_of g call) → within (effect_of g call) ≡ true
unfolding all read_image import_text
effect-within g (mark s value) (w, (h, (v, u))) =
    let inside = not-false (within g) w in
    set-within g s (state_with value (state g s).team) inside
    (both_true (marks_ok value) (team_ok (state g s).team) (not-false (marks_ok value) v) (state-parts g s inside h).1)
effect-within g (team s number) (w, (h, (v, u))) =
    let inside = not-false (within g) w in
    set-within g s (state_with (state g s).marks number) inside
    (both_true (marks_ok (state g s).marks) (team_ok number) (state-parts g s inside h).0 (not-false (team_ok number) v))
effect-within g (join t) (w, grounds) =
    let l = limited g (not-false (within g) w) in
    let (own, full) = none-append (transition_rows (states g) t) ((ListFull, leb 2048 (count g)) ∷ []) grounds in
    let room : count g < 2048 = leb-false 2048 (count g) full.0 in
    let k : length (g.transitions ++ (t ∷ [])) ≡ count g + 1 = length-append g.transitions (t ∷ []) in
    within-limits (with_transition g t)
    (record {
      least = l.least;
      most = l.most;
      transitions = omega arith;
      each-state = l.each-state;
      each-transition =
          all_append (transition_ok (states g)) g.transitions (t ∷ []) l.each-transition
          (rw (rows_ok (states g) t own) refl);
    })
effect-within g (unjoin number) (w, r) =
    let l = limited g (not-false (within g) w) in
    let ts : List Transition = g.transitions in
    let k : length (take number ts ++ drop (suc number) ts) ≡ min number (length ts) + (length ts - suc number) =
    length-append (take number ts) (drop (suc number) ts) ∙ ap₂ ◌+◌ (length-take number ts) (length-drop (suc number) ts) in
    within-limits (without g number)
    (record {
      least = l.least;
      most = l.most;
      transitions = omega arith;
      each-state = l.each-state;
      each-transition =
          all_append (transition_ok (states g)) (take number ts) (drop (suc number) ts)
          (all_take (transition_ok (states g)) number ts l.each-transition) (all_drop (transition_ok (states g)) (suc number) ts l.each-transition);
    })
effect-within g (read octets) (w, r) = read-within octets (graph_in octets) (accepted_where (image_rows octets) (graph_in octets) r)
effect-within g (import text) (w, r) = import-within text (graph_in_text text) (accepted_where (text_rows text) (graph_in_text text) r)

-- ---- a list of calls

pub step-within : (g g' : Graph) (call : Call) → step g call ≡ accepted g' → within g' ≡ true
step-within g g' call e =
    let (none, same) = accepted_only (rows_of g call) (effect_of g call) g' e in
    ap within (sym same) ∙ effect-within g call none

next-within : (g : Graph) (call : Call) (o : Result Graph) → step g call ≡ o → within g ≡ true → within (next g o) ≡ true
next-within g call (accepted g') e h = step-within g g' call e
next-within g call (refused r) e h = h

pub run-within : (calls : List Call) (g : Graph) → within g ≡ true → within (run g calls).last ≡ true
unfolding run
run-within [] g h = h
run-within (call ∷ calls) g h = run-within calls (next g (step g call)) (next-within g call (step g call) refl h)

-- ---- a plan that an image or a text holds

pub held_in_within : (format : Format) (octets : List ℕ) (g : Graph) → held_in format octets ≡ accepted g → within g ≡ true
held_in_within Image octets g e = read-within octets g e
held_in_within Text octets g e = import-within octets g e

-- where all four of an image are quoted, its plan is within the limits
pub held-within-limits : (image before after : List ℕ) (r : Quotations) → QuotesHeld image before after r → (q : FourQuotes) → r ≡ Ok q
    → within (graph_in image) ≡ true
unfolding held_rule read_image
held-within-limits image before after r x q e =
    let n = none-append (image_rows image) (buffer_row before 2048 ∷ []) (accepted_only (held_rows image before) tt tt (sym x.answer ∙ ap said_quotations e)).0 in
    read-within image (graph_in image) (accepted_where (image_rows image) (graph_in image) n.0)
