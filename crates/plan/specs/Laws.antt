-- Laws of the definitions beside this file, published with them, so that whoever reads a plan value by `view` needs nothing of the proofs of this crate. The counts
-- are the lists' lengths; a plan laid over arrays is what they then stand for, and so is the value after a call; the plan that an image holds is within the limits.
-- Assumes nothing.
use Rattle.std.specs.Prelude.{Bool, true, List, map, ◌≡◌, refl, ℕ, ◌<◌, length, get_or, drop}
use Rattle.std.proofs.Common.{sym, ap, ap₂, ◌∙◌, arith}
use Rattle.std.proofs.lemmas.List.{length-map}
use Rattle.std.proofs.Math.ListN.{get_or-append, get_or-map}
use Rattle.graph.specs.Graph.{Graph, State, Transition, state_with, marked, states, count}
use Rattle.rules.specs.Answer.{Accepted}
use Rattle.rules.specs.Image.{read_image}
use Rattle.rules.specs.Limits.{within}
use Rattle.rules.specs.Refusal.{Result, accepted, refused, said}
use Rattle.rules.specs.Rules.{next}
use Rattle.plan.specs.declared.Edited.{Edited}
use Rattle.arrays.specs.declared.Plan.{Plan}
use Rattle.arrays.specs.Tables.{graph_in_arrays, state_of, transition_of, over}
use Rattle.plan.specs.Promise.{next_value, Held}
use Rattle.plan.specs.View.{view, laid, no_plan}
use Rattle.rules.proofs.ReadWrite.{read-within}
use Rattle.rules.proofs.Results.{accepted_as}
use Rattle.rules.proofs.Tabulated.{tabulate_of}
use Rattle.arrays.proofs.Lists.{states_of_lem, count_of, same-transition}

-- a plan value's arrays have their lengths
pub record Sized (p : Plan) : Type 0 where
  pub marks : length p.marks ≡ 512
  pub teams : length p.teams ≡ 512
  pub from : length p.from ≡ 2048
  pub to : length p.to ≡ 2048
  pub low : length p.low ≡ 2048
  pub high : length p.high ≡ 2048

pub states-view : (p : Plan) → states (view p) ≡ p.states
unfolding view
states-view p = states_of_lem p.states p.transitions p.marks p.teams p.from p.to p.low p.high

pub count-view : (p : Plan) → count (view p) ≡ p.transitions
unfolding view
count-view p = count_of p.states p.transitions p.marks p.teams p.from p.to p.low p.high

-- the limits of the plan that the arrays hold
pub limits-view : (p : Plan) {r : Bool} → r ≡ within (graph_in_arrays p) → r ≡ within (view p)
unfolding view
limits-view p e = e

-- a plan laid over the arrays of any plan value is what they then hold
pub view-laid : (p : Plan) (g : Graph) → view (laid p g) ≡ g
unfolding view laid
view-laid p g = λ i. record {
  state_list =
      tabulate_of (marked 0) g.state_list (states g)
      (state_of (over (map (λ (s : State). s.marks) g.state_list) p.marks) (over (map (λ (s : State). s.team) g.state_list) p.teams)) refl
      (λ j h. ap₂ state_with (sym (at (λ (s : State). s.marks) g.state_list p.marks j (marked 0) refl h))
      (sym (at (λ (s : State). s.team) g.state_list p.teams j (marked 0) refl h))) i;
  transitions =
      let ts = g.transitions in
      let o : Transition = record { from = 0; to = 0; low = 0; high = 0 } in
      tabulate_of o ts (length ts) (transition_of (over (map (λ (t : Transition). t.from) ts) p.from) (over (map (λ (t : Transition). t.to) ts) p.to)
      (over (map (λ (t : Transition). t.low) ts) p.low) (over (map (λ (t : Transition). t.high) ts) p.high)) refl
      (λ j h. sym (same-transition
      (at (λ (t : Transition). t.from) ts p.from j o refl h) (at (λ (t : Transition). t.to) ts p.to j o refl h)
      (at (λ (t : Transition). t.low) ts p.low j o refl h) (at (λ (t : Transition). t.high) ts p.high j o refl h))) i;
}
  where
    at : {A : Type 0} (part : A → ℕ) (l : List A) (before : List ℕ) (j : ℕ) (d : A) → part d ≡ 0 → j < length l → get_or (over (map part l) before) j 0 ≡ part (get_or l j d)
    at part l before j d z h =
        get_or-append (map part l) (drop (length (map part l)) before) 0 j (omega (arith, length-map l part))
        ∙ ap (λ (x : ℕ). get_or (map part l) j x) (sym z) ∙ get_or-map part l j d

-- so the value after a call stands for the plan after it
pub view-next : (p : Plan) (o : Result Graph) → view (next_value p o) ≡ next (view p) o
view-next p (accepted g) = view-laid p g
view-next p (refused k) = refl

-- the plan of an image that is accepted
pub held-plan : (image : List ℕ) (f : Edited) → Held image f → (g : Graph) → read_image image ≡ accepted g → view f.plan ≡ g
held-plan image f h g i = h.plan ∙ ap (next (view no_plan)) i

-- and it is within the limits
pub held-within : (image : List ℕ) (f : Edited) → Held image f → f.answer ≡ Accepted → within (view f.plan) ≡ true
held-within image f h a =
    let s = accepted_as (read_image image) (sym (ap said a) ∙ h.answer) in
    ap within (held-plan image f h s.0 s.1) ∙ read-within image s.0 s.1
