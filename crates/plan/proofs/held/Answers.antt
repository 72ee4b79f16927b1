-- `plan::held`: arrays of zeros filled from an image are its plan over the plan value with 0 states, all else zero; beside a refusal that value itself comes back.
-- Assumes nothing.
use mathlib.Core.Path.{◌≡◌, refl, sym, ap, ◌∙◌}
use native.Mathlib.Omega.{arith}
use Rattle.graph.specs.Graph.{Graph}
use Rattle.std.specs.Prelude.{Result as Returned}
use Rattle.std.proofs.lemmas.Result.{IfOk-at_ok}
use Rattle.arrays.specs.declared.Counts.{Counts}
use Rattle.image.specs.Read.{states_in, transitions_in}
use Rattle.rules.specs.declared.Refusal.{Refusal}
use Rattle.rules.specs.Image.{read_image}
use Rattle.rules.specs.Refusal.{accepted, made}
use Rattle.taken.specs.Taken.{bits_taken}
use Rattle.arrays.specs.Tables.{graph_of}
use Rattle.plan.specs.Promise.{answered}
use Rattle.plan.specs.View.{view, no_plan}
use Rattle.plan.proofs.Edits.{acceptance}
use Rattle.plan.proofs.held.Goals as goal
use Rattle.plan.proofs.held.Goals.{In-Ok}

-- what the arrays hold is what the rules give
abbrev filled : In-Ok → Graph
filled c =
    let l = c.fill-filled.new in
    graph_of c.in-Ok.counts.states c.in-Ok.counts.transitions l.marks l.teams l.from l.to l.low l.high

pub returns-in-Ok : goal.returns-in-Ok
unfolding view
returns-in-Ok c =
    let os = c.args.octets.now in
    let e = c.fill-filled.ensures in
    let l = c.fill-filled.new in
    let g = filled (goal.at.returns-in-Ok c).In-Ok in
    let n = IfOk-at_ok (λ (k : Counts). (k.states ≡ states_in os) × (k.transitions ≡ transitions_in os)) c.in-Ok.is e.read.counts in
    let ruled : read_image os ≡ accepted g =
    sym e.read.rule ∙ ap (λ (r : Returned Counts Refusal). made r (λ k. graph_of k.states k.transitions l.marks l.teams l.from l.to l.low l.high)) c.in-Ok.is in
    rw (c.answered-answer.ensures ∙ ap answered c.in-Ok.is)
    (acceptance no_plan _ (read_image os) g (bits_taken os) _ ruled refl
    (record {
      marks = rw (n.0) e.marks;
      teams = rw (n.0) e.later_teams;
      from = rw (n.1) e.later.from;
      to = rw (n.1) e.later.to;
      low = rw (n.1) e.later.low;
      high = rw (n.1) e.later.high;
    }) (omega (arith, e.read.bits)))
