-- `plan::replace`: the old plan's limits are the first row, then the octets' decide. The plan of accepted ones is laid over the old plan's arrays (`overlaid`);
-- otherwise the plan stays. Assumes nothing.
use mathlib.Core.Path.{◌≡◌, sym, ap, ◌∙◌, subst}
use native.Mathlib.Omega.{arith}
use Rattle.graph.specs.Graph.{Graph}
use Rattle.std.specs.Prelude.{Result as Returned}
use Rattle.std.proofs.lemmas.Result.{IfOk-at_ok}
use Rattle.arrays.specs.declared.Counts.{Counts}
use Rattle.arrays.specs.Tables.{graph_of}
use Rattle.rules.specs.declared.Refusal.{Refusal}
use Prim.Native.Nat.{◌≤◌}
use Rattle.rules.specs.Calls.{Call, step, replacing}
use Rattle.rules.specs.Refusal.{Result, accepted, refused, made}
use Rattle.taken.specs.Taken.{bits_of}
use Rattle.arrays.specs.declared.Plan.{Plan}
use Rattle.plan.specs.Promise.{answered}
use Rattle.plan.specs.View.{view, plan_of}
use Rattle.plan.proofs.Edits.{Past, refusal, acceptance, InArrays, same-arrays, overlaid, view-overlaid, past-overlaid}
use Rattle.plan.specs.Laws.{Sized, limits-view}
use borrow.Author.Rules.{rules}
use Rattle.plan.proofs.replace.Goals as goal
use Rattle.plan.proofs.replace.Goals.{After-take-taken, In-Ok, Start}

-- the arrays of a plan value have their lengths
sized : (c : Start) → Sized c.args.p
sized c = record { marks = search rules; teams = search rules; from = search rules; to = search rules; low = search rules; high = search rules }

-- the plan value that was taken from the octets
taken : (c : In-Ok) → Plan
taken c =
    let l = c.take-taken.new in
    plan_of c.in-Ok.counts.states c.in-Ok.counts.transitions l.marks l.teams l.from l.to l.low l.high

-- its plan is what the rules give
ruled : (c : In-Ok) → step (view c.args.p) (replacing c.args.format c.args.octets.now) ≡ accepted (view (taken c))
unfolding view taken
ruled c =
    let p = c.args.p in
    let l = c.take-taken.new in
    sym (c.take-taken.ensures.rule (view p) (sym (limits-view p c.in_limits-limited.ensures)))
    ∙ ap (λ (r : Returned Counts Refusal). made r (λ k. graph_of k.states k.transitions l.marks l.teams l.from l.to l.low l.high)) c.in-Ok.is

-- and the count is of the bits that the call takes
counted : (c : After-take-taken) → c.take-taken.new.taken ≡ bits_of (view c.args.p) (replacing c.args.format c.args.octets.now)
counted c =
    let p = c.args.p in
    omega (arith, c.take-taken.ensures.bits (view p) (sym (limits-view p c.in_limits-limited.ensures)))

-- its counts are a plan's
few : (c : In-Ok) → (c.in-Ok.counts.states ≤ 512) × (c.in-Ok.counts.transitions ≤ 2048)
few c = IfOk-at_ok (λ (k : Counts). (k.states ≤ 512) × (k.transitions ≤ 2048)) c.in-Ok.is c.take-taken.ensures.counts

-- it has room in its arrays
room : (c : In-Ok) → InArrays (taken c)
unfolding taken
room c =
    let e = c.take-taken.ensures in
    let n = few c in
    record {
      marks = omega (arith, n.0, e.states.0);
      teams = omega (arith, n.0, e.states.1);
      from = omega (arith, n.1, e.transitions.0);
      to = omega (arith, n.1, e.transitions.1);
      low = omega (arith, n.1, e.transitions.2);
      high = omega (arith, n.1, e.transitions.3);
    }

pub returns-in-Ok : goal.returns-in-Ok
unfolding taken
returns-in-Ok c =
    let in_ok = (goal.at.returns-in-Ok c).In-Ok in
    let p = c.args.p in
    let q = taken in_ok in
    let r = room in_ok in
    let n = few in_ok in
    let call : Call = replacing c.args.format c.args.octets.now in
    let o : Result Graph = step (view p) call in
    let e : _ ≡ overlaid p q = same-arrays c.lay.ensures c.lay-in-Ok.ensures c.lay-in-Ok-2.ensures c.lay-in-Ok-3.ensures c.lay-in-Ok-4.ensures c.lay-in-Ok-5.ensures in
    rw (c.answered-answer.ensures ∙ ap answered c.in-Ok.is)
    (acceptance p _ o (view q) (bits_of (view p) call) _ (ruled in_ok) (ap view e ∙ view-overlaid p q r)
    (subst (Past p) (sym e) (past-overlaid p (sized (goal.at.returns-in-Ok c).Start) q r n.0 n.1)) (counted (goal.at.returns-in-Ok c).After-take-taken))

pub returns-in-Err : goal.returns-in-Err
returns-in-Err c =
    let p = c.args.p in
    let l = c.take-taken.new in
    let call : Call = replacing c.args.format c.args.octets.now in
    let o : Result Graph = step (view p) call in
    let e : o ≡ refused c.in-Err.field-0 =
    sym (c.take-taken.ensures.rule (view p) (sym (limits-view p c.in_limits-limited.ensures)))
    ∙ ap (λ (r : Returned Counts Refusal). made r (λ k. graph_of k.states k.transitions l.marks l.teams l.from l.to l.low l.high)) c.in-Err.is in
    rw (c.answered-answer.ensures ∙ ap answered c.in-Err.is) (refusal p o _ (bits_of (view p) call) _ e (counted (goal.at.returns-in-Err c).After-take-taken))
