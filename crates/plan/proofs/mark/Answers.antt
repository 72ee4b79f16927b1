-- `plan::mark`: the grounds are the rule's rows (`answered`); where none holds the value is put, and otherwise the plan stays. Assumes nothing.
use Prim.Native.Nat.{ℕ, ◌≤◌, ◌<◌}
use mathlib.Core.Bool.{true}
use mathlib.Core.Path.{◌≡◌, sym}
use native.Mathlib.Omega.{arith}
use borrow.Author.Rules.{rules}
use borrow.Author.Tests.{leb-true, leb-false, not-false}
use Rattle.graph.specs.Graph.{states}
use Rattle.rules.specs.Limits.{within, marks_ok}
use Rattle.rules.specs.Refusal.{said}
use Rattle.rules.specs.Rules.{mark_rows, with_mark}
use Rattle.rules.specs.Table.{first}
use Rattle.rules.proofs.ReadWrite.{limited}
use Rattle.arrays.specs.declared.Plan.{Plan}
use Rattle.plan.specs.View.{view}
use Rattle.plan.proofs.Edits.{stays, becomes, none-holds, marked, view-marked, past-marked}
use Rattle.plan.specs.Laws.{Sized, states-view, count-view, limits-view}
use Rattle.plan.proofs.mark.Goals as goal
use Rattle.plan.proofs.mark.Goals.{After-mark_grounds-answer, In-Ok, Start}

-- the answer is the first row's
answered : (c : After-mark_grounds-answer) → said c.mark_grounds-answer.result ≡ first (mark_rows (view c.args.p) c.args.state c.args.value)
answered c = let p = c.args.p in rw (states-view p, sym (limits-view p c.in_limits-limited.ensures)) c.mark_grounds-answer.ensures

-- what is known of a mark that is accepted
record Known (p : Plan) (state value : ℕ) : Type 0 where
  below : state < p.states
  few : value ≤ 7
  states : p.states ≤ 512
  count : p.transitions ≤ 2048

known : (c : In-Ok) → said c.mark_grounds-answer.result ≡ first (mark_rows (view c.args.p) c.args.state c.args.value) → Known c.args.p c.args.state c.args.value
known c e =
    let p = c.args.p in
    let k = none-holds (mark_rows (view p) c.args.state c.args.value) _ c.in-Ok.is e in
    let w : within (view p) ≡ true = not-false _ k.0 in
    let l = limited (view p) w in
    let v : marks_ok c.args.value ≡ true = not-false _ k.1.1.0 in
    record {
      below = omega (arith, leb-false (states (view p)) c.args.state k.1.0, states-view p);
      few = leb-true c.args.value 7 v;
      states = omega (arith, l, states-view p);
      count = omega (arith, l, count-view p);
    }

-- the arrays of a plan value have their lengths
sized : (c : Start) → Sized c.args.p
sized c = record { marks = search rules; teams = search rules; from = search rules; to = search rules; low = search rules; high = search rules }

pub bounds-p-state : goal.bounds-p-state
bounds-p-state c = omega (arith, (known (goal.at.bounds-p-state c).In-Ok (answered (goal.at.bounds-p-state c).After-mark_grounds-answer)).below, (known (goal.at.bounds-p-state c).In-Ok (answered (goal.at.bounds-p-state c).After-mark_grounds-answer)).states)

pub returns-in-Ok : goal.returns-in-Ok
returns-in-Ok c =
    let p = c.args.p in
    let state = c.args.state in
    let value = c.args.value in
    let z = sized (goal.at.returns-in-Ok c).Start in
    let k = known (goal.at.returns-in-Ok c).In-Ok (answered (goal.at.returns-in-Ok c).After-mark_grounds-answer) in
    becomes p (marked p state value) (mark_rows (view p) state value) (with_mark (view p) state value) _ c.in-Ok.is (answered (goal.at.returns-in-Ok c).After-mark_grounds-answer)
    (view-marked p state value k.below (omega (arith, z.marks, k.below, k.states))) (past-marked p z state value k.below k.states k.count)

pub returns-in-Err : goal.returns-in-Err
returns-in-Err c =
    let p = c.args.p in
    stays p (mark_rows (view p) c.args.state c.args.value) (with_mark (view p) c.args.state c.args.value) _ _
    c.in-Err.is (answered (goal.at.returns-in-Err c).After-mark_grounds-answer)
