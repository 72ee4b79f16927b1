-- `plan::team`: the grounds are the rule's rows (`answered`); where none holds the team is put, and otherwise the plan stays. Assumes nothing.
use Prim.Native.Nat.{ℕ, ◌≤◌, ◌<◌}
use mathlib.Core.Bool.{true}
use mathlib.Core.Path.{◌≡◌, sym}
use native.Mathlib.Omega.{arith}
use borrow.Author.Rules.{rules}
use borrow.Author.Tests.{leb-true, leb-false, not-false}
use Rattle.graph.specs.Graph.{states}
use Rattle.graph.specs.Class.{team_ok}
use Rattle.rules.specs.Limits.{within}
use Rattle.rules.specs.Refusal.{said}
use Rattle.rules.specs.Rules.{team_rows, with_team}
use Rattle.rules.specs.Table.{first}
use Rattle.rules.proofs.ReadWrite.{limited}
use Rattle.arrays.specs.declared.Plan.{Plan}
use Rattle.plan.specs.View.{view}
use Rattle.plan.proofs.Edits.{stays, becomes, none-holds, teamed, view-teamed, past-teamed}
use Rattle.plan.specs.Laws.{Sized, states-view, count-view, limits-view}
use Rattle.plan.proofs.team.Goals as goal
use Rattle.plan.proofs.team.Goals.{After-team_grounds-answer, In-Ok, Start}

-- the answer is the first row's
answered : (c : After-team_grounds-answer) → said c.team_grounds-answer.result ≡ first (team_rows (view c.args.p) c.args.state c.args.number)
answered c = let p = c.args.p in rw (states-view p, sym (limits-view p c.in_limits-limited.ensures)) c.team_grounds-answer.ensures

-- what is known of a team that is accepted
record Known (p : Plan) (state number : ℕ) : Type 0 where
  below : state < p.states
  few : number ≤ 31
  states : p.states ≤ 512
  count : p.transitions ≤ 2048

known : (c : In-Ok) → said c.team_grounds-answer.result ≡ first (team_rows (view c.args.p) c.args.state c.args.number) → Known c.args.p c.args.state c.args.number
known c e =
    let p = c.args.p in
    let k = none-holds (team_rows (view p) c.args.state c.args.number) _ c.in-Ok.is e in
    let w : within (view p) ≡ true = not-false _ k.0 in
    let l = limited (view p) w in
    let v : team_ok c.args.number ≡ true = not-false _ k.1.1.0 in
    record {
      below = omega (arith, leb-false (states (view p)) c.args.state k.1.0, states-view p);
      few = leb-true c.args.number 31 v;
      states = omega (arith, l, states-view p);
      count = omega (arith, l, count-view p);
    }

-- the arrays of a plan value have their lengths
sized : (c : Start) → Sized c.args.p
sized c = record { marks = search rules; teams = search rules; from = search rules; to = search rules; low = search rules; high = search rules }

pub bounds-p-state : goal.bounds-p-state
bounds-p-state c = omega (arith, (known (goal.at.bounds-p-state c).In-Ok (answered (goal.at.bounds-p-state c).After-team_grounds-answer)).below, (known (goal.at.bounds-p-state c).In-Ok (answered (goal.at.bounds-p-state c).After-team_grounds-answer)).states)

pub returns-in-Ok : goal.returns-in-Ok
returns-in-Ok c =
    let p = c.args.p in
    let state = c.args.state in
    let number = c.args.number in
    let z = sized (goal.at.returns-in-Ok c).Start in
    let k = known (goal.at.returns-in-Ok c).In-Ok (answered (goal.at.returns-in-Ok c).After-team_grounds-answer) in
    becomes p (teamed p state number) (team_rows (view p) state number) (with_team (view p) state number) _ c.in-Ok.is (answered (goal.at.returns-in-Ok c).After-team_grounds-answer)
    (view-teamed p state number k.below (omega (arith, z.teams, k.below, k.states))) (past-teamed p z state number k.below k.states k.count)

pub returns-in-Err : goal.returns-in-Err
returns-in-Err c =
    let p = c.args.p in
    stays p (team_rows (view p) c.args.state c.args.number) (with_team (view p) c.args.state c.args.number) _ _
    c.in-Err.is (answered (goal.at.returns-in-Err c).After-team_grounds-answer)
