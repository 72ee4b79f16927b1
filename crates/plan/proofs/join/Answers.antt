-- `plan::join`: the grounds are the rule's rows (`answered`); where none holds the transition is put at the end, and otherwise the plan stays. Assumes nothing.
use Prim.Native.Nat.{ℕ, ◌≤◌, ◌<◌}
use mathlib.Core.Bool.{true}
use mathlib.Core.List.{[], ◌∷◌}
use mathlib.Core.Path.{◌≡◌, sym}
use native.Mathlib.Omega.{arith}
use borrow.Author.Rules.{rules}
use borrow.Author.Tests.{leb-false, not-false}
use lib.Dec.{leb}
use Rattle.graph.specs.Graph.{states, count}
use Rattle.rules.specs.declared.Refusal.TheVariants.{ListFull}
use Rattle.rules.specs.Image.{transition_rows}
use Rattle.rules.specs.Limits.{within}
use Rattle.rules.specs.Refusal.{said}
use Rattle.rules.specs.Rules.{join_rows, with_transition}
use Rattle.rules.specs.Table.{first}
use Rattle.rules.proofs.ReadWrite.{limited, Bounded, bounded, rows_ok}
use Rattle.rules.proofs.Tables.{none-append}
use Rattle.arrays.specs.Tables.{transition}
use Rattle.arrays.specs.declared.Plan.{Plan}
use Rattle.plan.specs.View.{view}
use Rattle.plan.proofs.Edits.{stays, becomes, none-holds, joined, view-joined, past-joined}
use Rattle.plan.specs.Laws.{Sized, states-view, count-view, limits-view}
use Rattle.plan.proofs.join.Goals as goal
use Rattle.plan.proofs.join.Goals.{After-join_grounds-answer, In-Ok, Start}

-- the answer is the first row's
answered : (c : After-join_grounds-answer) → said c.join_grounds-answer.result ≡ first (join_rows (view c.args.p) (transition c.args.from c.args.to c.args.low c.args.high))
answered c = let p = c.args.p in rw (states-view p, count-view p, sym (limits-view p c.in_limits-limited.ensures)) c.join_grounds-answer.ensures

-- what is known of a join that is accepted
record Known (p : Plan) (from to low high : ℕ) : Type 0 where
  numbers : Bounded p.states (transition from to low high)
  states : p.states ≤ 512
  room : p.transitions < 2048

known : (c : In-Ok) → said c.join_grounds-answer.result ≡ first (join_rows (view c.args.p) (transition c.args.from c.args.to c.args.low c.args.high)) → Known c.args.p c.args.from c.args.to c.args.low c.args.high
known c e =
    let p = c.args.p in
    let t = (transition c.args.from c.args.to c.args.low c.args.high) in
    let k = none-holds (join_rows (view p) t) _ c.in-Ok.is e in
    let w : within (view p) ≡ true = not-false _ k.0 in
    let q = none-append (transition_rows (states (view p)) t) ((ListFull, leb 2048 (count (view p))) ∷ []) k.1 in
    let l = limited (view p) w in
    record {
      numbers = rw (states-view p) at (bounded (states (view p)) t (rows_ok (states (view p)) t q.0));
      states = omega (arith, l, states-view p);
      room = omega (arith, leb-false 2048 (count (view p)) q.1.0, count-view p);
    }

-- the arrays of a plan value have their lengths
sized : (c : Start) → Sized c.args.p
sized c = record { marks = search rules; teams = search rules; from = search rules; to = search rules; low = search rules; high = search rules }

pub overflow_cast-p : goal.overflow_cast-p
overflow_cast-p c = omega (arith, (known (goal.at.overflow_cast-p c).In-Ok (answered (goal.at.overflow_cast-p c).After-join_grounds-answer)).numbers, (known (goal.at.overflow_cast-p c).In-Ok (answered (goal.at.overflow_cast-p c).After-join_grounds-answer)).states)

pub overflow_cast-p-in-Ok : goal.overflow_cast-p-in-Ok
overflow_cast-p-in-Ok c = omega (arith, (known (goal.at.overflow_cast-p-in-Ok c).In-Ok (answered (goal.at.overflow_cast-p-in-Ok c).After-join_grounds-answer)).numbers, (known (goal.at.overflow_cast-p-in-Ok c).In-Ok (answered (goal.at.overflow_cast-p-in-Ok c).After-join_grounds-answer)).states)

pub returns-in-Ok : goal.returns-in-Ok
returns-in-Ok c =
    let a = c.args in
    let p = a.p in
    let t = (transition c.args.from c.args.to c.args.low c.args.high) in
    let z = sized (goal.at.returns-in-Ok c).Start in
    let k = known (goal.at.returns-in-Ok c).In-Ok (answered (goal.at.returns-in-Ok c).After-join_grounds-answer) in
    becomes p (joined p a.from a.to a.low a.high) (join_rows (view p) t) (with_transition (view p) t) _ c.in-Ok.is (answered (goal.at.returns-in-Ok c).After-join_grounds-answer)
    (view-joined p z a.from a.to a.low a.high k.room) (past-joined p z a.from a.to a.low a.high k.states k.room)

pub returns-in-Err : goal.returns-in-Err
returns-in-Err c =
    let p = c.args.p in
    let t = (transition c.args.from c.args.to c.args.low c.args.high) in
    stays p (join_rows (view p) t) (with_transition (view p) t) _ _ c.in-Err.is (answered (goal.at.returns-in-Err c).After-join_grounds-answer)
