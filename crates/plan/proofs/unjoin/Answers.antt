-- `plan::unjoin`: the grounds are the rule's rows (`answered`); where none holds each array has its later places moved down, and otherwise the plan stays.
-- Assumes nothing.
use Prim.Native.Nat.{ℕ, ◌≤◌, ◌<◌}
use mathlib.Core.Bool.{true}
use mathlib.Core.Path.{◌≡◌, refl, sym, ap, ◌∙◌, subst}
use native.Mathlib.Omega.{arith}
use borrow.Author.Rules.{rules}
use borrow.Author.Tests.{leb-false, not-false}
use Rattle.graph.specs.Graph.{count}
use Rattle.rules.specs.Limits.{within}
use Rattle.rules.specs.Refusal.{said}
use Rattle.rules.specs.Rules.{unjoin_rows, without}
use Rattle.rules.specs.Table.{first}
use Rattle.rules.proofs.ReadWrite.{limited}
use Rattle.arrays.specs.declared.Plan.{Plan}
use Rattle.plan.specs.View.{view}
use Rattle.plan.proofs.Edits.{Past, stays, becomes, none-holds, same-arrays, unjoined, view-unjoined, past-unjoined}
use Rattle.plan.specs.Laws.{Sized, states-view, count-view, limits-view}
use Rattle.plan.proofs.unjoin.Goals as goal
use Rattle.plan.proofs.unjoin.Goals.{After-unjoin_grounds-answer, In-Ok, Start}

-- the answer is the first row's
answered : (c : After-unjoin_grounds-answer) → said c.unjoin_grounds-answer.result ≡ first (unjoin_rows (view c.args.p) c.args.number)
answered c = let p = c.args.p in rw (count-view p, sym (limits-view p c.in_limits-limited.ensures)) c.unjoin_grounds-answer.ensures

-- what is known of an unjoin that is accepted
record Known (p : Plan) (number : ℕ) : Type 0 where
  below : number < p.transitions
  states : p.states ≤ 512
  count : p.transitions ≤ 2048

known : (c : In-Ok) → said c.unjoin_grounds-answer.result ≡ first (unjoin_rows (view c.args.p) c.args.number) → Known c.args.p c.args.number
known c e =
    let p = c.args.p in
    let k = none-holds (unjoin_rows (view p) c.args.number) _ c.in-Ok.is e in
    let w : within (view p) ≡ true = not-false _ k.0 in
    let l = limited (view p) w in
    record {
      below = omega (arith, leb-false (count (view p)) c.args.number k.1.0, count-view p);
      states = omega (arith, l, states-view p);
      count = omega (arith, l, count-view p);
    }

-- the arrays of a plan value have their lengths
sized : (c : Start) → Sized c.args.p
sized c = record { marks = search rules; teams = search rules; from = search rules; to = search rules; low = search rules; high = search rules }

pub remove-requires : goal.remove-requires
remove-requires c = let k = known (goal.at.remove-requires c).In-Ok (answered (goal.at.remove-requires c).After-unjoin_grounds-answer) in omega (arith, k.below, k.count, (sized (goal.at.remove-requires c).Start).from)

pub remove-requires-in-Ok : goal.remove-requires-in-Ok
remove-requires-in-Ok c = let k = known (goal.at.remove-requires-in-Ok c).In-Ok (answered (goal.at.remove-requires-in-Ok c).After-unjoin_grounds-answer) in omega (arith, k.below, k.count, (sized (goal.at.remove-requires-in-Ok c).Start).to)

pub remove-requires-in-Ok-2 : goal.remove-requires-in-Ok-2
remove-requires-in-Ok-2 c = let k = known (goal.at.remove-requires-in-Ok-2 c).In-Ok (answered (goal.at.remove-requires-in-Ok-2 c).After-unjoin_grounds-answer) in omega (arith, k.below, k.count, (sized (goal.at.remove-requires-in-Ok-2 c).Start).low)

pub remove-requires-in-Ok-3 : goal.remove-requires-in-Ok-3
remove-requires-in-Ok-3 c = let k = known (goal.at.remove-requires-in-Ok-3 c).In-Ok (answered (goal.at.remove-requires-in-Ok-3 c).After-unjoin_grounds-answer) in omega (arith, k.below, k.count, (sized (goal.at.remove-requires-in-Ok-3 c).Start).high)

pub returns-in-Ok : goal.returns-in-Ok
returns-in-Ok c =
    let p = c.args.p in
    let k = c.args.number in
    let z = sized (goal.at.returns-in-Ok c).Start in
    let h = known (goal.at.returns-in-Ok c).In-Ok (answered (goal.at.returns-in-Ok c).After-unjoin_grounds-answer) in
    let e : _ ≡ unjoined p k = same-arrays refl refl c.remove.ensures c.remove-in-Ok.ensures c.remove-in-Ok-2.ensures c.remove-in-Ok-3.ensures in
    becomes p _ (unjoin_rows (view p) k) (without (view p) k) _ c.in-Ok.is (answered (goal.at.returns-in-Ok c).After-unjoin_grounds-answer)
    (ap view e ∙ view-unjoined p z k h.below h.count) (subst (Past p) (sym e) (past-unjoined p z k h.states h.below h.count))

pub returns-in-Err : goal.returns-in-Err
returns-in-Err c =
    let p = c.args.p in
    stays p (unjoin_rows (view p) c.args.number) (without (view p) c.args.number) _ _ c.in-Err.is (answered (goal.at.returns-in-Err c).After-unjoin_grounds-answer)
