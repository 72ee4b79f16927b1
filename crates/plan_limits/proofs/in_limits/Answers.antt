-- `plan_limits::in_limits`: each test is one of the limits, over the counts and the arrays. Assumes nothing.
use mathlib.Core.Bool.{true}
use mathlib.Core.Path.{◌≡◌, sym, ◌∙◌}
use native.Mathlib.Omega.{arith}
use borrow.Author.Tests.{le-leb, lt-leb}
use Rattle.rules.specs.Limits.{state_count_ok}
use Rattle.plan_limits.proofs.Limits.{states-out, count-out, each-out, transitions-left}
use Rattle.plan_limits.proofs.in_limits.Goals as goal
use Rattle.plan_limits.proofs.in_limits.Goals.{Else-not-state_count_ok}

-- past the first test the state count is within its limits
some : (c : Else-not-state_count_ok) → state_count_ok c.args.p.now.states ≡ true
some c = sym c.state_count_ok.ensures ∙ c.if-not-state_count_ok.false

pub returns-then-not-state_count_ok : goal.returns-then-not-state_count_ok
returns-then-not-state_count_ok c =
    let p = c.args.p.now in
    states-out p.states p.transitions p.marks p.teams p.from p.to p.low p.high (sym c.state_count_ok.ensures ∙ c.if-not-state_count_ok.true)

pub returns-then-p-gt2048 : goal.returns-then-p-gt2048
returns-then-p-gt2048 c =
    let p = c.args.p.now in
    count-out p.states p.transitions p.marks p.teams p.from p.to p.low p.high (some (goal.at.returns-then-p-gt2048 c).Else-not-state_count_ok) (lt-leb p.transitions 2048 (omega arith))

pub returns-then-not-states_within : goal.returns-then-not-states_within
returns-then-not-states_within c =
    let p = c.args.p.now in
    each-out p.states p.transitions p.marks p.teams p.from p.to p.low p.high (some (goal.at.returns-then-not-states_within c).Else-not-state_count_ok) (le-leb p.transitions 2048 (omega arith)) (sym c.states_within.ensures ∙ c.if-not-states_within.true)

pub returns : goal.returns
returns c =
    let p = c.args.p.now in
    c.transitions_within.ensures ∙ transitions-left p.states p.transitions p.marks p.teams p.from p.to p.low p.high (some (goal.at.returns c).Else-not-state_count_ok) (le-leb p.transitions 2048 (omega arith)) (sym c.states_within.ensures ∙ c.if-not-states_within.false)
