-- `array_limits::states_within` meets its contract. The invariant: every state passed is within the limits.
-- Assumes nothing.
use mathlib.Core.Path.{sym, ◌∙◌}
use native.Mathlib.Omega.{arith}
use Rattle.rules.specs.Limits.{state_ok}
use Rattle.arrays.specs.Tables.{state_of}
use Rattle.rules.proofs.Tabulated.{all-tabulate, not_all-tabulate}
use Rattle.array_limits.proofs.states_within.Goals as goal

pub returns-then-not-state_within : goal.returns-then-not-state_within
returns-then-not-state_within c =
    let p = c.args.p.now in
    sym (not_all-tabulate state_ok p.states (state_of p.marks p.teams) c.loop-i.i (omega arith)
    (sym c.state_within.ensures ∙ c.if-not-state_within.true))

pub returns : goal.returns
returns c =
    let p = c.args.p.now in
    let l = c.loop-i in
    sym (all-tabulate state_ok p.states (state_of p.marks p.teams) (λ k h. l.invariant.1 k (omega arith)))
