-- `plan::within`: the limits of what the arrays hold are those of the plan. Assumes nothing.
use Rattle.plan.specs.Laws.{limits-view}
use Rattle.plan.proofs.within.Goals as goal

pub returns : goal.returns
returns c = limits-view c.args.p c.in_limits.ensures
