-- `plan::export`: the plan that its arrays hold is the plan value's. Assumes nothing.
use Rattle.plan.specs.View.{view}
use Rattle.plan.proofs.export.Goals as goal

pub returns : goal.returns
unfolding view
returns c = c.export.ensures
