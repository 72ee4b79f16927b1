-- `plan::write`: the plan that its arrays hold is the plan value's. Assumes nothing.
use Rattle.plan.specs.View.{view}
use Rattle.plan.proofs.write.Goals as goal

pub returns : goal.returns
unfolding view
returns c = c.write.ensures
