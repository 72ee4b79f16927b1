-- `quotation::ask`: what is asked of the limits and the places is asked of the plan. Assumes nothing.
use mathlib.Core.Path.{sym}
use Rattle.plan.specs.Laws.{states-view}
use Rattle.rules.specs.Quotations.{quote_rule}
use Rattle.quotation.proofs.ask.Goals as goal

pub returns : goal.returns
unfolding quote_rule
returns c = λ lent e. rw (e, states-view c.args.p, sym c.within-limited.ensures) c.ask.ensures
